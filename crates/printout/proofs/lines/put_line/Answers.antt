use Rattle.std.proofs.Common.{append-nil, arith}
use Rattle.printout.proofs.Laws.{line_length, number_within, newline_within, number_written, line_written}
use Rattle.printout.proofs.lines.put_line.Goals as goal

pub loop-x-init : goal.loop-x-init
loop-x-init c = rw append-nil (c.put.ensures.written (omega (arith, line_length c.args.word.now c.args.numbers.now)))

pub put_number-requires : goal.put_number-requires
put_number-requires c =
    omega (arith, number_within c.args.word.now c.args.numbers.now c.loop-x.x-index c.loop-x-test.true)

pub loop-x-preserved : goal.loop-x-preserved
loop-x-preserved c = number_written _ _ _ c.loop-x-test.true c.loop-x.invariant c.put_number.ensures

pub returns : goal.returns
returns c =
    let end = c.put-2.ensures.written (omega (arith, newline_within c.args.word.now c.args.numbers.now c.loop-x.x-index c.loop-x-test.false)) in
    let w = line_written _ _ _ c.loop-x-test.false c.loop-x.invariant end in
    record { written = w; short = omega (arith, w, c.requires.fits) }
