-- The digits and the space before them are what is put.
use Rattle.std.proofs.Common.{arith, rules}
use Rattle.printout.proofs.Laws.{number_digits}
use Rattle.printout.proofs.lines.put_number.Goals as goal

pub returns : goal.returns
returns c =
    let d = c.write_digits-from.ensures in
    let size = rw c.from.ensures at d.start in
    let digits = rw c.from.ensures at d.written in
    let word = number_digits c.args.x _ _ (search rules) (search rules) size digits d.before in
    (rw word at c.put-2.ensures.written) (omega (arith, c.requires))
