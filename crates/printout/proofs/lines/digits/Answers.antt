-- They are what is at the end of the bytes.
use Rattle.std.proofs.Common.{rules}
use Rattle.printout.proofs.Laws.{count_digits}
use Rattle.printout.proofs.lines.digits.Goals as goal

pub returns-clause-text : goal.returns-clause-text
returns-clause-text c =
    let d = c.write_digits-from in
    count_digits c.args.x d.result c.args.bytes.now d.new.buf (search rules) (search rules) (search rules) (rw c.from.ensures at d.ensures.written)
