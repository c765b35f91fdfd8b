-- The first lines are written.
use Rattle.std.proofs.Common.{◌*◌}
use Rattle.rules.specs.Rows.{join_of}
use Rattle.rules.specs.Printout.{train_line}
use Rattle.printout.specs.Short.{Short}
use Rattle.printout.proofs.lines.put_train_lines.Given as goal

abbrev pub invariant-loop-i : goal.invariant-loop-i
invariant-loop-i l = Short (18 * l.i) l.initial.pen (join_of l.i (train_line l.l)) l.pen
