use Rattle.std.proofs.Common.{arith}
use Rattle.printout.proofs.Laws.{short_none, short_join, train_line_lem}
use Rattle.printout.proofs.lines.put_train_lines.Goals as goal

pub loop-i-init : goal.loop-i-init
loop-i-init c = short_none _ _

pub loop-i-preserved : goal.loop-i-preserved
loop-i-preserved c =
    short_join _ _ c.loop-i.invariant (train_line_lem _ _ c.from.result (omega arith)) c.put_train_line.ensures
