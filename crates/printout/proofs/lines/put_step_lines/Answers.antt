use Rattle.printout.proofs.Laws.{short_none, short_join, step_line_lem}
use Rattle.printout.proofs.lines.put_step_lines.Goals as goal

pub loop-i-init : goal.loop-i-init
loop-i-init c = short_none _ _

pub loop-i-preserved : goal.loop-i-preserved
loop-i-preserved c = short_join _ _ c.loop-i.invariant (step_line_lem _ _ _) c.put_step_line.ensures
