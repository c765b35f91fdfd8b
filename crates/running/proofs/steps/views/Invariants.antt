-- Each turn looks up one.
use Rattle.traincomputer.specs.Sight.{around_in}
use Rattle.running.specs.Loop.{Seen}
use Rattle.running.proofs.steps.views.Given as goal

abbrev pub invariant-loop-i : goal.invariant-loop-i
invariant-loop-i l = Seen (around_in l.columns.a l.columns.b l.columns.ways l.columns.kinds l.line.routes) l.line.trains l.all l.i
