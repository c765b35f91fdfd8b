-- Each turn is one call.
use Rattle.rules.specs.Record.{checked_step}
use Rattle.running.proofs.Running.{Running}
use Rattle.bench.proofs.called.Given as goal

abbrev pub invariant-loop-n : goal.invariant-loop-n
invariant-loop-n l = Running checked_step l.fn.line l.steps l.initial.answers l.line l.answers l.n
