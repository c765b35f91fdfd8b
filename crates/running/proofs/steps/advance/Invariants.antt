-- Each turn takes one step.
use Rattle.rules.specs.Steps.{step}
use Rattle.running.proofs.Running.{Running}
use Rattle.running.proofs.steps.advance.Given as goal

abbrev pub invariant-loop-n : goal.invariant-loop-n
invariant-loop-n l = Running step l.fn.line l.steps l.initial.answers l.moving l.answers l.n
