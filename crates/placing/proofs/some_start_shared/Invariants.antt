-- The loop has found nothing among the trains before, and has marked their first segments.
use Rattle.placing.proofs.Routes.{Begun}
use Rattle.placing.proofs.some_start_shared.Given as goal

abbrev pub invariant-loop-number : goal.invariant-loop-number
invariant-loop-number l = Begun l.routes l.number l.begun
