-- The search has found nothing among the trains before.
use Rattle.rules.specs.Track.{track_in}
use Rattle.rules.specs.Placing.{route_fault_at}
use Rattle.rules.proofs.RouteFault.{NoneFound}
use Rattle.placing.proofs.check_routes.Given as goal

abbrev pub invariant-loop-i : goal.invariant-loop-i
invariant-loop-i l = NoneFound l.table.k (route_fault_at l.table.n (track_in l.columns.a l.columns.b) l.table.trains l.table.routes) l.i
