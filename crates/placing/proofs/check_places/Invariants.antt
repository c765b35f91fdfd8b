-- The search has found nothing at the first places.
use Rattle.rules.specs.Track.{track_in}
use Rattle.placing.proofs.Routes.{Searched}
use Rattle.placing.proofs.check_places.Given as goal

abbrev pub invariant-loop-i : goal.invariant-loop-i
invariant-loop-i l = Searched l.n (track_in l.near l.far) l.routes l.train 0 l.r l.before l.i
