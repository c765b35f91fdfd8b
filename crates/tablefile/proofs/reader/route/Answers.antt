-- The route is within the file from the train's record on.
use Rattle.std.proofs.Common.{arith}
use Rattle.tablefile.proofs.Parts.{route_at, route_room}
use Rattle.tablefile.proofs.reader.route.Goals as goal

pub bounds-rest-1 : goal.bounds-rest-1
bounds-rest-1 c =
    let rest = rw (c.behind_trains.ensures.0, c.behind_trains.ensures.1) at c.left-rest.ensures in
    omega (arith, route_room _ _ c.requires _ rest.left)

pub returns-clause-ref_ptr_value : goal.returns-clause-ref_ptr_value
returns-clause-ref_ptr_value c =
    let rest = rw (c.behind_trains.ensures.0, c.behind_trains.ensures.1) at c.left-rest.ensures in
    route_at _ _ c.requires _ _ rest.pointer
