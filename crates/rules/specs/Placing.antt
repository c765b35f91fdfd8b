-- The conditions on a table's trains (01, codes 10 to 12; 02, codes 28 and 32), all conditions on a table in their order, and why a table is
-- refused.
use Rattle.std.specs.Prelude.{ℕ, zero, suc, ◌-◌, Bool, cond, not, ◌&&◌, ◌||◌, List, [], ◌∷◌, ◌++◌, eqb, ltb}
use Rattle.rules.specs.declared.BoxPlan.{BoxPlan}
use Rattle.rules.specs.declared.TrainPlan.{TrainPlan}
use Rattle.rules.specs.declared.Table.{Table}
use Rattle.rules.specs.Ends.{Refusal}
use Rattle.rules.specs.Rows.{Row, ◌if◌, first, nth, any_of, outside}
use Rattle.rules.specs.Track.{no_train_plan, route_at, Track, track_of, way_of, runs_against, follows}
use Rattle.rules.specs.Network.{ways_fault, head_rows, network_rows}

-- Code 10: direction d above 1, or route length r outside 1 to 64.
unfoldable pub route_shape_fault : ℕ → ℕ → Bool
route_shape_fault d r = ltb 1 d || outside 64 r

-- A refusal by a code that is about no place of a route; with code 0 it is none.
abbrev pub without_place : ℕ → Refusal
without_place c = record { code = c; train = 0; place = 0 }

-- The first of f i, f (i + 1) and so on, n of them, that is a refusal, or none; and the first of f 1 .. f n.
unfoldable pub first_from : ℕ → ℕ → (ℕ → Refusal) → Refusal
first_from i zero f = without_place 0
first_from i (suc n) f = cond (eqb (f i).code 0) (first_from (suc i) n f) (f i)

unfoldable pub first_of : ℕ → (ℕ → Refusal) → Refusal
first_of n f = first_from 1 n f

-- Codes 11 and 28 at place p of a route of direction d, by the segment s there and the one before it: s is 0 or above n, and s does
-- not follow the one before.
unfoldable pub place_rows : ℕ → Track → ℕ → ℕ → ℕ → ℕ → List Row
place_rows n track d p before s = 11 if outside n s ∷ 28 if (ltb 1 p && not (follows track d before s)) ∷ []

-- The same at place p of train i's route, with train and place; with code 0 it is no fault, and a search passes it by.
unfoldable pub route_place_fault : ℕ → Track → List ℕ → ℕ → ℕ → ℕ → Refusal
route_place_fault n track routes i d p =
    record {
      code = first (place_rows n track d p (route_at routes i (p - 1)) (route_at routes i p));
      train = i;
      place = p;
    }

-- Codes 11 and 28 for train i's route, of direction d and length r, as it stands in routes: the first place at fault.
unfoldable pub route_fault : ℕ → Track → List ℕ → ℕ → ℕ → ℕ → Refusal
route_fault n track routes i d r = first_of r (route_place_fault n track routes i d)

-- Code 12 at train i: a train before it has the same first segment.
unfoldable pub start_fault : List ℕ → ℕ → Bool
start_fault routes i = any_of (i - 1) (λ j. eqb (route_at routes i 1) (route_at routes j 1))

-- Code 32 at train i: it starts against the way of its first segment.
unfoldable pub start_against_at : (ℕ → ℕ) → List TrainPlan → List ℕ → ℕ → Bool
start_against_at way trains routes i = runs_against (nth trains i no_train_plan).direction (way (route_at routes i 1))

-- Codes 10, and 11 with 28, at train i, by its plan among those of all trains.
unfoldable pub shape_fault_at : List TrainPlan → ℕ → Bool
shape_fault_at trains i =
    let p = nth trains i no_train_plan in
    route_shape_fault p.direction p.length

unfoldable pub route_fault_at : ℕ → Track → List TrainPlan → List ℕ → ℕ → Refusal
route_fault_at n track trains routes i =
    let p = nth trains i no_train_plan in
    route_fault n track routes i p.direction p.length

-- Codes 11 and 28 for k trains, in one search: trains in their order, each route from its start. RoutesFault in
-- specs/RouteFault.antt says in plain words what it finds.
unfoldable pub routes_fault : ℕ → ℕ → Track → List TrainPlan → List ℕ → Refusal
routes_fault n k track trains routes = first_of k (route_fault_at n track trains routes)

-- The same search through a table's routes.
abbrev pub routes_fault_in : Table → Refusal
routes_fault_in t = routes_fault t.n t.k (track_of t) t.trains t.routes

-- k trains, by their plans and routes, on n segments of a track with these ways: code 10; 11 and 28 in one search; 12; 32.
unfoldable pub placing_rows : ℕ → ℕ → Track → (ℕ → ℕ) → List TrainPlan → List ℕ → List Row
placing_rows n k track way trains routes =
    let found = (routes_fault n k track trains routes).code in
    10 if any_of k (shape_fault_at trains)
    ∷ found if not (eqb found 0)
    ∷ 12 if any_of k (start_fault routes)
    ∷ 32 if any_of k (start_against_at way trains routes)
    ∷ []

-- What comes after a table's head, over the table's parts and for a table: codes 6 to 12, 28 and 32. The reader puts code 5 before it.
abbrev pub part_rows : ℕ → ℕ → ℕ → Track → (ℕ → ℕ) → List BoxPlan → List TrainPlan → List ℕ → List Row
part_rows n m k track way plans trains routes =
    network_rows n m track way plans ++ placing_rows n k track way trains routes

abbrev pub condition_rows : Table → List Row
condition_rows t = part_rows t.n t.m t.k (track_of t) (way_of t) t.boxes t.trains t.routes

-- The code of a table record, over its parts and for a table: 3, 4, 6 to 12, 28 and 32, or 0. The writer and the record check use the
-- latter. What a version cannot hold is in no file of that version, so that the reader does not ask for it.
unfoldable pub parts_code : ℕ → ℕ → ℕ → ℕ → Track → (ℕ → ℕ) → List BoxPlan → List TrainPlan → List ℕ → ℕ
parts_code version n m k track way plans trains routes =
    first (3 if ways_fault version n way ∷ head_rows version n m k ++ part_rows n m k track way plans trains routes)

unfoldable pub table_code : Table → ℕ
table_code t = parts_code t.version t.n t.m t.k (track_of t) (way_of t) t.boxes t.trains t.routes

-- The codes that are about a place of a route.
unfoldable pub tells_place : ℕ → Bool
tells_place c = eqb c 11 || eqb c 28

-- A refusal by a code: with 11 and 28 the train and the place that the search through the routes has found, with any other 0.
unfoldable pub refusal_by : ℕ → Refusal → Refusal
refusal_by c found =
    record { code = c; train = cond (tells_place c) found.train 0; place = cond (tells_place c) found.place 0 }

-- Why a table record is refused, over its parts and for a table.
unfoldable pub parts_refusal : ℕ → ℕ → ℕ → ℕ → Track → (ℕ → ℕ) → List BoxPlan → List TrainPlan → List ℕ → Refusal
parts_refusal version n m k track way plans trains routes =
    refusal_by (parts_code version n m k track way plans trains routes) (routes_fault n k track trains routes)

unfoldable pub table_refusal : Table → Refusal
table_refusal t = parts_refusal t.version t.n t.m t.k (track_of t) (way_of t) t.boxes t.trains t.routes

-- Refused as r is or, where r is none, by the first of these rows that applies; their codes are about no place of a route.
unfoldable pub refused_then : Refusal → List Row → Refusal
refused_then r rows = cond (eqb r.code 0) (without_place (first rows)) r
