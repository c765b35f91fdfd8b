-- Demand 3, as one claim about every list of steps from the start line of an accepted table (01, "Whole steps").
use Rattle.std.specs.Prelude.{ℕ, ◌+◌, ◌≤◌, ◌<◌, ◌≡◌, true, false, List, ◌∷◌, [], ◌++◌}
use Rattle.rules.specs.declared.Table.{Table}
use Rattle.rules.specs.declared.Train.{Train}
use Rattle.rules.specs.declared.Line.{Line}
use Rattle.rules.specs.Track.{plan_at, train_plan_at, route_at, track_of, far_box, is_point, joins}
use Rattle.rules.specs.File.{file_code, decode}
use Rattle.rules.specs.Line.{start_line, box_at, train_at}
use Rattle.rules.specs.Steps.{Step, step}
use Rattle.rules.specs.Record.{record_fault}
use Rattle.rules.specs.History.{Event, Place, line_after, events, place_after}
use Rattle.rules.specs.Atomic.{order, atomic_step, stopped}

-- A number of a train of the table.
pub record TrainOf (t : Table) (i : ℕ) : Type 0 where
  pub low : 1 ≤ i
  pub high : i ≤ t.k

-- The record check (27) finds nothing on the line and on any line that steps reach from it.
abbrev pub StaysSound : Line → Type 0
StaysSound l = (steps : List Step) → record_fault (line_after step l steps) ≡ false

-- The segment at place p of train i's route in the table.
abbrev pub on_route : Table → ℕ → ℕ → ℕ
on_route t i p = route_at t.routes i p

-- A train that is there covers place q of its route: one of the places up to its front, as many as it covers.
pub record Covers (at : Place) (q : ℕ) : Type 0 where
  pub behind : at.place < q + at.covered
  pub ahead : q ≤ at.place

-- Train i, of direction d and being there on its route in `routes`, crosses box b: it covers places q and q + 1 of that route,
-- and b is the box between them.
pub record Crosses (t : Table) (routes : List ℕ) (i d : ℕ) (at : Place) (q b : ℕ) : Type 0 where
  pub from : Covers at q
  pub to : Covers at (q + 1)
  pub between : far_box (track_of t) d (route_at routes i q) ≡ b

-- The same by the table's route and direction.
abbrev pub CrossesBox : Table → ℕ → Place → ℕ → ℕ → Type 0
CrossesBox t i at q b = Crosses t t.routes i (train_plan_at t i).direction at q b

-- The place that a train's record has, and the one that a line has for train i.
abbrev pub place_in : Train → Place
place_in r = record { place = r.place; covered = r.covered }

abbrev pub place_of : Line → ℕ → Place
place_of l i = place_in (train_at l i)

-- A line has the table, the routes, and the trains' directions and route lengths of table t.
pub record Fixed (t : Table) (l : Line) : Type 0 where
  pub table : l.table ≡ t
  pub routes : l.routes ≡ t.routes
  pub directions : (i : ℕ) → TrainOf t i → (train_at l i).direction ≡ (train_plan_at t i).direction
  pub lengths : (i : ℕ) → TrainOf t i → (train_at l i).length ≡ (train_plan_at t i).length

-- What holds after a list of steps from the start line of table t. Places are those of the accepted moves.
module _ (t : Table) (steps : List Step) where
  -- The line, the events, the trains' places, and the atomic line with the order that it took.
  abbrev pub reached : Line
  reached = line_after step (start_line t) steps

  abbrev pub history : List Event
  history = events step (start_line t) steps

  abbrev pub where_is : ℕ → Place
  where_is i = place_after i history

  abbrev pub ordered : List Step
  ordered = order history

  abbrev pub atomic : Line
  atomic = line_after atomic_step (start_line t) ordered

  pub record Safe : Type 0 where
    -- No segment is covered by two trains.
    pub apart
        : (i j : ℕ) → TrainOf t i → TrainOf t j → (p q : ℕ) → Covers (where_is i) p → Covers (where_is j) q
        → on_route t i p ≡ on_route t j q → i ≡ j
    -- No front is beyond its route.
    pub within : (i : ℕ) → TrainOf t i → (where_is i).place ≤ (train_plan_at t i).length
    -- At each point crossed the position joins the two segments covered there.
    pub joined
        : (i : ℕ) → TrainOf t i → (q b : ℕ) → CrossesBox t i (where_is i) q b → is_point (plan_at t b) ≡ true
        → joins (plan_at t b) (box_at reached b).position (on_route t i q) (on_route t i (q + 1)) ≡ true
    -- No further step changes the position of a box that a train crosses, before that step or after it.
    pub still
        : (s : Step) (i : ℕ) → TrainOf t i → (q b : ℕ) → CrossesBox t i (where_is i) q b
        → (box_at (step reached s).line b).position ≡ (box_at reached b).position
    pub still_after
        : (s : Step) (i : ℕ) → TrainOf t i → (q b : ℕ)
        → CrossesBox t i (place_after i (events step (start_line t) (steps ++ (s ∷ [])))) q b
        → (box_at (step reached s).line b).position ≡ (box_at reached b).position
    -- The record check finds nothing: each train covers a segment, and a call that begins with the check answers the same.
    pub sound : record_fault reached ≡ false
    -- No step changed the table or a route.
    pub fixed : Fixed t reached
    pub atomic_fixed : Fixed t atomic
    -- Nothing in the order was stopped.
    pub unstopped : stopped (events atomic_step (start_line t) ordered) ≡ false
    -- The line and the atomic line agree in each train's place, which is the one that its accepted moves give.
    pub places : (i : ℕ) → TrainOf t i → place_of reached i ≡ where_is i
    pub atomic_places : (i : ℕ) → TrainOf t i → place_of atomic i ≡ where_is i
    -- They agree in each box's sensor, position, lock holder and reservation holders.
    pub sensors : (b : ℕ) → (box_at reached b).sensor ≡ (box_at atomic b).sensor
    pub positions : (b : ℕ) → (box_at reached b).position ≡ (box_at atomic b).position
    pub locks : (b : ℕ) → (box_at reached b).lock ≡ (box_at atomic b).lock
    pub stems : (b : ℕ) → (box_at reached b).stem ≡ (box_at atomic b).stem
    pub lefts : (b : ℕ) → (box_at reached b).left ≡ (box_at atomic b).left
    pub rights : (b : ℕ) → (box_at reached b).right ≡ (box_at atomic b).right

-- Demand 3: for every file that is accepted and every list of steps.
abbrev pub Demand3 : Type 0
Demand3 = (bytes : List ℕ) → file_code bytes ≡ 0 → (steps : List Step) → Safe (decode bytes) steps
