-- The check of a line record (01, code 27), which comes first in every call on a line but the writer's.
use Rattle.std.specs.Prelude.{ℕ, Bool, false, cond, not, ◌||◌, List, eqb, ltb}
use Rattle.rules.specs.declared.Request.{Request}
use Rattle.rules.specs.declared.Request.TheVariants.{Reserve, Lock, GiveBack, Unlock}
use Rattle.rules.specs.declared.Message.{Message}
use Rattle.rules.specs.declared.Message.TheVariants.{Idle, Sent, Answered, Lost}
use Rattle.rules.specs.declared.BoxPlan.{BoxPlan}
use Rattle.rules.specs.declared.SwitchBox.{SwitchBox}
use Rattle.rules.specs.declared.Train.{Train}
use Rattle.rules.specs.declared.Line.{Line}
use Rattle.rules.specs.declared.Outcome.{Outcome}
use Rattle.rules.specs.Rows.{first, nth, any_of}
use Rattle.rules.specs.Track.{no_box_plan, Track, track_of, way_of, point_at, position_fits}
use Rattle.rules.specs.Placing.{route_shape_fault, route_fault, table_code}
use Rattle.rules.specs.declared.Around.{Around}
use Rattle.rules.specs.Line.{no_box, no_train, around_on}
use Rattle.rules.specs.Steps.{Step, address_rows, most_covered, step}

-- The codes that a box can give in answer to a request, 0 among them.
unfoldable pub answer_code : Request → ℕ → Bool
answer_code (Reserve b) c = eqb c 0 || eqb c 22 || eqb c 31
answer_code (Lock b) c = eqb c 0 || eqb c 23 || eqb c 24 || eqb c 25
answer_code (GiveBack b) c = eqb c 0
answer_code (Unlock b) c = eqb c 0

-- A request that 16 or 17 would stop.
unfoldable pub address_fault : Around → Train → Request → Bool
address_fault v r q = not (eqb (first (address_rows v r q)) 0)

-- A message that 16 or 17 would stop, or an answer with another code than 0 and the box's.
unfoldable pub message_fault : Around → Train → Message → Bool
message_fault v r Idle = false
message_fault v r (Sent q) = address_fault v r q
message_fault v r (Answered q c) = address_fault v r q || not (answer_code q c)
message_fault v r (Lost q) = address_fault v r q

-- Train i with record r, on n segments of a track with these ways, where `point` says which boxes are points and `routes` has the routes
-- as they stand: its route fails 10, 11 or 28; the train is outside its route, its tail included; it covers no segment or more than it
-- may; or its message is at fault. The ways decide nothing here: 32 is asked of the table alone, and 16 and 17 do not look at them.
unfoldable pub train_fault : ℕ → Track → (ℕ → ℕ) → (ℕ → Bool) → List ℕ → ℕ → Train → Bool
train_fault n track way point routes i r =
    route_shape_fault r.direction r.length
    || not (eqb (route_fault n track routes i r.direction r.length).code 0)
    || eqb r.place 0
    || ltb r.length r.place
    || ltb r.place r.covered
    || eqb r.covered 0
    || ltb most_covered r.covered
    || message_fault (around_on track way point routes i r) r r.message

-- A box with plan p and record x on a line with k trains: a position that does not fit the box, or a holder above k, of the lock
-- or at any of the three places, also at those that the box lacks.
unfoldable pub switch_box_fault : ℕ → BoxPlan → SwitchBox → Bool
switch_box_fault k p x =
    not (position_fits p x.position)
    || ltb k x.lock
    || ltb k x.stem
    || ltb k x.left
    || ltb k x.right

-- Some train of 1 to k is at fault, by the records of all trains; and some box of 1 to m, by the plans and records of all boxes.
unfoldable pub trains_fault : ℕ → ℕ → Track → (ℕ → ℕ) → (ℕ → Bool) → List ℕ → List Train → Bool
trains_fault n k track way point routes trains = any_of k (λ i. train_fault n track way point routes i (nth trains i no_train))

unfoldable pub switch_boxes_fault : ℕ → ℕ → List BoxPlan → List SwitchBox → Bool
switch_boxes_fault k m plans boxes = any_of m (λ b. switch_box_fault k (nth plans b no_box_plan) (nth boxes b no_box))

-- Code 27. Only trains 1 to k and boxes 1 to m are looked at.
unfoldable pub record_fault : Line → Bool
record_fault l =
    let t = l.table in
    not (eqb (table_code t) 0)
    || trains_fault t.n t.k (track_of t) (way_of t) (point_at t) l.routes l.trains
    || switch_boxes_fault t.k t.m t.boxes l.boxes

-- A single step on any record: 27 first, then the step.
unfoldable pub checked_step : Line → Step → Outcome
checked_step l s = cond (record_fault l) (record { code = 27; line = l }) (step l s)
