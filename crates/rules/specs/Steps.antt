-- The steps of a line (01, "Steps" and the rows Step, Train, Message and Box of its codes). A step concerns one train and at
-- most one box: what it does is said of these two, and put back into the line.
use Rattle.std.specs.Prelude.{ℕ, ◌+◌, ◌-◌, Bool, true, false, cond, not, ◌&&◌, ◌||◌, List, [], ◌∷◌, ◌++◌, eqb, leb}
use Rattle.rules.specs.declared.BoxPlan.{BoxPlan}
use Rattle.rules.specs.declared.SwitchBox.{SwitchBox}
use Rattle.rules.specs.declared.Holding.{Holding}
use Rattle.rules.specs.declared.Holding.TheVariants.{NextAt, LockAt}
use Rattle.rules.specs.declared.Request.{Request}
use Rattle.rules.specs.declared.Request.TheVariants.{Reserve, Lock, GiveBack, Unlock}
use Rattle.rules.specs.declared.Message.{Message}
use Rattle.rules.specs.declared.Message.TheVariants.{Idle, Sent, Answered, Lost}
use Rattle.rules.specs.declared.Train.{Train}
use Rattle.rules.specs.declared.Line.{Line}
use Rattle.rules.specs.Ends.{Effect}
use Rattle.rules.specs.Ends.Effect.{Refused, Changed}
use Rattle.rules.specs.declared.Outcome.{Outcome}
use Rattle.rules.specs.Rows.{Row, ◌if◌, first, outside}
use Rattle.rules.specs.Track.{plan_at, joins}
use Rattle.rules.specs.declared.Around.{Around}
use Rattle.rules.specs.Line.{around, box_at, train_at, put_train, put_box, holder_of, set_holder, holding, gives_back, message_box}

-- A step: three bytes.
pub record Step : Type 0 where
  pub kind : ℕ
  pub train : ℕ
  pub box : ℕ

-- What the effect of a step of train i at box b means: its code, and the line as it was, or with the train and the box put back.
-- Box 0 is none: nothing is put there.
unfoldable pub apply : Line → ℕ → ℕ → Effect → Outcome
apply l i b (Refused c) = record { code = c; line = l }
apply l i b (Changed c r x) = record { code = c; line = put_box (put_train l i r) b x }

-- The most segments that a train may cover.
abbrev pub most_covered : ℕ
most_covered = 2

-- The train with another message; at another place, covering so many segments; with other records of its next segment.
unfoldable pub with_message : Train → Message → Train
with_message r g =
    record {
      direction = r.direction;
      length = r.length;
      place = r.place;
      covered = r.covered;
      near = r.near;
      far = r.far;
      lock = r.lock;
      message = g;
    }

abbrev pub with_place : Train → ℕ → ℕ → Train
with_place r place covered =
    record {
      direction = r.direction;
      length = r.length;
      place = place;
      covered = covered;
      near = r.near;
      far = r.far;
      lock = r.lock;
      message = r.message;
    }

abbrev pub with_records : Train → Bool → Bool → Bool → Train
with_records r near far lock =
    record {
      direction = r.direction;
      length = r.length;
      place = r.place;
      covered = r.covered;
      near = near;
      far = far;
      lock = lock;
      message = r.message;
    }

unfoldable pub is_open : Message → Bool
is_open Idle = false
is_open (Sent q) = true
is_open (Answered q c) = true
is_open (Lost q) = true

-- A request about the holding may be made at its box. A reservation: at an end of next. A lock: at the box ahead, a point.
unfoldable pub addressed : Around → Holding → Bool
addressed v (NextAt b) = eqb b v.near_end || eqb b v.far_end
addressed v (LockAt b) = eqb b v.ahead && v.point

-- The train has recorded the holding.
unfoldable pub recorded : Around → Train → Holding → Bool
recorded v r (NextAt b) = (eqb b v.near_end && r.near) || (eqb b v.far_end && r.far)
recorded v r (LockAt b) = r.lock

-- There is no next segment.
unfoldable pub at_end : Train → Bool
at_end r = leb r.length r.place

-- Row Train, kinds 1, 2, 7 and 8. Its codes 16 and 17 stand by themselves for the record check.
unfoldable pub address_rows : Around → Train → Request → List Row
address_rows v r q = 16 if at_end r ∷ 17 if not (addressed v (holding q)) ∷ []

-- Its last code: what is asked for is recorded already, or what is given back is not recorded.
unfoldable pub record_rows : Around → Train → Request → List Row
record_rows v r q =
    18 if (not (gives_back q) && recorded v r (holding q))
    ∷ 29 if (gives_back q && not (recorded v r (holding q)))
    ∷ []

unfoldable pub request_rows : Around → Train → Request → List Row
request_rows v r q = 15 if is_open r.message ∷ address_rows v r q ++ record_rows v r q

-- Row Train, kind 5 and kind 6.
unfoldable pub enter_rows : Around → Train → List Row
enter_rows v r =
    20 if leb most_covered r.covered ∷ 16 if at_end r ∷ 19 if not (r.near && r.far && (not v.point || r.lock)) ∷ []

unfoldable pub clear_rows : Train → List Row
clear_rows r = 20 if leb r.covered 1 ∷ []

-- Somebody else than train i.
unfoldable pub another : ℕ → ℕ → Bool
another i holder = not (eqb holder 0) && not (eqb holder i)

-- Row Box, for what is asked for; of a reservation with 31 of 02, ticket 6, of a lock as 02, ticket 3 orders it.
unfoldable pub grant_rows : Around → BoxPlan → SwitchBox → Holding → List Row
grant_rows v p x (NextAt b) = 31 if v.against ∷ 22 if another v.number (holder_of p x v.next) ∷ []
grant_rows v p x (LockAt b) =
    24 if another v.number x.lock
    ∷ 23 if x.sensor
    ∷ 25 if not (eqb (holder_of p x v.front) v.number && eqb (holder_of p x v.next) v.number)
    ∷ []

-- The box has the holding for the train.
unfoldable pub stands : Around → BoxPlan → SwitchBox → Holding → Bool
stands v p x (NextAt b) = eqb (holder_of p x v.next) v.number
stands v p x (LockAt b) = eqb x.lock v.number

-- Row Box, for the box of a request: a give-back is always answered yes, and so is what the box has for the train already (02, ticket 5).
unfoldable pub box_rows : Around → BoxPlan → SwitchBox → Request → List Row
box_rows v p x q = cond (gives_back q || stands v p x (holding q)) [] (grant_rows v p x (holding q))

-- The position of a point that joins two segments, one of which is its stem.
unfoldable pub position_for : BoxPlan → ℕ → ℕ → ℕ
position_for p s x = cond (joins p 1 s x) 1 2

-- A point whose lock is given to the train: front is joined to next.
abbrev pub lock_given : Around → BoxPlan → SwitchBox → SwitchBox
lock_given v p x =
    record {
      sensor = x.sensor;
      position = position_for p v.front v.next;
      lock = v.number;
      stem = x.stem;
      left = x.left;
      right = x.right;
    }

-- A point whose lock is free.
abbrev pub lock_freed : SwitchBox → SwitchBox
lock_freed x =
    record {
      sensor = x.sensor;
      position = x.position;
      lock = 0;
      stem = x.stem;
      left = x.left;
      right = x.right;
    }

-- The box once the train has the holding: the holder of next is set; the lock is given, with the position. And once it is free: next has
-- no holder; the lock is nobody's, and the position stays.
unfoldable pub given : Around → BoxPlan → SwitchBox → Holding → SwitchBox
given v p x (NextAt b) = set_holder p x v.next v.number
given v p x (LockAt b) = lock_given v p x

unfoldable pub freed : Around → BoxPlan → SwitchBox → Holding → SwitchBox
freed v p x (NextAt b) = set_holder p x v.next 0
freed v p x (LockAt b) = lock_freed x

-- The box after its yes: what is asked for is the train's, and where it was so already nothing changes, not the position either; what is
-- given back is free, if it was the train's.
unfoldable pub granted : Around → BoxPlan → SwitchBox → Request → SwitchBox
granted v p x q =
    cond (gives_back q) (cond (stands v p x (holding q)) (freed v p x (holding q)) x)
    (cond (stands v p x (holding q)) x (given v p x (holding q)))

-- The train after it has recorded the holding, and after it has dropped the record.
unfoldable pub with_holding : Around → Train → Holding → Train
with_holding v r (NextAt b) = with_records r (eqb b v.near_end || r.near) (eqb b v.far_end || r.far) r.lock
with_holding v r (LockAt b) = with_records r r.near r.far true

unfoldable pub without_holding : Around → Train → Holding → Train
without_holding v r (NextAt b) =
    with_records r (not (eqb b v.near_end) && r.near) (not (eqb b v.far_end) && r.far) r.lock
without_holding v r (LockAt b) = with_records r r.near r.far false

-- The train after it has entered next: nothing is recorded of the segment that is next now.
unfoldable pub entered : Train → Train
entered r = with_records (with_place r (r.place + 1) (r.covered + 1)) false false false

-- The box that a train begins to cross.
unfoldable pub sensed : SwitchBox → SwitchBox
sensed x =
    record {
      sensor = true;
      position = x.position;
      lock = x.lock;
      stem = x.stem;
      left = x.left;
      right = x.right;
    }

-- The train after its tail is cleared. Its records are all of next, which has no end at the box passed.
unfoldable pub cleared : Train → Train
cleared r = with_place r r.place (r.covered - 1)

-- The box that a train has passed: sensor passive, lock free, the reservations of both segments free.
unfoldable pub released : BoxPlan → SwitchBox → ℕ → ℕ → SwitchBox
released p x s z =
    set_holder p
    (set_holder p
    (record {
      sensor = false;
      position = x.position;
      lock = 0;
      stem = x.stem;
      left = x.left;
      right = x.right;
    })
    s
    0)
    z
    0

-- An effect where a row stops nothing, and the row's code where it does.
unfoldable pub unless : ℕ → Effect → Effect
unless c e = cond (eqb c 0) e (Refused c)

-- The kinds of steps, each by the train's record r, what stands around it, v, and the plan p and the record x of the box that the
-- step concerns. Kinds 1, 2, 4 and 7 to 10 concern none, and hand x through. Kinds 1, 2, 7 and 8: the message is sent, and what is given
-- back is no longer recorded.
unfoldable pub sending : Around → Train → Request → Train
sending v r q = with_message (cond (gives_back q) (without_holding v r (holding q)) r) (Sent q)

unfoldable pub send : Around → Train → SwitchBox → Request → Effect
send v r x q = unless (first (request_rows v r q)) (Changed 0 (sending v r q) x)

-- Kind 3: the box answers a message that is sent. A no leaves the box as it was.
unfoldable pub reply : Around → Train → BoxPlan → SwitchBox → Request → Effect
reply v r p x q =
    let c = first (box_rows v p x q) in
    Changed c (with_message r (Answered q c)) (cond (eqb c 0) (granted v p x q) x)

unfoldable pub box_answers : Around → Train → BoxPlan → SwitchBox → Message → Effect
box_answers v r p x Idle = Refused 21
box_answers v r p x (Sent q) = reply v r p x q
box_answers v r p x (Answered q c) = Refused 21
box_answers v r p x (Lost q) = Refused 21

-- The train after it has heard an answer: a yes to what it asked for is recorded, and the message is gone.
unfoldable pub heard : Around → Train → Request → ℕ → Train
heard v r q c =
    let gone = with_message r Idle in
    cond (eqb c 0 && not (gives_back q)) (with_holding v gone (holding q)) gone

-- Kind 4: the train hears an answer that is on its way, with the answer's code.
unfoldable pub train_hears : Around → Train → SwitchBox → Message → Effect
train_hears v r x Idle = Refused 21
train_hears v r x (Sent q) = Refused 21
train_hears v r x (Answered q c) = Changed c (heard v r q c) x
train_hears v r x (Lost q) = Refused 21

-- Kind 9: what is under way is lost, a request or its answer. Kind 10: the request is sent again.
unfoldable pub lose : Train → SwitchBox → Message → Effect
lose r x Idle = Refused 30
lose r x (Sent q) = Changed 0 (with_message r (Lost q)) x
lose r x (Answered q c) = Changed 0 (with_message r (Lost q)) x
lose r x (Lost q) = Refused 30

unfoldable pub send_again : Train → SwitchBox → Message → Effect
send_again r x Idle = Refused 30
send_again r x (Sent q) = Refused 30
send_again r x (Answered q c) = Refused 30
send_again r x (Lost q) = Changed 0 (with_message r (Sent q)) x

-- Kind 5, at the box ahead, and kind 6, at the box passed.
unfoldable pub enter : Around → Train → SwitchBox → Effect
enter v r x = unless (first (enter_rows v r)) (Changed 0 (entered r) (sensed x))

unfoldable pub clear : Around → Train → BoxPlan → SwitchBox → Effect
clear v r p x = unless (first (clear_rows r)) (Changed 0 (cleared r) (released p x v.tail v.second))

-- There is such a step: kinds 1, 2, 7 and 8 have a box byte, kinds 3 to 6, 9 and 10 have none, and there is no other kind.
unfoldable pub formed : ℕ → ℕ → Bool
formed kind box =
    (leb 1 kind && leb kind 2)
    || (leb 3 kind && leb kind 6 && eqb box 0)
    || (leb 7 kind && leb kind 8)
    || (leb 9 kind && leb kind 10 && eqb box 0)

-- Row Step. Its code 13, which comes before the train is looked for, stands by itself.
unfoldable pub form_rows : ℕ → ℕ → List Row
form_rows kind box = 13 if not (formed kind box) ∷ []

unfoldable pub step_rows : ℕ → Step → List Row
step_rows k s = form_rows s.kind s.box ++ (14 if outside k s.train ∷ [])

-- The box that a step concerns: the box of the message, the box ahead, the box passed; 0 where there is none.
unfoldable pub concerned_box : ℕ → Around → Train → ℕ
concerned_box kind v r =
    cond (eqb kind 3) (message_box r.message) (cond (eqb kind 5) v.ahead (cond (eqb kind 6) v.passed 0))

-- The kinds that are the train's alone, 1, 2, 4 and 7 to 10; there is no other.
unfoldable pub alone : ℕ → ℕ → Around → Train → SwitchBox → Effect
alone kind box v r x =
    cond (eqb kind 1) (send v r x (Reserve box))
    (cond (eqb kind 2) (send v r x (Lock box))
    (cond (eqb kind 4) (train_hears v r x r.message)
    (cond (eqb kind 7) (send v r x (GiveBack box))
    (cond (eqb kind 8) (send v r x (Unlock box))
    (cond (eqb kind 9) (lose r x r.message) (cond (eqb kind 10) (send_again r x r.message) (Refused 13)))))))

-- What a step does, by its kind. Which kinds have no box byte is row Step's affair.
unfoldable pub effect : ℕ → ℕ → Around → Train → BoxPlan → SwitchBox → Effect
effect kind box v r p x =
    cond (eqb kind 3) (box_answers v r p x r.message)
    (cond (eqb kind 5) (enter v r x) (cond (eqb kind 6) (clear v r p x) (alone kind box v r x)))

-- A step on a line: its effect on train i and on the box that it concerns, put back.
unfoldable pub step : Line → Step → Outcome
step l s =
    let i = s.train in
    let v = around l i in
    let r = train_at l i in
    let b = concerned_box s.kind v r in
    apply l i b
    (unless (first (step_rows l.table.k s)) (effect s.kind s.box v r (plan_at l.table b) (box_at l b)))
