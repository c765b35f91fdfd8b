-- What holds of a line between any two steps and carries demand 3. It speaks of the line as it stands and of the routes in force; of the
-- steps that led to it only of which requests they have granted.
use Rattle.std.specs.Prelude.{ℕ, ◌+◌, ◌<◌, ◌≡◌, Bool, true, false, cond, not, ◌||◌, List, eqb, length}
use Rattle.rules.specs.declared.Table.{Table}
use Rattle.rules.specs.declared.SwitchBox.{SwitchBox}
use Rattle.rules.specs.declared.Holding.{Holding}
use Rattle.rules.specs.declared.Request.{Request}
use Rattle.rules.specs.declared.Message.{Message}
use Rattle.rules.specs.declared.Message.TheVariants.{Idle, Sent, Answered, Lost}
use Rattle.rules.specs.declared.Train.{Train}
use Rattle.rules.specs.declared.Line.{Line}
use Rattle.rules.specs.Rows.{list_of}
use Rattle.rules.specs.Track.{plan_at, route_at, track_of, far_box, near_box, is_point, joins}
use Rattle.rules.specs.declared.Around.{Around}
use Rattle.rules.specs.Line.{around, box_at, train_at, holder_of, holding, gives_back, holding_box}
use Rattle.rules.specs.Steps.{recorded, stands, with_message, with_holding}
use Rattle.rules.specs.Record.{record_fault}
use Rattle.rules.specs.Safety.{TrainOf, Covers, Crosses, place_in, place_of}

-- Whether the request of each train's open message has been granted. The message does not tell it, since a yes may be lost.
abbrev pub Granted : Type 0
Granted = ℕ → Bool

-- Whether what train i's open request is about counts as recorded, by whether the request gives it back.
abbrev pub Counts : Type 0
Counts = ℕ → Bool → Bool

-- A train with its message taken away, where what the message's request q is about counts as recorded or not.
unfoldable pub counted : Around → Train → Request → Bool → Train
counted v r q counts =
    let gone = with_message r Idle in
    cond counts (with_holding v gone (holding q)) gone

unfoldable pub quiet_by : Counts → Around → Train → Message → Train
quiet_by counts v r Idle = r
quiet_by counts v r (Sent q) = counted v r q (counts v.number (gives_back q))
quiet_by counts v r (Answered q c) = counted v r q (counts v.number (gives_back q))
quiet_by counts v r (Lost q) = counted v r q (counts v.number (gives_back q))

unfoldable pub quiet_train : Counts → Around → Train → Train
quiet_train counts v r = quiet_by counts v r r.message

-- The line with every train's message taken away. Its boxes are as they were.
unfoldable pub quiet : Counts → Line → Line
quiet counts l =
    record {
      table = l.table;
      boxes = l.boxes;
      trains = list_of (length l.trains) (λ i. quiet_train counts (around l i) (train_at l i));
      routes = l.routes;
    }

-- On the settled line what was asked for and granted counts as recorded, whether or not the yes is heard.
abbrev pub settling : Granted → Counts
settling done i gives = cond gives false (done i)

abbrev pub settled : Granted → Line → Line
settled done = quiet (settling done)

-- On the atomic line so does what a train gives back, until that is granted.
abbrev pub believing : Granted → Counts
believing done i gives = cond gives (not (done i)) (done i)

abbrev pub believed : Granted → Line → Line
believed done = quiet (believing done)

-- Holding z is train i's at its box.
unfoldable pub held_for : Line → ℕ → Holding → Bool
held_for l i z = stands (around l i) (plan_at l.table (holding_box z)) (box_at l (holding_box z)) z

-- Train i by its record r, its route in `routes`.
module _ (t : Table) (routes : List ℕ) (i : ℕ) (r : Train) where
  -- The segment at place q of its route, and the box at the far end of it.
  abbrev pub segment_on : ℕ → ℕ
  segment_on q = route_at routes i q

  abbrev pub box_beyond : ℕ → ℕ
  box_beyond q = far_box (track_of t) r.direction (segment_on q)

  -- It crosses box b between places q and q + 1.
  abbrev pub CrossesAt : ℕ → ℕ → Type 0
  CrossesAt q b = Crosses t routes i r.direction (place_in r) q b

  -- Box b must have segment s reserved for it: a covered segment at the box ahead of it; at a crossed box also the segment after
  -- it; and next at each end where its reservation is recorded.
  pub data Needs : ℕ → ℕ → Type 0 where
    ahead : {q : ℕ} → Covers (place_in r) q → Needs (box_beyond q) (segment_on q)
    crossed : {q b : ℕ} → CrossesAt q b → Needs b (segment_on (q + 1))
    near_recorded : r.near ≡ true → Needs (near_box (track_of t) r.direction (segment_on (r.place + 1))) (segment_on (r.place + 1))
    far_recorded : r.far ≡ true → Needs (box_beyond (r.place + 1)) (segment_on (r.place + 1))

  -- Box b must be locked for it: a crossed point, and the box ahead where its lock is recorded.
  pub data NeedsLock : ℕ → Type 0 where
    crossed_point : {q b : ℕ} → CrossesAt q b → is_point (plan_at t b) ≡ true → NeedsLock b
    lock_recorded : r.lock ≡ true → NeedsLock (box_beyond r.place)

  -- It has a use for the lock of box b, which lies in position y: the box is a point that it crosses, or has ahead with a next,
  -- and the position joins its two segments there. The place before that box is covered and not its route's last: behind the
  -- front it crosses the box, at the front it has it ahead.
  pub record UsesLock (b y : ℕ) : Type 0 where
    pub place : ℕ
    pub covered : Covers (place_in r) place
    pub next : place < r.length
    pub there : box_beyond place ≡ b
    pub point : is_point (plan_at t b) ≡ true
    pub joined : joins (plan_at t b) y (segment_on place) (segment_on (place + 1)) ≡ true

  -- It and box b as it stands, x, fit together.
  pub record Fits (b : ℕ) (x : SwitchBox) : Type 0 where
    -- What it needs reserved here is reserved for it, and what it needs locked is locked for it.
    pub reserved : (s : ℕ) → Needs b s → holder_of (plan_at t b) x s ≡ i
    pub locked : NeedsLock b → x.lock ≡ i
    -- It has a use for a lock that is its own.
    pub used : x.lock ≡ i → UsesLock b x.position
    -- A box that it crosses is sensed.
    pub sensed : (q : ℕ) → CrossesAt q b → x.sensor ≡ true

-- Some train crosses box b.
pub record Crossed (l : Line) (b : ℕ) : Type 0 where
  pub train : ℕ
  pub known : TrainOf l.table train
  pub place : ℕ
  pub crosses : CrossesAt l.table l.routes train (train_at l train) place b

-- Trains and boxes fit together. It looks at no message: `Invariant` asks it of the settled line.
pub record Fitting (l : Line) : Type 0 where
  -- No segment is covered by two trains.
  pub apart
      : (i j : ℕ) → TrainOf l.table i → TrainOf l.table j → (p q : ℕ) → Covers (place_of l i) p → Covers (place_of l j) q
      → route_at l.routes i p ≡ route_at l.routes j q → i ≡ j
  -- Each train fits together with each box.
  pub fits : (i : ℕ) → TrainOf l.table i → (b : ℕ) → Fits l.table l.routes i (train_at l i) b (box_at l b)
  -- A train has recorded something only where it has a next.
  pub with_next
      : (i : ℕ) → TrainOf l.table i → ((train_at l i).near || (train_at l i).far || (train_at l i).lock) ≡ true
      → (train_at l i).place < (train_at l i).length
  -- A box is sensed only where some train crosses it.
  pub sensed_crossed : (b : ℕ) → (box_at l b).sensor ≡ true → Crossed l b

-- The message is open and has this request.
pub data Open (q : Request) : Message → Type 0 where
  sent : Open q (Sent q)
  answered : {c : ℕ} → Open q (Answered q c)
  lost : Open q (Lost q)

-- What every step keeps, by which requests have been granted. Where these are the ones with a yes on its way, it has the safety conditions of
-- 02, ticket 11 (code 40), whose form has `with_next`. A reservation need not be explained by any train.
pub record Invariant (done : Granted) (l : Line) : Type 0 where
  -- The record has its 96 boxes and 16 trains, which in a program its type says.
  pub boxes : length l.boxes ≡ 96
  pub trains : length l.trains ≡ 16
  -- The record check finds nothing.
  pub sound : record_fault l ≡ false
  -- No open message concerns what is recorded.
  pub unrecorded
      : (i : ℕ) → TrainOf l.table i → (q : Request) → Open q (train_at l i).message
      → recorded (around l i) (train_at l i) (holding q) ≡ false
  -- An answer on its way is a yes exactly where the request has been granted.
  pub answers
      : (i : ℕ) → TrainOf l.table i → (q : Request) (c : ℕ) → (train_at l i).message ≡ Answered q c → done i ≡ eqb c 0
  -- What a train has given back, where that is granted, is not the train's.
  pub returned
      : (i : ℕ) → TrainOf l.table i → (q : Request) → Open q (train_at l i).message → gives_back q ≡ true → done i ≡ true
      → held_for l i (holding q) ≡ false
  -- With what was granted taken as heard, trains and boxes fit together.
  pub fitting : Fitting (settled done l)
