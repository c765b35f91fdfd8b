-- What else holds after every list of steps from the start line of an accepted table, and of any further step.
use Rattle.std.specs.Prelude.{ℕ, ◌+◌, ◌≡◌, ◌⊎◌, ◌≢◌, Bool, true, false, ◌&&◌, ◌||◌, List, [], ◌∷◌, eqb}
use Rattle.rules.specs.declared.Table.{Table}
use Rattle.rules.specs.declared.Holding.{Holding}
use Rattle.rules.specs.declared.Holding.TheVariants.{NextAt, LockAt}
use Rattle.rules.specs.declared.Request.{Request}
use Rattle.rules.specs.declared.Request.TheVariants.{Reserve, Lock}
use Rattle.rules.specs.declared.Message.TheVariants.{Idle, Sent, Answered}
use Rattle.rules.specs.Track.{train_plan_at, way_of, runs_against}
use Rattle.rules.specs.File.{file_code, decode}
use Rattle.rules.specs.Line.{start_line, box_at, train_at, holding, gives_back}
use Rattle.rules.specs.Steps.{Step, step}
use Rattle.rules.specs.Record.{record_fault, checked_step}
use Rattle.rules.specs.History.{Event, line_after, events, accepted}
use Rattle.rules.specs.Atomic.{requests, kept_after, is_granted}
use Rattle.rules.specs.Safety.{TrainOf, on_route, Covers, reached, history, where_is, atomic, CrossesBox}
use Rattle.rules.specs.Invariant.{Granted, believed, held_for, Invariant}

-- Some event of a list is of this sort.
unfoldable pub some_event : (Event → Bool) → List Event → Bool
some_event f [] = false
some_event f (e ∷ rest) = f e || some_event f rest

-- The event is train i's accepted request for holding z.
unfoldable pub asks_for : ℕ → Holding → Event → Bool
asks_for i (NextAt b) e = accepted 1 i e && eqb e.step.box b
asks_for i (LockAt b) e = accepted 2 i e && eqb e.step.box b

-- The step in which the box of train i's message answers.
abbrev pub answer_step : ℕ → Step
answer_step i = record { kind = 3; train = i; box = 0 }

-- Whether each train's last request has been granted after a list of steps, by steps and answers alone; so it is of one that made none.
abbrev pub granted_after : Table → List Step → Granted
granted_after t steps = is_granted (kept_after (history t steps))

pub record Consequences (t : Table) (steps : List Step) : Type 0 where
  -- The invariant holds. So the record check finds nothing, and calls that begin with it give the same line and the same answers.
  pub invariant : Invariant (granted_after t steps) (reached t steps)
  pub sound : record_fault (reached t steps) ≡ false
  pub checked_line : line_after checked_step (start_line t) steps ≡ reached t steps
  pub checked_events : events checked_step (start_line t) steps ≡ history t steps
  -- No step is answered 23: no box says it (kind 3), and no train hears it (kind 4).
  pub occupied : (s : Step) → (step (reached t steps) s).code ≢ 23
  -- While a train crosses a point, a request for that point's lock is answered 24.
  pub lock_told
      : (i q b : ℕ) → TrainOf t i → CrossesBox t i (where_is t steps i) q b → (s : Step) → s.kind ≡ 3 → s.box ≡ 0 → TrainOf t s.train
      → (train_at (reached t steps) s.train).message ≡ Sent (Lock b) → (step (reached t steps) s).code ≡ 24
  -- No train covers a segment against its way, neither at the start nor by entering it: what runs from A to B only (1) is covered in
  -- direction 0, what runs from B to A only (2) in direction 1.
  pub along
      : (i : ℕ) → TrainOf t i → (q : ℕ) → Covers (where_is t steps i) q
      → (way_of t (on_route t i q) ≡ 1 → (train_plan_at t i).direction ≡ 0) × (way_of t (on_route t i q) ≡ 2 → (train_plan_at t i).direction ≡ 1)
  -- A reservation of a segment against its way is answered 31.
  pub way_told
      : (s : Step) (b : ℕ) → s.kind ≡ 3 → s.box ≡ 0 → TrainOf t s.train
      → (train_at (reached t steps) s.train).message ≡ Sent (Reserve b)
      → runs_against (train_plan_at t s.train).direction (way_of t (on_route t s.train ((where_is t steps s.train).place + 1))) ≡ true
      → (step (reached t steps) s).code ≡ 31
  -- No message is open where a train enters.
  pub silent
      : (s : Step) → s.kind ≡ 5 → (step (reached t steps) s).code ≡ 0 → (train_at (reached t steps) s.train).message ≡ Idle
  -- The atomic line is the line as its trains believe it: its trains have recorded what theirs have, what was granted to them and they have
  -- not heard yet, and what they are giving back until the box has answered.
  pub atomic_line : atomic t steps ≡ believed (granted_after t steps) (reached t steps)
  -- A box answers a give-back with 0, and 0 is what the train hears.
  pub answered_yes
      : (s : Step) (q : Request) → s.kind ≡ 3 → s.box ≡ 0 → TrainOf t s.train
      → (train_at (reached t steps) s.train).message ≡ Sent q → gives_back q ≡ true → (step (reached t steps) s).code ≡ 0
  pub heard_yes
      : (i : ℕ) → TrainOf t i → (q : Request) (c : ℕ) → (train_at (reached t steps) i).message ≡ Answered q c → gives_back q ≡ true → c ≡ 0
  -- What is given back and answered is not the train's at that box, until it asks for it again.
  pub returned
      : (s : Step) (q : Request) → s.kind ≡ 3 → (step (reached t steps) s).code ≡ 0
      → (train_at (reached t steps) s.train).message ≡ Sent q → gives_back q ≡ true → (more : List Step)
      → some_event (asks_for s.train (holding q)) (events step (step (reached t steps) s).line more) ≡ false
      → held_for (line_after step (step (reached t steps) s).line more) s.train (holding q) ≡ false
  -- What a box has said yes to it says yes to again, and no box changes, whatever comes between but another request of the train: so a yes
  -- that was lost can be had again.
  pub again
      : (i : ℕ) → let now = step (reached t steps) (answer_step i) in now.code ≡ 0 → (between : List Step)
      → some_event (requests i) (events step now.line between) ≡ false
      → let later = line_after step now.line between in
      (q : Request) → (train_at later i).message ≡ Sent q
      → ((step later (answer_step i)).code ≡ 0) × ((step later (answer_step i)).line.boxes ≡ later.boxes)
  -- However often a request is sent and answered, the boxes change at most once: of two answers to a train, whatever comes between but
  -- another request of it, one changes no box.
  pub once
      : (i : ℕ) (between : List Step) → let now = (step (reached t steps) (answer_step i)).line in
      some_event (requests i) (events step now between) ≡ false
      → let later = line_after step now between in
      (now.boxes ≡ (reached t steps).boxes) ⊎ ((step later (answer_step i)).line.boxes ≡ later.boxes)
  -- A step changes no other train, and at most one box.
  pub other_trains
      : (s : Step) (j : ℕ) → j ≢ s.train → train_at (step (reached t steps) s).line j ≡ train_at (reached t steps) j
  pub other_boxes
      : (s : Step) → (b : ℕ) × ((c : ℕ) → c ≢ b → box_at (step (reached t steps) s).line c ≡ box_at (reached t steps) c)

-- For every file that is accepted and every list of steps.
abbrev pub AlsoHolds : Type 0
AlsoHolds = (bytes : List ℕ) → file_code bytes ≡ 0 → (steps : List Step) → Consequences (decode bytes) steps
