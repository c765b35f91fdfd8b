-- Examples of what demand 3 says (specs/Safety.antt), on table S; at the end a table that code 9 refuses, and what could happen on
-- it. proofs/Examples.antt proves that the definitions give what each says. On table S train 1 starts on 1 and goes over 2 to 4,
-- train 2 starts on 4 and goes over 3 to 1. Box 2 is a point with stem 1, left 2 and right 3, box 3 a point with stem 4, left 2
-- and right 3; boxes 1 and 4 are borders, at the outer ends of 1 and 4.
-- Steps are kind, train, box: 1 asks for next at a box, 2 for its lock, 3 the box answers, 4 the train hears, 5 Enter, 6 Clear, 7 gives
-- next back at a box, 8 its lock, 9 loses what is under way, 10 sends the request again.
use Rattle.std.specs.Prelude.{ℕ, ◌+◌, ◌-◌, Bool, true, false, cond, List, [], ◌∷◌, ◌++◌, map, leb}
use Rattle.rules.specs.declared.Table.{Table}
use Rattle.rules.specs.declared.SwitchBox.{SwitchBox}
use Rattle.rules.specs.declared.Line.{Line}
use Rattle.rules.specs.Rows.{list_of}
use Rattle.rules.specs.File.{decode}
use Rattle.rules.specs.Line.{start_line, no_box, box_at, around}
use Rattle.rules.specs.Steps.{Step}
use Rattle.rules.specs.History.{Event, ◌answered◌, Place, events}
use Rattle.rules.specs.Atomic.{atomic_step, stopped}
use Rattle.rules.specs.Safety.{on_route, reached, history, where_is, ordered, atomic}
use Rattle.rules.specs.Printout.{tail_of}
use Rattle.rules.specs.Cases.{table_s, step_of, asked, passage}

-- The segments that a train covers: its front, and its tail or 0 where it covers its front alone.
pub record Stretch : Type 0 where
  pub front : ℕ
  pub tail : ℕ

-- The trains in their order, and the boxes in theirs.
pub record Scene : Type 0 where
  pub trains : List Stretch
  pub boxes : List SwitchBox

-- An example: steps with their answers, the order of atomic steps that they make, and the scene after them.
pub record Example : Type 0 where
  pub events : List Event
  pub order : List Step
  pub scene : Scene

-- What demand 3 speaks of, after a list of steps: the steps with their answers; the order, and whether an atomic step of it was
-- stopped; what the trains cover by their accepted moves alone; and the scene on the line and on the atomic line.
pub record Seen : Type 0 where
  pub events : List Event
  pub order : List Step
  pub stopped : Bool
  pub by_moves : List Stretch
  pub line : Scene
  pub atomic_line : Scene

-- What train i of table t covers, being there on its route.
unfoldable pub stretch_at : Table → ℕ → Place → Stretch
stretch_at t i at =
    record {
      front = on_route t i at.place;
      tail = cond (leb at.covered 1) 0 (on_route t i (at.place + 1 - at.covered));
    }

-- What the trains of a table cover after a list of steps from its start line, by their accepted moves alone.
unfoldable pub covered_by : Table → List Step → List Stretch
covered_by t steps = list_of t.k (λ i. stretch_at t i (where_is t steps i))

-- The scene on a line.
unfoldable pub scene_of : Line → Scene
scene_of l =
    let t = l.table in
    record {
      trains = list_of t.k (λ i. record { front = (around l i).front; tail = tail_of l i });
      boxes = list_of t.m (box_at l);
    }

-- What is seen on table S after the steps of an example, and what the example says of it.
unfoldable pub seen : Example → Seen
seen e =
    let t = decode table_s in
    let steps = map (λ (v : Event). v.step) e.events in
    record {
      events = history t steps;
      order = ordered t steps;
      stopped = stopped (events atomic_step (start_line t) (ordered t steps));
      by_moves = covered_by t steps;
      line = scene_of (reached t steps);
      atomic_line = scene_of (atomic t steps);
    }

unfoldable pub said : Example → Seen
said e =
    record {
      events = e.events;
      order = e.order;
      stopped = false;
      by_moves = e.scene.trains;
      line = e.scene;
      atomic_line = e.scene;
    }

-- Steps that are all answered 0.
unfoldable pub allowed : List Step → List Event
allowed steps = map (λ (s : Step). s answered 0) steps

-- A request s that is delayed behind another, z: z is sent after s and answered before it. The answer to z is heard last.
unfoldable pub overtaken : Step → Step → List Step
overtaken s z =
    s ∷ z ∷ step_of 3 z.train 0 ∷ step_of 3 s.train 0 ∷ step_of 4 s.train 0 ∷ step_of 4 z.train 0 ∷ []

-- A border that holds nothing.
abbrev pub free_border : SwitchBox
free_border = no_box

-- The order of the passage of train 1 from 1 onto 2.
unfoldable pub passage_order : List Step
passage_order = step_of 1 1 2 ∷ step_of 1 1 3 ∷ step_of 2 1 2 ∷ step_of 5 1 0 ∷ step_of 6 1 0 ∷ []

-- Train 1 goes over the point at box 2 onto 2. Each of its three requests is delayed behind one of train 2, which asks for 3 at
-- box 2 and at box 3 and for the lock of box 3. The order has the requests as they were granted, train 2's first.
unfoldable pub delayed : Example
delayed =
    record {
      events =
          allowed
          (overtaken (step_of 1 1 2) (step_of 1 2 2)
          ++ overtaken (step_of 1 1 3) (step_of 1 2 3)
          ++ overtaken (step_of 2 1 2) (step_of 2 2 3)
          ++ (step_of 5 1 0 ∷ step_of 6 1 0 ∷ []));
      order =
          (step_of 1 2 2 ∷ step_of 1 1 2 ∷ [])
          ++ (step_of 1 2 3 ∷ step_of 1 1 3 ∷ [])
          ++ (step_of 2 2 3 ∷ step_of 2 1 2 ∷ [])
          ++ (step_of 5 1 0 ∷ step_of 6 1 0 ∷ []);
      scene =
          record {
            trains = record { front = 2; tail = 0 } ∷ record { front = 4; tail = 0 } ∷ [];
            boxes =
                free_border
                -- Passed by train 1: 1 and 2 are free, 3 is reserved for train 2, and the position is as it was locked.
                ∷ record { sensor = false; position = 1; lock = 0; stem = 0; left = 0; right = 2 }
                -- Locked for train 2, from 4 to 3.
                ∷ record { sensor = false; position = 2; lock = 2; stem = 2; left = 1; right = 2 }
                ∷ free_border
                ∷ [];
          };
    }

-- Train 1 goes onto 2 and asks for 4, on which train 2 stands. Box 4 says yes. Box 3 has 4 reserved for train 2 and says 22, which
-- train 1 hears; it may not enter. What was denied or refused is not in the order.
unfoldable pub held : Example
held =
    record {
      events =
          allowed (passage ++ asked 1 1 4)
          ++ (step_of 1 1 3 answered 0 ∷ step_of 3 1 0 answered 22 ∷ step_of 4 1 0 answered 22 ∷ step_of 5 1 0 answered 19 ∷ []);
      order = passage_order ++ (step_of 1 1 4 ∷ []);
      scene =
          record {
            trains = record { front = 2; tail = 0 } ∷ record { front = 4; tail = 0 } ∷ [];
            boxes =
                free_border
                ∷ record { sensor = false; position = 1; lock = 0; stem = 0; left = 0; right = 0 }
                ∷ record { sensor = false; position = 1; lock = 0; stem = 2; left = 1; right = 0 }
                ∷ record { sensor = false; position = 0; lock = 0; stem = 1; left = 0; right = 0 }
                ∷ [];
          };
    }

-- Train 1 goes onto 2 and asks for the lock of box 3, but train 2's request for it is answered first: box 3 says 24 to train 1,
-- which hears it. Train 2 enters 3 and crosses box 3, whose position joins 4 and 3.
unfoldable pub locked : Example
locked =
    record {
      events =
          allowed (passage ++ asked 1 2 3 ++ asked 1 2 2 ++ (step_of 2 1 3 ∷ asked 2 2 3))
          ++ (step_of 3 1 0 answered 24 ∷ step_of 4 1 0 answered 24 ∷ step_of 5 2 0 answered 0 ∷ []);
      order = passage_order ++ (step_of 1 2 3 ∷ step_of 1 2 2 ∷ step_of 2 2 3 ∷ step_of 5 2 0 ∷ []);
      scene =
          record {
            trains = record { front = 2; tail = 0 } ∷ record { front = 3; tail = 4 } ∷ [];
            boxes =
                free_border
                ∷ record { sensor = false; position = 1; lock = 0; stem = 0; left = 0; right = 2 }
                ∷ record { sensor = true; position = 2; lock = 2; stem = 2; left = 1; right = 2 }
                ∷ free_border
                ∷ [];
          };
    }

-- Train 1 goes onto 2, reserves 4 at box 4 and gives it back. While that message is under way train 2 reserves 3 at box 3. The order has
-- the give-back where box 4 answers it.
unfoldable pub given_back : Example
given_back =
    record {
      events = allowed (passage ++ asked 1 1 4 ++ (step_of 7 1 4 ∷ []) ++ asked 1 2 3 ++ (step_of 3 1 0 ∷ []));
      order = passage_order ++ (step_of 1 1 4 ∷ step_of 1 2 3 ∷ step_of 7 1 4 ∷ []);
      scene =
          record {
            trains = record { front = 2; tail = 0 } ∷ record { front = 4; tail = 0 } ∷ [];
            boxes =
                free_border
                ∷ record { sensor = false; position = 1; lock = 0; stem = 0; left = 0; right = 0 }
                ∷ record { sensor = false; position = 1; lock = 0; stem = 2; left = 1; right = 2 }
                ∷ free_border
                ∷ [];
          };
    }

-- A request of train i that is lost, sent again and answered, whose answer is lost too; it is sent again and answered again, and that is
-- heard.
unfoldable pub lost_once : ℕ → ℕ → ℕ → List Step
lost_once kind i b =
    step_of kind i b ∷ step_of 9 i 0 ∷ step_of 10 i 0 ∷ step_of 3 i 0 ∷ step_of 9 i 0 ∷ step_of 10 i 0 ∷ step_of 3 i 0 ∷ step_of 4 i 0 ∷ []

-- Both trains go to their routes' ends, train 1 over 2 to 4 and train 2 over 3 to 1; `ask` has the steps of a request by its kind, train and
-- box.
unfoldable pub both_through : (ℕ → ℕ → ℕ → List Step) → List Step
both_through ask =
    ask 1 1 2 ++ ask 1 1 3 ++ ask 2 1 2 ++ (step_of 5 1 0 ∷ step_of 6 1 0 ∷ [])
    ++ ask 1 2 3 ++ ask 1 2 2 ++ ask 2 2 3 ++ (step_of 5 2 0 ∷ step_of 6 2 0 ∷ [])
    ++ ask 1 1 3 ++ ask 1 1 4 ++ ask 2 1 3 ++ (step_of 5 1 0 ∷ step_of 6 1 0 ∷ [])
    ++ ask 1 2 2 ++ ask 1 2 1 ++ ask 2 2 2 ++ (step_of 5 2 0 ∷ step_of 6 2 0 ∷ [])

-- Its order has each request once, and after it train 1 is on 4 and train 2 on 1, each with its segment reserved at the border ahead.
unfoldable pub through_order : List Step
through_order = both_through (λ kind i b. step_of kind i b ∷ [])

unfoldable pub through_scene : Scene
through_scene =
    record {
      trains = record { front = 4; tail = 0 } ∷ record { front = 1; tail = 0 } ∷ [];
      boxes =
          record { sensor = false; position = 0; lock = 0; stem = 2; left = 0; right = 0 }
          ∷ record { sensor = false; position = 2; lock = 0; stem = 0; left = 0; right = 0 }
          ∷ record { sensor = false; position = 1; lock = 0; stem = 0; left = 0; right = 0 }
          ∷ record { sensor = false; position = 0; lock = 0; stem = 1; left = 0; right = 0 }
          ∷ [];
    }

-- So it is where no message is lost, and so it is where every request and every answer is lost once.
unfoldable pub undisturbed : Example
undisturbed = record { events = allowed (both_through asked); order = through_order; scene = through_scene }

unfoldable pub losing : Example
losing = record { events = allowed (both_through lost_once); order = through_order; scene = through_scene }

unfoldable pub examples : List Example
examples = delayed ∷ held ∷ locked ∷ given_back ∷ undisturbed ∷ losing ∷ []

-- What code 9 keeps out. Segment 1 runs from box 1 to box 2 and segment 2 back, and 3 leads away at box 2, a point with stem 1. Train
-- 1 goes round, 1, 2, 1; train 2 comes from 3. While train 1 crosses box 2, its tail 1 is also its next: box 2 has 1 reserved for
-- it, train 1 records that, and its Clear frees it.
unfoldable pub circle : List ℕ
circle =
    0x4E ∷ 0x45 ∷ 0x54 ∷ 0 ∷ 1 ∷ 3 ∷ 3 ∷ 2
    ∷ 1 ∷ 2 ∷ 2 ∷ 1 ∷ 2 ∷ 3
    ∷ 1 ∷ 1 ∷ 2 ∷ 0 ∷ 0 ∷ 2 ∷ 1 ∷ 2 ∷ 3 ∷ 1 ∷ 0 ∷ 3 ∷ 0 ∷ 0 ∷ 0
    ∷ 0 ∷ 3 ∷ 1 ∷ 2 ∷ 1 ∷ 1 ∷ 2 ∷ 3 ∷ 1 ∷ []

-- Train 1 has gone round onto 1, and train 2 follows it there.
unfoldable pub round_trip : List Step
round_trip =
    asked 1 1 2 ++ asked 1 1 1 ++ asked 2 1 2
    ++ (step_of 5 1 0 ∷ [])
    ++ asked 1 1 2 ++ asked 1 1 1
    ++ (step_of 6 1 0 ∷ step_of 5 1 0 ∷ step_of 6 1 0 ∷ [])
    ++ asked 1 2 2 ++ asked 1 2 1 ++ asked 2 2 2
    ++ (step_of 5 2 0 ∷ [])
