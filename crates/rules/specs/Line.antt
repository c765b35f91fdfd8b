-- A line (01, "The line"): its boxes and trains by number, its start, and what stands around a train.
use Rattle.std.specs.Prelude.{ℕ, zero, suc, ◌+◌, ◌-◌, Bool, true, false, cond, ◌&&◌, List, eqb, replicate}
use Rattle.rules.specs.declared.BoxPlan.{BoxPlan}
use Rattle.rules.specs.declared.TrainPlan.{TrainPlan}
use Rattle.rules.specs.declared.Table.{Table}
use Rattle.rules.specs.declared.SwitchBox.{SwitchBox}
use Rattle.rules.specs.declared.Holding.{Holding}
use Rattle.rules.specs.declared.Holding.TheVariants.{NextAt, LockAt}
use Rattle.rules.specs.declared.Request.{Request}
use Rattle.rules.specs.declared.Request.TheVariants.{Reserve, Lock, GiveBack, Unlock}
use Rattle.rules.specs.declared.Message.{Message}
use Rattle.rules.specs.declared.Message.TheVariants.{Idle, Sent, Answered, Lost}
use Rattle.rules.specs.declared.Train.{Train}
use Rattle.rules.specs.declared.Line.{Line}
use Rattle.rules.specs.declared.Around.{Around}
use Rattle.rules.specs.Ends.{FileOutcome}
use Rattle.rules.specs.Rows.{nth, set_nth, list_of, filled}
use Rattle.rules.specs.Track.{no_segment, no_box_plan, no_train_plan, route_at, Track, track_of, way_of, runs_against, point_at, far_box, near_box}
use Rattle.rules.specs.File.{file_code, file_refusal, decode}

-- What a request is about, and whether it gives that back (kinds 7 and 8) or asks for it (kinds 1 and 2).
unfoldable pub holding : Request → Holding
holding (Reserve b) = NextAt b
holding (Lock b) = LockAt b
holding (GiveBack b) = NextAt b
holding (Unlock b) = LockAt b

unfoldable pub gives_back : Request → Bool
gives_back (Reserve b) = false
gives_back (Lock b) = false
gives_back (GiveBack b) = true
gives_back (Unlock b) = true

-- The box at which the train has the holding.
unfoldable pub holding_box : Holding → ℕ
holding_box (NextAt b) = b
holding_box (LockAt b) = b

-- The papers' numbers for a request: the kind of step that makes it, and its box.
unfoldable pub request_kind : Request → ℕ
request_kind (Reserve b) = 1
request_kind (Lock b) = 2
request_kind (GiveBack b) = 7
request_kind (Unlock b) = 8

unfoldable pub request_box : Request → ℕ
request_box q = holding_box (holding q)

-- The numbers of a message's cases: its state (0 none, 1 sent, 2 answered, 3 lost), the kind and box of its request, and the answer's
-- code; 0 for what a case does not have.
unfoldable pub message_state : Message → ℕ
message_state Idle = 0
message_state (Sent q) = 1
message_state (Answered q c) = 2
message_state (Lost q) = 3

unfoldable pub message_kind : Message → ℕ
message_kind Idle = 0
message_kind (Sent q) = request_kind q
message_kind (Answered q c) = request_kind q
message_kind (Lost q) = request_kind q

unfoldable pub message_box : Message → ℕ
message_box Idle = 0
message_box (Sent q) = request_box q
message_box (Answered q c) = request_box q
message_box (Lost q) = request_box q

unfoldable pub message_code : Message → ℕ
message_code Idle = 0
message_code (Sent q) = 0
message_code (Answered q c) = c
message_code (Lost q) = 0

-- What is read where a line has no such record.
abbrev pub no_box : SwitchBox
no_box = record { sensor = false; position = 0; lock = 0; stem = 0; left = 0; right = 0 }

abbrev pub no_train : Train
no_train =
    record {
      direction = 0;
      length = 0;
      place = 0;
      covered = 0;
      near = false;
      far = false;
      lock = false;
      message = Idle;
    }

-- Box b and train i of the line, and the line with them replaced.
unfoldable pub box_at : Line → ℕ → SwitchBox
box_at l b = nth l.boxes b no_box

unfoldable pub train_at : Line → ℕ → Train
train_at l i = nth l.trains i no_train

unfoldable pub put_train : Line → ℕ → Train → Line
put_train l i r =
    record { table = l.table; boxes = l.boxes; trains = set_nth l.trains i r; routes = l.routes }

unfoldable pub put_box : Line → ℕ → SwitchBox → Line
put_box l b x =
    record { table = l.table; boxes = set_nth l.boxes b x; trains = l.trains; routes = l.routes }

-- The train that a segment s is reserved for at a box, 0 where there is none or the box does not list s; and the box with
-- that set.
unfoldable pub holder_of : BoxPlan → SwitchBox → ℕ → ℕ
holder_of p x s =
    cond (eqb s p.stem) x.stem (cond (eqb s p.left) x.left (cond (eqb s p.right) x.right 0))

unfoldable pub set_holder : BoxPlan → SwitchBox → ℕ → ℕ → SwitchBox
set_holder p x s i =
    record {
      sensor = x.sensor;
      position = x.position;
      lock = x.lock;
      stem = cond (eqb s p.stem) i x.stem;
      left = cond (eqb s p.left) i x.left;
      right = cond (eqb s p.right) i x.right;
    }

-- The start of train i, by the plans of trains: single on its first segment, nothing recorded, no message.
unfoldable pub start_train : List TrainPlan → ℕ → Train
start_train trains i =
    let p = nth trains i no_train_plan in
    record {
      direction = p.direction;
      length = p.length;
      place = 1;
      covered = 1;
      near = false;
      far = false;
      lock = false;
      message = Idle;
    }

-- The boxes at the start, over a track, the plans of trains and their routes.
module _ (track : Track) (trains : List TrainPlan) (routes : List ℕ) where
  -- Train i starts on segment s with box b ahead of it.
  unfoldable pub starts_on : ℕ → ℕ → ℕ → Bool
  starts_on b s i = eqb (route_at routes i 1) s && eqb (far_box track (nth trains i no_train_plan).direction s) b

  -- The train among 1 .. j that segment s is reserved for at box b at the start, 0 where there is none.
  unfoldable pub start_holder : ℕ → ℕ → ℕ → ℕ
  start_holder b s zero = 0
  start_holder b s (suc j) = cond (starts_on b s (suc j)) (suc j) (start_holder b s j)

  -- The start of box b on a line with the trains 1 .. j: sensor passive, position as in its plan, no lock, the first segments
  -- reserved at the boxes ahead.
  unfoldable pub start_box_with : List BoxPlan → ℕ → ℕ → SwitchBox
  start_box_with plans j b =
      let p = nth plans b no_box_plan in
      record {
        sensor = false;
        position = p.position;
        lock = 0;
        stem = start_holder b p.stem j;
        left = start_holder b p.left j;
        right = start_holder b p.right j;
      }

-- Box b at the start of a table's line, which has all its trains; and that line.
unfoldable pub start_box : Table → ℕ → SwitchBox
start_box t b = start_box_with (track_of t) t.trains t.routes t.boxes t.k b

unfoldable pub start_line : Table → Line
start_line t =
    record {
      table = t;
      boxes = filled 96 no_box (list_of t.m (start_box t));
      trains = filled 16 no_train (list_of t.k (start_train t.trains));
      routes = t.routes;
    }

-- The record that stands beside the code of a refused file. Its version is 0: every call on a line refuses it with 27, and the
-- writer with 3.
unfoldable pub empty_table : Table
empty_table =
    record {
      version = 0;
      n = 0;
      m = 0;
      k = 0;
      segments = replicate 96 no_segment;
      boxes = replicate 96 no_box_plan;
      trains = replicate 16 no_train_plan;
      routes = replicate 1024 0;
    }

unfoldable pub empty_line : Line
empty_line =
    record {
      table = empty_table;
      boxes = replicate 96 no_box;
      trains = replicate 16 no_train;
      routes = replicate 1024 0;
    }

-- The reader: why a file is refused, and the start line of its table or, where it is refused, the empty record.
unfoldable pub read : List ℕ → FileOutcome
read bytes =
    record { refusal = file_refusal bytes; line = cond (eqb (file_code bytes) 0) (start_line (decode bytes)) empty_line }

-- What stands around train i with record r, by the track, the ways of segments, which boxes are points, and its route as it stands in
-- `routes`.
-- On a route that follows, the near end of next is at the box ahead. Where there is no next, code 16 comes before its use.
unfoldable pub around_on : Track → (ℕ → ℕ) → (ℕ → Bool) → List ℕ → ℕ → Train → Around
around_on track way point routes i r =
    let segment : ℕ → ℕ = λ p. route_at routes i p in
    let d = r.direction in
    let front = segment r.place in
    let next = segment (r.place + 1) in
    let tail = segment (r.place + 1 - r.covered) in
    record {
      number = i;
      front = front;
      next = next;
      tail = tail;
      second = segment (r.place + 2 - r.covered);
      against = runs_against d (way next);
      ahead = far_box track d front;
      point = point (far_box track d front);
      near_end = near_box track d next;
      far_end = far_box track d next;
      passed = far_box track d tail;
    }

-- The same by a table, and around train i of a line.
abbrev pub around_train : Table → List ℕ → ℕ → Train → Around
around_train t = around_on (track_of t) (way_of t) (point_at t)

unfoldable pub around : Line → ℕ → Around
around l i = around_train l.table l.routes i (train_at l i)
