-- Cases on records made up by hand: for each condition of the record check, 27, and steps on records that no steps reach. Those about the
-- ways of segments are in OneWayCases.
use Rattle.std.specs.Prelude.{ℕ, Bool, true, false, List, [], ◌∷◌, ◌++◌, set, replicate}
use Rattle.rules.specs.declared.Request.TheVariants.{Reserve, Lock, GiveBack, Unlock}
use Rattle.rules.specs.declared.Message.{Message}
use Rattle.rules.specs.declared.Message.TheVariants.{Idle, Sent, Answered, Lost}
use Rattle.rules.specs.declared.SwitchBox.{SwitchBox}
use Rattle.rules.specs.declared.Train.{Train}
use Rattle.rules.specs.declared.Line.{Line}
use Rattle.rules.specs.File.{decode}
use Rattle.rules.specs.Line.{start_line, empty_line, no_train, read, box_at, put_train, put_box}
use Rattle.rules.specs.Steps.{sensed}
use Rattle.rules.specs.Record.{checked_step}
use Rattle.rules.specs.Safety.{reached}
use Rattle.rules.specs.Cases.{Question, written_to, checked, checked_train, checked_box, checked_line, line_numbers, Case, ◌gives◌, step_of, table_s, one_start, ring}
use Rattle.rules.specs.FileCases.{linked}
use Rattle.rules.specs.StepCases.{crossing}

-- Records made up by hand: table S at its start with another train 1, another box, or other routes.
abbrev pub start_s : Line
start_s = start_line (decode table_s)

-- A train by its fields, in their order.
abbrev pub made : ℕ → ℕ → ℕ → ℕ → Bool → Bool → Bool → Message → Train
made d r place covered near far lock g =
    record { direction = d; length = r; place = place; covered = covered; near = near; far = far; lock = lock; message = g }

abbrev pub with_train : ℕ → ℕ → ℕ → ℕ → Message → Line
with_train d r place covered g =
    put_train start_s 1 (made d r place covered false false false g)

abbrev pub with_box : ℕ → ℕ → ℕ → ℕ → ℕ → ℕ → Line
with_box b x lock stem left right =
    put_box start_s b
    (record { sensor = false; position = x; lock = lock; stem = stem; left = left; right = right })

abbrev pub with_routes : List ℕ → Line
with_routes routes =
    record { table = start_s.table; boxes = start_s.boxes; trains = start_s.trains; routes = routes }

-- Table S's start line with the table of other bytes.
abbrev pub with_table : List ℕ → Line
with_table bytes =
    record { table = decode bytes; boxes = start_s.boxes; trains = start_s.trains; routes = start_s.routes }

-- Train 1 on a route in force of one segment.
abbrev pub on_segment : ℕ → Line
on_segment s = put_train (with_routes (set start_s.routes 0 s)) 1 (made 0 1 1 1 false false false Idle)

-- A train's request to lock box 2, the link of `linked`, on the way.
abbrev pub locking_link : Line
locking_link = put_train (start_line (decode linked)) 1 (made 0 2 1 1 false false false (Sent (Lock 2)))

-- A box record with position 1, which only a point can have.
abbrev pub only_position : SwitchBox
only_position = record { sensor = false; position = 1; lock = 0; stem = 0; left = 0; right = 0 }

-- The code of (4,1,0), which is 21 where nothing is to be heard.
abbrev pub heard_on : Line → Question
heard_on l = checked l (step_of 4 1 0)

-- The code of a line's table part, with train and place, which is the writer's for a buffer of no bytes.
abbrev pub table_part : Line → Question
table_part l = written_to l.table []

-- The step (1,1,2), which is accepted on table S's start line, is answered 27 and leaves all trains and boxes as they were.
abbrev pub untouched : Line → Case
untouched l = checked_line l (step_of 1 1 2) gives (27 ∷ line_numbers l)

unfoldable pub record_cases : List Case
record_cases =
    heard_on start_s gives (21 ∷ [])
    ∷ heard_on (reached (decode table_s) crossing) gives (21 ∷ [])
    -- The table part with its code: the empty record, codes 6, 12, 3 and 4.
    ∷ table_part empty_line gives (3 ∷ 0 ∷ 0 ∷ [])
    ∷ heard_on empty_line gives (27 ∷ [])
    ∷ table_part (start_line (decode (set table_s 9 1))) gives (6 ∷ 0 ∷ 0 ∷ [])
    ∷ heard_on (start_line (decode (set table_s 9 1))) gives (27 ∷ [])
    ∷ table_part (start_line (decode one_start)) gives (12 ∷ 0 ∷ 0 ∷ [])
    ∷ heard_on (start_line (decode one_start)) gives (27 ∷ [])
    ∷ table_part (start_line (decode (set table_s 4 3))) gives (3 ∷ 0 ∷ 0 ∷ [])
    ∷ heard_on (start_line (decode (set table_s 4 3))) gives (27 ∷ [])
    ∷ table_part (start_line (decode (set table_s 7 17))) gives (4 ∷ 0 ∷ 0 ∷ [])
    ∷ heard_on (start_line (decode (set table_s 7 17))) gives (27 ∷ [])
    -- The same where nothing else is at fault: 7, 8, 10, 11 and 28 beside table S's boxes and trains, and 9 with no train.
    ∷ checked start_s (step_of 1 1 2) gives (0 ∷ [])
    ∷ table_part (with_table (set table_s 18 2)) gives (7 ∷ 0 ∷ 0 ∷ [])
    ∷ untouched (with_table (set table_s 18 2))
    ∷ table_part (with_table (set table_s 17 2)) gives (8 ∷ 0 ∷ 0 ∷ [])
    ∷ untouched (with_table (set table_s 17 2))
    ∷ table_part (start_line (decode ring)) gives (9 ∷ 0 ∷ 0 ∷ [])
    ∷ untouched (start_line (decode ring))
    ∷ table_part (with_table (set table_s 36 2)) gives (10 ∷ 0 ∷ 0 ∷ [])
    ∷ untouched (with_table (set table_s 36 2))
    ∷ table_part (with_table (set table_s 45 5)) gives (11 ∷ 2 ∷ 3 ∷ [])
    ∷ untouched (with_table (set table_s 45 5))
    ∷ table_part (with_table (set table_s 39 4)) gives (28 ∷ 1 ∷ 2 ∷ [])
    ∷ untouched (with_table (set table_s 39 4))
    -- What the reader leaves: a line, or none.
    ∷ heard_on (read table_s).line gives (21 ∷ [])
    ∷ heard_on (read (table_s ++ (0 ∷ []))).line gives (27 ∷ [])
    -- The route as it stands: another that follows, ones that do not (at train 2's last place too), a direction above 1 or against it,
    -- lengths 0 and 65.
    ∷ heard_on (with_routes (set start_s.routes 1 3)) gives (21 ∷ [])
    ∷ heard_on (with_routes (set start_s.routes 1 4)) gives (27 ∷ [])
    ∷ heard_on (with_routes (set start_s.routes 66 2)) gives (27 ∷ [])
    ∷ heard_on (with_train 2 3 1 1 Idle) gives (27 ∷ [])
    ∷ heard_on (with_train 1 3 1 1 Idle) gives (27 ∷ [])
    ∷ heard_on (with_train 0 0 1 1 Idle) gives (27 ∷ [])
    ∷ heard_on (with_train 0 65 1 1 Idle) gives (27 ∷ [])
    ∷ heard_on (with_train 2 1 1 1 Idle) gives (27 ∷ [])
    -- A route's only segment: one that is there, 0, and one above n. What stands beyond a route's length is not looked at.
    ∷ heard_on (on_segment 4) gives (21 ∷ [])
    ∷ untouched (on_segment 0)
    ∷ untouched (on_segment 5)
    ∷ heard_on (with_routes (set start_s.routes 3 5)) gives (21 ∷ [])
    -- Every train up to k is looked at, and none above.
    ∷ heard_on (put_train start_s 2 no_train) gives (27 ∷ [])
    ∷ heard_on (put_train start_s 3 no_train) gives (21 ∷ [])
    -- Places 0 and 4, a tail before the route's start; no segment covered, and three.
    ∷ heard_on (with_train 0 3 0 1 Idle) gives (27 ∷ [])
    ∷ heard_on (with_train 0 3 4 1 Idle) gives (27 ∷ [])
    ∷ heard_on (with_train 0 3 1 2 Idle) gives (27 ∷ [])
    ∷ heard_on (with_train 0 3 2 0 Idle) gives (27 ∷ [])
    ∷ heard_on (with_train 0 3 3 3 Idle) gives (27 ∷ [])
    ∷ heard_on (with_train 0 3 3 2 Idle) gives (21 ∷ [])
    -- Positions that do not fit, and holders above k.
    ∷ heard_on (with_box 1 1 0 0 0 0) gives (27 ∷ [])
    ∷ heard_on (with_box 2 0 0 0 0 0) gives (27 ∷ [])
    ∷ heard_on (with_box 2 3 0 0 0 0) gives (27 ∷ [])
    ∷ heard_on (with_box 2 2 2 2 2 2) gives (21 ∷ [])
    ∷ heard_on (with_box 2 2 3 0 0 0) gives (27 ∷ [])
    ∷ heard_on (with_box 2 2 0 3 0 0) gives (27 ∷ [])
    ∷ heard_on (with_box 2 2 0 0 3 0) gives (27 ∷ [])
    ∷ heard_on (with_box 2 2 0 0 0 3) gives (27 ∷ [])
    ∷ heard_on (with_box 4 1 0 0 0 0) gives (27 ∷ [])
    ∷ untouched (put_box (start_line (decode linked)) 2 only_position)
    -- Every box up to m is looked at, and none above.
    ∷ heard_on (put_box start_s 5 only_position) gives (21 ∷ [])
    ∷ heard_on (put_box (start_line (decode linked)) 3 only_position) gives (27 ∷ [])
    -- At a border, which has no lock, left and right: a holder above k, and one up to k.
    ∷ untouched (with_box 1 0 3 0 0 0)
    ∷ heard_on (with_box 1 0 0 0 3 0) gives (27 ∷ [])
    ∷ untouched (with_box 1 0 0 0 0 3)
    ∷ heard_on (with_box 1 0 0 0 2 0) gives (21 ∷ [])
    -- Messages that 16 or 17 would stop.
    ∷ heard_on (with_train 0 3 1 1 (Sent (Reserve 3))) gives (21 ∷ [])
    ∷ heard_on (with_train 0 3 3 1 (Sent (Reserve 3))) gives (27 ∷ [])
    ∷ heard_on (with_train 0 3 1 1 (Sent (Reserve 4))) gives (27 ∷ [])
    ∷ heard_on (with_train 0 3 1 1 (Sent (Lock 3))) gives (27 ∷ [])
    ∷ heard_on (with_train 0 3 1 1 (Answered (Lock 3) 0)) gives (27 ∷ [])
    ∷ heard_on (with_train 0 3 3 1 (Answered (Reserve 3) 0)) gives (27 ∷ [])
    -- 16 alone: no next and a point ahead, and no next with box 0; 17 alone: a box ahead that is no point.
    ∷ untouched (with_train 0 1 1 1 (Sent (Lock 2)))
    ∷ untouched (with_train 0 3 3 1 (Sent (Reserve 0)))
    ∷ untouched locking_link
    -- Answers: 0 and 22 for a reservation, 0 and 23 to 25 for a lock.
    ∷ heard_on (with_train 0 3 1 1 (Answered (Reserve 2) 22)) gives (22 ∷ [])
    ∷ heard_on (with_train 0 3 1 1 (Answered (Reserve 2) 21)) gives (27 ∷ [])
    ∷ heard_on (with_train 0 3 1 1 (Answered (Reserve 2) 23)) gives (27 ∷ [])
    ∷ heard_on (with_train 0 3 1 1 (Answered (Lock 2) 0)) gives (0 ∷ [])
    ∷ heard_on (with_train 0 3 1 1 (Answered (Lock 2) 23)) gives (23 ∷ [])
    ∷ heard_on (with_train 0 3 1 1 (Answered (Lock 2) 24)) gives (24 ∷ [])
    ∷ heard_on (with_train 0 3 1 1 (Answered (Lock 2) 25)) gives (25 ∷ [])
    ∷ heard_on (with_train 0 3 1 1 (Answered (Lock 2) 26)) gives (27 ∷ [])
    ∷ heard_on (with_train 0 3 1 1 (Answered (Lock 2) 22)) gives (27 ∷ [])
    -- Give-backs: 16 and 17 as for requests, and 0 alone as an answer.
    ∷ heard_on (with_train 0 3 1 1 (Sent (GiveBack 3))) gives (21 ∷ [])
    ∷ heard_on (with_train 0 3 1 1 (Sent (GiveBack 4))) gives (27 ∷ [])
    ∷ heard_on (with_train 0 3 1 1 (Sent (Unlock 3))) gives (27 ∷ [])
    ∷ heard_on (with_train 0 3 3 1 (Answered (GiveBack 3) 0)) gives (27 ∷ [])
    ∷ heard_on (with_train 0 3 1 1 (Answered (GiveBack 2) 22)) gives (27 ∷ [])
    ∷ heard_on (with_train 0 3 1 1 (Answered (Unlock 2) 0)) gives (0 ∷ [])
    ∷ heard_on (with_train 0 3 1 1 (Answered (Unlock 2) 24)) gives (27 ∷ [])
    -- Lost messages: 16 and 17 as for requests on their way, and no answer.
    ∷ heard_on (with_train 0 3 1 1 (Lost (Reserve 3))) gives (21 ∷ [])
    ∷ heard_on (with_train 0 3 3 1 (Lost (Reserve 3))) gives (27 ∷ [])
    ∷ heard_on (with_train 0 3 1 1 (Lost (Reserve 4))) gives (27 ∷ [])
    ∷ heard_on (with_train 0 3 1 1 (Lost (Lock 3))) gives (27 ∷ [])
    ∷ heard_on (with_train 0 3 1 1 (Lost (GiveBack 2))) gives (21 ∷ [])
    ∷ heard_on (with_train 0 3 1 1 (Lost (GiveBack 4))) gives (27 ∷ [])
    ∷ heard_on (with_train 0 3 1 1 (Lost (Unlock 3))) gives (27 ∷ [])
    -- 27 before 13, and the record as it was.
    ∷ checked empty_line (step_of 0 0 0) gives (27 ∷ [])
    ∷ checked_train (with_train 0 3 1 2 (Sent (Reserve 2))) (step_of 3 1 0) 1
    gives (27 ∷ 0 ∷ 3 ∷ 1 ∷ 2 ∷ 0 ∷ 0 ∷ 0 ∷ 1 ∷ 1 ∷ 2 ∷ 0 ∷ [])
    ∷ checked_box (with_train 0 3 1 2 (Sent (Reserve 2))) (step_of 3 1 0) 2 gives (27 ∷ 0 ∷ 1 ∷ 0 ∷ 1 ∷ 0 ∷ 0 ∷ [])
    ∷ []

-- Records that no steps reach: train 1 asks box 2, which has these holders; train 1 crosses box 2, held by train 2 throughout;
-- train 1 has all it needs to enter and a request open still.
abbrev pub asking : Message → ℕ → ℕ → ℕ → Line
asking g lock stem left =
    put_box (with_train 0 3 1 1 g) 2
    (record { sensor = false; position = 1; lock = lock; stem = stem; left = left; right = 0 })

abbrev pub held_by_other : Line
held_by_other =
    put_box
    (put_train start_s 1 (made 0 3 2 2 true false true Idle))
    2
    (record { sensor = true; position = 2; lock = 2; stem = 2; left = 2; right = 2 })

abbrev pub open_at_enter : Line
open_at_enter =
    put_box
    (put_train start_s 1 (made 0 3 1 1 true true true (Sent (Reserve 2))))
    2
    (record { sensor = false; position = 1; lock = 2; stem = 0; left = 2; right = 0 })

-- The line with the sensor of box 2 active, whether or not a train crosses it.
abbrev pub box_sensed : Line → Line
box_sensed l = put_box l 2 (sensed (box_at l 2))

-- Train 1 asks for the lock of box 2, which is its own already, and the point does not join 1 and 2.
abbrev pub lying_otherwise : Line
lying_otherwise =
    put_box (with_train 0 3 1 1 (Sent (Lock 2))) 2
    (record { sensor = false; position = 2; lock = 1; stem = 1; left = 1; right = 0 })

-- Train 1 with another route as it stands: 1, 3, 4, and back over 4, 2, 1. It asks box 2 for the lock, or box 3 for a
-- reservation of its next segment.
abbrev pub over_right : Message → Line
over_right g =
    put_train
    (put_box (with_routes (set start_s.routes 1 3)) 2
    (record { sensor = false; position = 1; lock = 0; stem = 1; left = 0; right = 1 }))
    1
    (made 0 3 1 1 true false false g)

abbrev pub going_back : Message → Line
going_back g =
    put_train (with_routes (set (set start_s.routes 0 4) 2 1)) 1
    (made 1 3 1 1 false false false g)

unfoldable pub made_up_cases : List Case
made_up_cases =
    -- The route and direction as they stand count, not the table's.
    checked_box (over_right (Sent (Lock 2))) (step_of 3 1 0) 2 gives (0 ∷ 0 ∷ 2 ∷ 1 ∷ 1 ∷ 0 ∷ 1 ∷ [])
    ∷ checked_box (over_right (Sent (Reserve 3))) (step_of 3 1 0) 3 gives (0 ∷ 0 ∷ 1 ∷ 0 ∷ 2 ∷ 0 ∷ 1 ∷ [])
    ∷ checked_train (going_back Idle) (step_of 1 1 2) 1 gives (0 ∷ 1 ∷ 3 ∷ 1 ∷ 1 ∷ 0 ∷ 0 ∷ 0 ∷ 1 ∷ 1 ∷ 2 ∷ 0 ∷ [])
    ∷ checked_train (going_back (Answered (Reserve 2) 0)) (step_of 4 1 0) 1 gives (0 ∷ 1 ∷ 3 ∷ 1 ∷ 1 ∷ 0 ∷ 1 ∷ replicate 5 0)
    ∷ checked (going_back Idle) (step_of 1 1 4) gives (17 ∷ [])
    ∷ checked_box (going_back (Sent (Reserve 3))) (step_of 3 1 0) 3 gives (0 ∷ 0 ∷ 1 ∷ 0 ∷ 2 ∷ 1 ∷ 0 ∷ [])
    -- 25 by the front alone.
    ∷ checked (asking (Sent (Lock 2)) 0 0 1) (step_of 3 1 0) gives (25 ∷ [])
    -- What the box has for the train already is a yes before 25 and 23, and nothing changes, not the position either.
    ∷ checked_box (asking (Sent (Reserve 2)) 0 1 1) (step_of 3 1 0) 2 gives (0 ∷ 0 ∷ 1 ∷ 0 ∷ 1 ∷ 1 ∷ 0 ∷ [])
    ∷ checked_box (asking (Sent (Lock 2)) 1 1 1) (step_of 3 1 0) 2 gives (0 ∷ 0 ∷ 1 ∷ 1 ∷ 1 ∷ 1 ∷ 0 ∷ [])
    ∷ checked_box (asking (Sent (Lock 2)) 1 0 2) (step_of 3 1 0) 2 gives (0 ∷ 0 ∷ 1 ∷ 1 ∷ 0 ∷ 2 ∷ 0 ∷ [])
    ∷ checked_box (box_sensed (asking (Sent (Lock 2)) 1 1 1)) (step_of 3 1 0) 2 gives (0 ∷ 1 ∷ 1 ∷ 1 ∷ 1 ∷ 1 ∷ 0 ∷ [])
    ∷ checked_box lying_otherwise (step_of 3 1 0) 2 gives (0 ∷ 0 ∷ 2 ∷ 1 ∷ 1 ∷ 1 ∷ 0 ∷ [])
    ∷ checked_train lying_otherwise (step_of 3 1 0) 1 gives (0 ∷ 0 ∷ 3 ∷ 1 ∷ 1 ∷ 0 ∷ 0 ∷ 0 ∷ 2 ∷ 2 ∷ 2 ∷ 0 ∷ [])
    -- 23: the sensor is active, and the lock is free, whatever is reserved. Another's lock is 24, before 23 and 25. The answer is on its
    -- way, and the box is as it was. Heard, it leaves nothing recorded.
    ∷ checked (box_sensed (asking (Sent (Lock 2)) 0 1 1)) (step_of 3 1 0) gives (23 ∷ [])
    ∷ checked (box_sensed (asking (Sent (Lock 2)) 0 0 0)) (step_of 3 1 0) gives (23 ∷ [])
    ∷ checked (box_sensed (asking (Sent (Lock 2)) 2 1 1)) (step_of 3 1 0) gives (24 ∷ [])
    ∷ checked (box_sensed (asking (Sent (Lock 2)) 2 0 0)) (step_of 3 1 0) gives (24 ∷ [])
    ∷ checked (asking (Sent (Lock 2)) 2 0 0) (step_of 3 1 0) gives (24 ∷ [])
    ∷ checked_train (box_sensed (asking (Sent (Lock 2)) 0 1 1)) (step_of 3 1 0) 1
    gives (23 ∷ 0 ∷ 3 ∷ 1 ∷ 1 ∷ 0 ∷ 0 ∷ 0 ∷ 2 ∷ 2 ∷ 2 ∷ 23 ∷ [])
    ∷ checked_box (box_sensed (asking (Sent (Lock 2)) 0 1 1)) (step_of 3 1 0) 2 gives (23 ∷ 1 ∷ 1 ∷ 0 ∷ 1 ∷ 1 ∷ 0 ∷ [])
    ∷ checked_train (with_train 0 3 1 1 (Answered (Lock 2) 23)) (step_of 4 1 0) 1 gives (23 ∷ 0 ∷ 3 ∷ 1 ∷ 1 ∷ replicate 7 0)
    -- A reservation is given, and a lock taken back, whatever the sensor, which stays as it was.
    ∷ checked_box (box_sensed (asking (Sent (Reserve 2)) 0 1 0)) (step_of 3 1 0) 2 gives (0 ∷ 1 ∷ 1 ∷ 0 ∷ 1 ∷ 1 ∷ 0 ∷ [])
    ∷ checked_box (box_sensed (asking (Sent (Unlock 2)) 1 1 1)) (step_of 3 1 0) 2 gives (0 ∷ 1 ∷ 1 ∷ 0 ∷ 1 ∷ 1 ∷ 0 ∷ [])
    -- A give-back drops one record when it is sent; the box frees what is the train's own, and not what is another's or free; the yes
    -- to it is not recorded.
    ∷ checked_train (put_train start_s 1 (made 0 3 1 1 true true true Idle)) (step_of 7 1 2) 1
    gives (0 ∷ 0 ∷ 3 ∷ 1 ∷ 1 ∷ 0 ∷ 1 ∷ 1 ∷ 1 ∷ 7 ∷ 2 ∷ 0 ∷ [])
    ∷ checked_train (put_train start_s 1 (made 0 3 1 1 true true true Idle)) (step_of 7 1 3) 1
    gives (0 ∷ 0 ∷ 3 ∷ 1 ∷ 1 ∷ 1 ∷ 0 ∷ 1 ∷ 1 ∷ 7 ∷ 3 ∷ 0 ∷ [])
    ∷ checked_train (put_train start_s 1 (made 0 3 1 1 true true true Idle)) (step_of 8 1 2) 1
    gives (0 ∷ 0 ∷ 3 ∷ 1 ∷ 1 ∷ 1 ∷ 1 ∷ 0 ∷ 1 ∷ 8 ∷ 2 ∷ 0 ∷ [])
    ∷ checked_box (asking (Sent (GiveBack 2)) 1 1 1) (step_of 3 1 0) 2 gives (0 ∷ 0 ∷ 1 ∷ 1 ∷ 1 ∷ 0 ∷ 0 ∷ [])
    ∷ checked_box (asking (Sent (GiveBack 2)) 1 1 2) (step_of 3 1 0) 2 gives (0 ∷ 0 ∷ 1 ∷ 1 ∷ 1 ∷ 2 ∷ 0 ∷ [])
    ∷ checked_box (asking (Sent (GiveBack 2)) 2 2 0) (step_of 3 1 0) 2 gives (0 ∷ 0 ∷ 1 ∷ 2 ∷ 2 ∷ 0 ∷ 0 ∷ [])
    ∷ checked_box (asking (Sent (Unlock 2)) 1 1 1) (step_of 3 1 0) 2 gives (0 ∷ 0 ∷ 1 ∷ 0 ∷ 1 ∷ 1 ∷ 0 ∷ [])
    ∷ checked_box (asking (Sent (Unlock 2)) 2 1 1) (step_of 3 1 0) 2 gives (0 ∷ 0 ∷ 1 ∷ 2 ∷ 1 ∷ 1 ∷ 0 ∷ [])
    ∷ checked_box (asking (Sent (Unlock 2)) 0 1 1) (step_of 3 1 0) 2 gives (0 ∷ 0 ∷ 1 ∷ 0 ∷ 1 ∷ 1 ∷ 0 ∷ [])
    ∷ checked_train (asking (Sent (Unlock 2)) 2 1 1) (step_of 3 1 0) 1 gives (0 ∷ 0 ∷ 3 ∷ 1 ∷ 1 ∷ 0 ∷ 0 ∷ 0 ∷ 2 ∷ 8 ∷ 2 ∷ 0 ∷ [])
    ∷ checked_train (with_train 0 3 1 1 (Answered (GiveBack 2) 0)) (step_of 4 1 0) 1 gives (0 ∷ 0 ∷ 3 ∷ 1 ∷ 1 ∷ replicate 7 0)
    -- A request on its way is lost, and an answer with its code; a lost request is sent again. Nothing else changes, nor when 30 refuses.
    ∷ checked_train (asking (Sent (Lock 2)) 0 1 1) (step_of 9 1 0) 1 gives (0 ∷ 0 ∷ 3 ∷ 1 ∷ 1 ∷ 0 ∷ 0 ∷ 0 ∷ 3 ∷ 2 ∷ 2 ∷ 0 ∷ [])
    ∷ checked_train (asking (Answered (Reserve 2) 22) 0 1 2) (step_of 9 1 0) 1 gives (0 ∷ 0 ∷ 3 ∷ 1 ∷ 1 ∷ 0 ∷ 0 ∷ 0 ∷ 3 ∷ 1 ∷ 2 ∷ 0 ∷ [])
    ∷ checked_train (asking (Answered (GiveBack 2) 0) 0 1 0) (step_of 9 1 0) 1 gives (0 ∷ 0 ∷ 3 ∷ 1 ∷ 1 ∷ 0 ∷ 0 ∷ 0 ∷ 3 ∷ 7 ∷ 2 ∷ 0 ∷ [])
    ∷ checked_train (asking (Lost (Unlock 2)) 1 1 1) (step_of 10 1 0) 1 gives (0 ∷ 0 ∷ 3 ∷ 1 ∷ 1 ∷ 0 ∷ 0 ∷ 0 ∷ 1 ∷ 8 ∷ 2 ∷ 0 ∷ [])
    ∷ checked_box (asking (Answered (Lock 2) 0) 1 1 1) (step_of 9 1 0) 2 gives (0 ∷ 0 ∷ 1 ∷ 1 ∷ 1 ∷ 1 ∷ 0 ∷ [])
    ∷ checked_box (asking (Lost (Unlock 2)) 1 1 1) (step_of 10 1 0) 2 gives (0 ∷ 0 ∷ 1 ∷ 1 ∷ 1 ∷ 1 ∷ 0 ∷ [])
    ∷ checked_train (asking (Lost (Lock 2)) 0 1 1) (step_of 9 1 0) 1 gives (30 ∷ 0 ∷ 3 ∷ 1 ∷ 1 ∷ 0 ∷ 0 ∷ 0 ∷ 3 ∷ 2 ∷ 2 ∷ 0 ∷ [])
    ∷ checked_train (asking (Answered (Lock 2) 25) 0 0 1) (step_of 10 1 0) 1 gives (30 ∷ 0 ∷ 3 ∷ 1 ∷ 1 ∷ 0 ∷ 0 ∷ 0 ∷ 2 ∷ 2 ∷ 2 ∷ 25 ∷ [])
    -- Clear frees whoever holds, and keeps position, third segment and records.
    ∷ checked_box held_by_other (step_of 6 1 0) 2 gives (0 ∷ 0 ∷ 2 ∷ 0 ∷ 0 ∷ 0 ∷ 2 ∷ [])
    ∷ checked_train held_by_other (step_of 6 1 0) 1 gives (0 ∷ 0 ∷ 3 ∷ 2 ∷ 1 ∷ 1 ∷ 0 ∷ 1 ∷ 0 ∷ 0 ∷ 0 ∷ 0 ∷ [])
    -- Enter asks the train's records alone and keeps the message, which 27 then finds.
    ∷ checked_train open_at_enter (step_of 5 1 0) 1 gives (0 ∷ 0 ∷ 3 ∷ 2 ∷ 2 ∷ 0 ∷ 0 ∷ 0 ∷ 1 ∷ 1 ∷ 2 ∷ 0 ∷ [])
    ∷ checked_box open_at_enter (step_of 5 1 0) 2 gives (0 ∷ 1 ∷ 1 ∷ 2 ∷ 0 ∷ 2 ∷ 0 ∷ [])
    ∷ checked (checked_step open_at_enter (step_of 5 1 0)).line (step_of 4 1 0) gives (27 ∷ [])
    -- A no: the answer is on its way, and the box is as it was.
    ∷ checked_train open_at_enter (step_of 3 1 0) 1 gives (22 ∷ 0 ∷ 3 ∷ 1 ∷ 1 ∷ 1 ∷ 1 ∷ 1 ∷ 2 ∷ 1 ∷ 2 ∷ 22 ∷ [])
    ∷ checked_box open_at_enter (step_of 3 1 0) 2 gives (22 ∷ 0 ∷ 1 ∷ 2 ∷ 0 ∷ 2 ∷ 0 ∷ [])
    -- A no and a yes are heard.
    ∷ checked_train (with_train 0 3 1 1 (Answered (Reserve 3) 22)) (step_of 4 1 0) 1
    gives (22 ∷ 0 ∷ 3 ∷ 1 ∷ 1 ∷ 0 ∷ 0 ∷ 0 ∷ 0 ∷ 0 ∷ 0 ∷ 0 ∷ [])
    ∷ checked_train (with_train 0 3 1 1 (Answered (Reserve 3) 0)) (step_of 4 1 0) 1
    gives (0 ∷ 0 ∷ 3 ∷ 1 ∷ 1 ∷ 0 ∷ 1 ∷ 0 ∷ 0 ∷ 0 ∷ 0 ∷ 0 ∷ [])
    ∷ []
