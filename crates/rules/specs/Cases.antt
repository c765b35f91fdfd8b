-- The cases of 01 ("Checked on S and beside it", and the printout of table S), and the form of a case. With the cases of
-- FileCases and the modules after it they are one list, that of AllCases, and proofs/Cases.antt proves that the definitions give what
-- each expects.
use Rattle.std.specs.Prelude.{ℕ, ◌+◌, ◌-◌, ◌*◌, List, [], ◌∷◌, ◌++◌, take, set}
use Rattle.rules.specs.declared.StemSide.{StemSide}
use Rattle.rules.specs.declared.StemSide.TheVariants.{Neither, AEnd, BEnd}
use Rattle.rules.specs.declared.Table.{Table}
use Rattle.rules.specs.Ends.{Refusal}
use Rattle.rules.specs.declared.SwitchBox.{SwitchBox}
use Rattle.rules.specs.declared.Train.{Train}
use Rattle.rules.specs.declared.Line.{Line}
use Rattle.rules.specs.Rows.{list_of, join_of}
use Rattle.rules.specs.Track.{plan_at, track_of, joins}
use Rattle.rules.specs.StemSide.{stem_side_at}
use Rattle.rules.specs.File.{file_refusal, decode, encode, route_refusal, route_part, route_from, write_refusal, written}
use Rattle.rules.specs.Line.{start_line, around, box_at, train_at, message_state, message_kind, message_box, message_code}
use Rattle.rules.specs.Steps.{Step}
use Rattle.rules.specs.Record.{checked_step}
use Rattle.rules.specs.History.{line_after, events}
use Rattle.rules.specs.Atomic.{atomic_step, stopped}
use Rattle.rules.specs.Safety.{reached, history, where_is, ordered, atomic}
use Rattle.rules.specs.Run.{step_count, answers_of, run, answered}
use Rattle.rules.specs.Printout.{bytes_of, decimal, most_steps, taken_of, printout, printout_up_to, tail_of, bit, text_room, print_code, print_length, printed_text, printed_answers}

-- What is asked of the definitions about a file, or about a file and a list of steps.
pub data Question : Type 0 where
  -- The file's code, with train and place.
  code_of : List ℕ → Question
  -- The stem sides of the boxes of the file's table, whatever its code: 1 the A end, 2 the B end, 0 neither.
  sides_of : List ℕ → Question
  -- Whether a position of a box of the file's table joins two segments.
  joined_at : List ℕ → ℕ → ℕ → ℕ → ℕ → Question
  -- The file written from its table record.
  rewritten : List ℕ → Question
  -- The answers to the steps.
  answers_to : List ℕ → List Step → Question
  -- After the steps: the front and the tail of a train, 0 where it covers its front alone.
  train_after : List ℕ → List Step → ℕ → Question
  -- After the steps: a box's sensor, position and lock holder, and the holders at stem, left and right.
  box_after : List ℕ → List Step → ℕ → Question
  -- A number in decimal, and how many steps are taken from an input.
  decimal_of : ℕ → Question
  steps_taken : List ℕ → Question
  -- What is printed, for the file and the input; the same where at most so many steps are taken.
  printed : List ℕ → List ℕ → Question
  printed_up_to : ℕ → List ℕ → List ℕ → Question
  -- A run's code, with train and place, and the whole buffer after it, for the file, the steps and a buffer for the answers; the same
  -- with all trains and boxes after it.
  run_to : List ℕ → List ℕ → List ℕ → Question
  run_line : List ℕ → List ℕ → List ℕ → Question
  -- The room asked for the text of an input. What is printed into lent memory, for the file, the input and buffers for the answers
  -- and the text: the code, the length and the whole text buffer; the code with the whole answers' buffer.
  room_for : List ℕ → Question
  printed_to : List ℕ → List ℕ → List ℕ → List ℕ → Question
  answers_beside : List ℕ → List ℕ → List ℕ → List ℕ → Question
  -- The writer's code, with train and place, and the whole buffer after it, for a table record.
  written_to : Table → List ℕ → Question
  -- The code of a single step on any record; the same with a train, a box, and all trains and boxes after it.
  checked : Line → Step → Question
  checked_train : Line → Step → ℕ → Question
  checked_box : Line → Step → ℕ → Question
  checked_line : Line → Step → Question
  -- The place of each train's front and how many segments it covers, by its accepted moves alone.
  places_of : List ℕ → List Step → Question
  -- All trains and boxes after the steps, and those of the atomic line after their order (for generated cases).
  line_of : List ℕ → List Step → Question
  atomic_line_of : List ℕ → List Step → Question
  -- The order of atomic steps, and whether any of them is stopped.
  order_of : List ℕ → List Step → Question
  -- Whether any of a list of atomic steps is stopped, the answers to them, and all trains and boxes of the atomic line after it.
  atomic_answers_to : List ℕ → List Step → Question
  -- After the order of atomic steps: the atomic line's box, as above.
  atomic_box_after : List ℕ → List Step → ℕ → Question
  -- The route of a train as a part of the file, after its code with train and place.
  route_of : List ℕ → ℕ → Question

unfoldable pub step_bytes : List Step → List ℕ
step_bytes [] = []
step_bytes (s ∷ rest) = s.kind ∷ s.train ∷ s.box ∷ step_bytes rest

unfoldable pub box_numbers : SwitchBox → List ℕ
box_numbers x = bit x.sensor ∷ x.position ∷ x.lock ∷ x.stem ∷ x.left ∷ x.right ∷ []

unfoldable pub train_numbers : Train → List ℕ
train_numbers r =
    let g = r.message in
    r.direction
    ∷ r.length
    ∷ r.place
    ∷ r.covered
    ∷ bit r.near
    ∷ bit r.far
    ∷ bit r.lock
    ∷ message_state g
    ∷ message_kind g
    ∷ message_box g
    ∷ message_code g
    ∷ []

unfoldable pub line_numbers : Line → List ℕ
line_numbers l =
    join_of l.table.k (λ i. train_numbers (train_at l i)) ++ join_of l.table.m (λ b. box_numbers (box_at l b))

unfoldable pub refusal_numbers : Refusal → List ℕ
refusal_numbers r = r.code ∷ r.train ∷ r.place ∷ []

unfoldable pub side_number : StemSide → ℕ
side_number Neither = 0
side_number AEnd = 1
side_number BEnd = 2

unfoldable pub found : Question → List ℕ
found (code_of bytes) = refusal_numbers (file_refusal bytes)
found (sides_of bytes) =
    let t = decode bytes in
    list_of t.m (λ b. side_number (stem_side_at (track_of t) t.boxes b))
found (joined_at bytes b x s z) = bit (joins (plan_at (decode bytes) b) x s z) ∷ []
found (rewritten bytes) = encode (decode bytes)
found (answers_to bytes steps) = answers_of (history (decode bytes) steps)
found (train_after bytes steps i) =
    let l = reached (decode bytes) steps in
    (around l i).front ∷ tail_of l i ∷ []
found (box_after bytes steps b) = box_numbers (box_at (reached (decode bytes) steps) b)
found (decimal_of x) = decimal x
found (steps_taken input) = step_count (taken_of most_steps input) ∷ []
found (printed bytes input) = printout bytes input
found (printed_up_to most bytes input) = printout_up_to most bytes input
found (run_to bytes input buffer) =
    refusal_numbers (run checked_step bytes input buffer).refusal ++ answered checked_step bytes input buffer
found (run_line bytes input buffer) =
    let o = run checked_step bytes input buffer in
    refusal_numbers o.refusal ++ line_numbers o.line
found (room_for input) = text_room input ∷ []
found (printed_to bytes input answers text) =
    print_code input answers text ∷ print_length bytes input answers text ∷ printed_text bytes input answers text
found (answers_beside bytes input answers text) = print_code input answers text ∷ printed_answers bytes input answers text
found (written_to t buffer) = refusal_numbers (write_refusal t buffer) ++ written t buffer
found (checked l s) = (checked_step l s).code ∷ []
found (checked_train l s i) =
    let o = checked_step l s in
    o.code ∷ train_numbers (train_at o.line i)
found (checked_box l s b) =
    let o = checked_step l s in
    o.code ∷ box_numbers (box_at o.line b)
found (checked_line l s) =
    let o = checked_step l s in
    o.code ∷ line_numbers o.line
found (places_of bytes steps) =
    let t = decode bytes in
    join_of t.k (λ i. (where_is t steps i).place ∷ (where_is t steps i).covered ∷ [])
found (line_of bytes steps) = line_numbers (reached (decode bytes) steps)
found (atomic_line_of bytes steps) = line_numbers (atomic (decode bytes) steps)
found (order_of bytes steps) =
    let o = ordered (decode bytes) steps in
    bit (stopped (events atomic_step (start_line (decode bytes)) o)) ∷ step_bytes o
found (atomic_answers_to bytes steps) =
    let l = start_line (decode bytes) in
    let es = events atomic_step l steps in
    bit (stopped es) ∷ answers_of es ++ line_numbers (line_after atomic_step l steps)
found (atomic_box_after bytes steps b) = box_numbers (box_at (atomic (decode bytes) steps) b)
found (route_of bytes i) = refusal_numbers (route_refusal bytes i) ++ (route_from bytes i ∷ route_part bytes i)

-- A question and the answer that 01 gives, as 02 changes it, or, for runs and the printout in lent memory, its reading in
-- docs/DECISIONS.md.
pub record Case : Type 0 where
  pub ask : Question
  pub expected : List ℕ

infix 70 ◌gives◌
abbrev pub ◌gives◌ : Question → List ℕ → Case
q gives l = record { ask = q; expected = l }

-- The step of three bytes.
abbrev pub step_of : ℕ → ℕ → ℕ → Step
step_of kind i b = record { kind = kind; train = i; box = b }

-- Table S: head, segments, boxes, and its two trains; and the same track with other trains.
unfoldable pub track : ℕ → List ℕ
track k =
    (0x4E ∷ 0x45 ∷ 0x54 ∷ 0 ∷ 1 ∷ 4 ∷ 4 ∷ k ∷ [])
    ++ (1 ∷ 2 ∷ 2 ∷ 3 ∷ 2 ∷ 3 ∷ 3 ∷ 4 ∷ [])
    ++ (0 ∷ 1 ∷ 0 ∷ 0 ∷ 0 ∷ 2 ∷ 1 ∷ 2 ∷ 3 ∷ 1 ∷ 2 ∷ 4 ∷ 2 ∷ 3 ∷ 1 ∷ 0 ∷ 4 ∷ 0 ∷ 0 ∷ 0 ∷ [])

unfoldable pub table_s : List ℕ
table_s = track 2 ++ (0 ∷ 3 ∷ 1 ∷ 2 ∷ 4 ∷ 1 ∷ 3 ∷ 4 ∷ 3 ∷ 1 ∷ [])

-- Train 1 with the route 2, 3.
unfoldable pub parallel_route : List ℕ
parallel_route = track 2 ++ (0 ∷ 2 ∷ 2 ∷ 3 ∷ 1 ∷ 3 ∷ 4 ∷ 3 ∷ 1 ∷ [])

-- Train 2 with the route 1 alone.
unfoldable pub one_start : List ℕ
one_start = track 2 ++ (0 ∷ 3 ∷ 1 ∷ 2 ∷ 4 ∷ 1 ∷ 1 ∷ 1 ∷ [])

-- Train 2 on the route 4, 2, 1.
unfoldable pub opposed : List ℕ
opposed = track 2 ++ (0 ∷ 3 ∷ 1 ∷ 2 ∷ 4 ∷ 1 ∷ 3 ∷ 4 ∷ 2 ∷ 1 ∷ [])

-- Trains on 2 and 3, with the routes 2, 4 and 3, 4.
unfoldable pub merging : List ℕ
merging = track 2 ++ (0 ∷ 2 ∷ 2 ∷ 4 ∷ 0 ∷ 2 ∷ 3 ∷ 4 ∷ [])

-- One train, with a route of length 1.
unfoldable pub short_route : List ℕ
short_route = track 1 ++ (0 ∷ 1 ∷ 1 ∷ [])

-- One segment between two borders, with no train.
unfoldable pub one_segment : List ℕ
one_segment = 0x4E ∷ 0x45 ∷ 0x54 ∷ 0 ∷ 1 ∷ 1 ∷ 2 ∷ 0 ∷ 1 ∷ 2 ∷ 0 ∷ 1 ∷ 0 ∷ 0 ∷ 0 ∷ 0 ∷ 1 ∷ 0 ∷ 0 ∷ 0 ∷ []

-- Two links, segment 1 from box 1 to box 2 and segment 2 from box 2 to box 1.
unfoldable pub ring : List ℕ
ring =
    0x4E ∷ 0x45 ∷ 0x54 ∷ 0 ∷ 1 ∷ 2 ∷ 2 ∷ 0
    ∷ 1 ∷ 2 ∷ 2 ∷ 1
    ∷ 1 ∷ 1 ∷ 2 ∷ 0 ∷ 0 ∷ 1 ∷ 1 ∷ 2 ∷ 0 ∷ 0 ∷ []

-- Head, segments and boxes of a table with 16 trains. 96 segments: 31 pairs of parallel tracks between points, a segment before each pair,
-- and two links at the end.
unfoldable pub long_track : List ℕ
long_track =
    (0x4E ∷ 0x45 ∷ 0x54 ∷ 0 ∷ 1 ∷ 96 ∷ 66 ∷ 16 ∷ [])
    ++ join_of 31 (λ j. (2 * j - 1) ∷ (2 * j) ∷ (2 * j) ∷ (2 * j + 1) ∷ (2 * j) ∷ (2 * j + 1) ∷ [])
    ++ (63 ∷ 64 ∷ 64 ∷ 65 ∷ 65 ∷ 66 ∷ [])
    ++ (0 ∷ 1 ∷ 0 ∷ 0 ∷ 0 ∷ [])
    ++ join_of 31
    (λ j.
    2 ∷ (3 * j - 2) ∷ (3 * j - 1) ∷ (3 * j) ∷ 1 ∷ 2 ∷ (3 * j + 1) ∷ (3 * j - 1) ∷ (3 * j) ∷ 1 ∷ [])
    ++ (1 ∷ 94 ∷ 95 ∷ 0 ∷ 0 ∷ 1 ∷ 95 ∷ 96 ∷ 0 ∷ 0 ∷ 0 ∷ 96 ∷ 0 ∷ 0 ∷ 0 ∷ [])

-- The record of its last train, with a route of 64 segments; and the table with all its trains, the others with a route of one.
unfoldable pub long_train : List ℕ
long_train = (0 ∷ 64 ∷ []) ++ join_of 31 (λ j. (3 * j - 2) ∷ (3 * j - 1) ∷ []) ++ (94 ∷ 95 ∷ [])

unfoldable pub long_line : List ℕ
long_line = long_track ++ join_of 15 (λ i. 0 ∷ 1 ∷ (3 * i) ∷ []) ++ long_train

-- A request of train i, its answer, and the answer heard.
unfoldable pub asked : ℕ → ℕ → ℕ → List Step
asked kind i b = step_of kind i b ∷ step_of 3 i 0 ∷ step_of 4 i 0 ∷ []

-- Train 1 reserves 2 at boxes 2 and 3, locks 2, enters, clears.
unfoldable pub passage : List Step
passage = asked 1 1 2 ++ asked 1 1 3 ++ asked 2 1 2 ++ (step_of 5 1 0 ∷ step_of 6 1 0 ∷ [])

-- Train 1 reserves 4 at both ends and locks 3; train 2 asks for the lock; train 1 enters; train 2 asks again.
unfoldable pub contest : List Step
contest = asked 1 1 3 ++ asked 1 1 4 ++ asked 2 1 3 ++ asked 2 2 3 ++ (step_of 5 1 0 ∷ []) ++ asked 2 2 3

-- The ten steps of the printout, and the sixteen lines.
unfoldable pub ten_steps : List ℕ
ten_steps =
    1 ∷ 1 ∷ 2 ∷ 3 ∷ 1 ∷ 0 ∷ 4 ∷ 1 ∷ 0 ∷ 5 ∷ 1 ∷ 0 ∷ 1 ∷ 2 ∷ 2
    ∷ 3 ∷ 2 ∷ 0 ∷ 4 ∷ 2 ∷ 0 ∷ 2 ∷ 2 ∷ 3 ∷ 3 ∷ 2 ∷ 0 ∷ 4 ∷ 2 ∷ 0 ∷ []

unfoldable pub sixteen_lines : List ℕ
sixteen_lines =
    bytes_of "1 1 1 0\n"
    ++ bytes_of "2 3 1 0\n"
    ++ bytes_of "3 4 1 0\n"
    ++ bytes_of "4 5 1 19\n"
    ++ bytes_of "5 1 2 0\n"
    ++ bytes_of "6 3 2 0\n"
    ++ bytes_of "7 4 2 0\n"
    ++ bytes_of "8 2 2 0\n"
    ++ bytes_of "9 3 2 25\n"
    ++ bytes_of "10 4 2 25\n"
    ++ bytes_of "train 1 1 0\n"
    ++ bytes_of "train 2 4 0\n"
    ++ bytes_of "box 1 0 0 0\n"
    ++ bytes_of "box 2 0 1 0\n"
    ++ bytes_of "box 3 0 1 0\n"
    ++ bytes_of "box 4 0 0 0\n"

unfoldable pub paper_cases : List Case
paper_cases =
    -- S is accepted; less a byte, or with one more: 5; 7 bytes: 1. Written out it has the bytes that it was read from.
    code_of table_s gives (0 ∷ 0 ∷ 0 ∷ [])
    ∷ code_of (take 45 table_s) gives (5 ∷ 0 ∷ 0 ∷ [])
    ∷ code_of (table_s ++ (0 ∷ [])) gives (5 ∷ 0 ∷ 0 ∷ [])
    ∷ code_of (take 7 table_s) gives (1 ∷ 0 ∷ 0 ∷ [])
    ∷ rewritten table_s gives table_s
    -- n = 96 may be accepted, here with k = 16; 97: 4.
    ∷ code_of long_line gives (0 ∷ 0 ∷ 0 ∷ [])
    ∷ code_of (set long_line 5 97) gives (4 ∷ 0 ∷ 0 ∷ [])
    ∷ code_of (set table_s 5 97) gives (4 ∷ 0 ∷ 0 ∷ [])
    -- One segment between two borders: accepted; a step of train 1: 14.
    ∷ code_of one_segment gives (0 ∷ 0 ∷ 0 ∷ [])
    ∷ answers_to one_segment (step_of 1 1 1 ∷ step_of 1 1 2 ∷ []) gives (14 ∷ 14 ∷ [])
    -- Two links in a ring: 9.
    ∷ code_of ring gives (9 ∷ 0 ∷ 0 ∷ [])
    -- Route 2, 3 of train 1: 28 at place 2. Two trains that start on 1: 12.
    ∷ code_of parallel_route gives (28 ∷ 1 ∷ 2 ∷ [])
    ∷ code_of one_start gives (12 ∷ 0 ∷ 0 ∷ [])
    -- After the first three steps: 18 at box 2, 17 at box 4.
    ∷ answers_to table_s (asked 1 1 2 ++ (step_of 1 1 2 ∷ step_of 1 1 4 ∷ [])) gives (0 ∷ 0 ∷ 0 ∷ 18 ∷ 17 ∷ [])
    -- A reservation of what another holds: 22, from the box and when it is heard.
    ∷ code_of opposed gives (0 ∷ 0 ∷ 0 ∷ [])
    ∷ answers_to opposed (asked 1 1 2 ++ asked 1 2 2) gives (0 ∷ 0 ∷ 0 ∷ 0 ∷ 22 ∷ 22 ∷ [])
    -- The passage onto 2: train 1 stands on 2, box 2 holds nothing, box 3 holds 2 for it (and 4 for train 2).
    ∷ answers_to table_s passage gives (0 ∷ 0 ∷ 0 ∷ 0 ∷ 0 ∷ 0 ∷ 0 ∷ 0 ∷ 0 ∷ 0 ∷ 0 ∷ [])
    ∷ train_after table_s passage 1 gives (2 ∷ 0 ∷ [])
    ∷ box_after table_s passage 2 gives (0 ∷ 1 ∷ 0 ∷ 0 ∷ 0 ∷ 0 ∷ [])
    ∷ box_after table_s passage 3 gives (0 ∷ 1 ∷ 0 ∷ 2 ∷ 1 ∷ 0 ∷ [])
    -- A lock that another holds: 24, while the other crosses too (02, ticket 3).
    ∷ code_of merging gives (0 ∷ 0 ∷ 0 ∷ [])
    ∷ answers_to merging contest gives (0 ∷ 0 ∷ 0 ∷ 0 ∷ 0 ∷ 0 ∷ 0 ∷ 0 ∷ 0 ∷ 0 ∷ 24 ∷ 24 ∷ 0 ∷ 0 ∷ 24 ∷ 24 ∷ [])
    -- A route of length 1: Enter gives 16. Clear when single: 20.
    ∷ code_of short_route gives (0 ∷ 0 ∷ 0 ∷ [])
    ∷ answers_to short_route (step_of 5 1 0 ∷ step_of 6 1 0 ∷ []) gives (16 ∷ 20 ∷ [])
    -- The printout of table S.
    ∷ printed table_s ten_steps gives sixteen_lines
    ∷ []
