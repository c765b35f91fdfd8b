-- What the program `line` prints (01, "Table S and its printout"), as bytes, from the bytes of its file and of its input.
use Rattle.std.specs.Prelude.{ℕ, zero, suc, ◌+◌, ◌-◌, ◌*◌, ◌/◌, ◌%◌, ◌<◌, ◌≡◌, Bool, true, false, cond, ◌||◌, List, [], ◌∷◌, ◌++◌, eqb, leb, ltb, length, get_or, take, drop}
use Prim.Native.Char.{code}
use Prim.Native.String.{String}
use Rattle.rules.specs.declared.Line.{Line}
use Rattle.rules.specs.Ends.{Refusal}
use Rattle.rules.specs.Rows.{nth, join_of, ◌if◌, first}
use Rattle.rules.specs.Placing.{tells_place}
use Rattle.rules.specs.Line.{read, box_at, train_at, around}
use Rattle.rules.specs.Steps.{step}
use Rattle.rules.specs.Record.{checked_step}
use Rattle.rules.specs.History.{line_after}
use Rattle.rules.specs.Run.{whole_steps, step_count, answers_from, answered}

-- The bytes of a text of ASCII characters.
abbrev pub bytes_of : String → List ℕ
bytes_of String.[] = []
bytes_of (String.◌∷◌ c rest) = code c ∷ bytes_of rest

-- A number below 10 ^ digits in decimal.
unfoldable pub decimal_in : ℕ → ℕ → List ℕ
decimal_in zero x = []
decimal_in (suc digits) x = cond (ltb x 10) ((48 + x) ∷ []) (decimal_in digits (x / 10) ++ ((48 + x % 10) ∷ []))

unfoldable pub decimal : ℕ → List ℕ
decimal x = decimal_in 5 x

-- Words with a space between them and a newline after the last.
unfoldable pub text_line : List (List ℕ) → List ℕ
text_line [] = 10 ∷ []
text_line (w ∷ []) = w ++ (10 ∷ [])
text_line (w ∷ x ∷ rest) = w ++ (32 ∷ text_line (x ∷ rest))

-- The most steps that are taken.
abbrev pub most_steps : ℕ
most_steps = 65535

-- A step line: count, kind, train, code.
unfoldable pub step_line : ℕ → ℕ → ℕ → ℕ → List ℕ
step_line count kind train code = text_line (decimal count ∷ decimal kind ∷ decimal train ∷ decimal code ∷ [])

-- The line of step j, by the bytes of all steps and their answers. Of a last step of one or two bytes, a missing byte is 0.
unfoldable pub step_line_of : List ℕ → List ℕ → ℕ → List ℕ
step_line_of bytes answers j = step_line j (nth bytes (3 * j - 2) 0) (nth bytes (3 * j - 1) 0) (nth answers j 0)

-- A train's tail, or 0 where it covers its front alone.
unfoldable pub tail_of : Line → ℕ → ℕ
tail_of l i = cond (leb (train_at l i).covered 1) 0 (around l i).tail

-- A train line: number, front, and tail or 0.
unfoldable pub train_line : Line → ℕ → List ℕ
train_line l i = text_line (bytes_of "train" ∷ decimal i ∷ decimal (around l i).front ∷ decimal (tail_of l i) ∷ [])

unfoldable pub bit : Bool → ℕ
bit true = 1
bit false = 0

-- A box line: number, sensor (1 active), position, lock holder.
unfoldable pub box_line : Line → ℕ → List ℕ
box_line l b =
    let x = box_at l b in
    text_line (bytes_of "box" ∷ decimal b ∷ decimal (bit x.sensor) ∷ decimal x.position ∷ decimal x.lock ∷ [])

unfoldable pub line_text : Line → List ℕ
line_text l = join_of l.table.k (train_line l) ++ join_of l.table.m (box_line l)

-- The last line, where bytes are left over.
unfoldable pub more_line : List ℕ → List ℕ
more_line [] = []
more_line (x ∷ rest) = text_line (bytes_of "more" ∷ [])

-- The bytes of the steps that are taken, at most so many.
unfoldable pub taken_of : ℕ → List ℕ → List ℕ
taken_of most input = take (3 * most) input

-- The text of a run of at most so many steps: step lines, trains and boxes; bytes beyond these steps only add the last line.
unfoldable pub run_text : ℕ → Line → List ℕ → List ℕ
run_text most l input =
    let taken = taken_of most input in
    join_of (step_count taken) (step_line_of taken (answers_from step l taken))
    ++ line_text (line_after step l (whole_steps taken))
    ++ more_line (drop (3 * most) input)

-- The line of a refused file: the code and, where it is about a place of a route, train and place.
unfoldable pub file_line : Refusal → List ℕ
file_line r =
    text_line (
    bytes_of "file"
    ∷ decimal r.code
    ∷ cond (tells_place r.code) (decimal r.train ∷ decimal r.place ∷ []) []
    )

-- What is printed where at most so many steps are taken, and what the program prints.
unfoldable pub printout_up_to : ℕ → List ℕ → List ℕ → List ℕ
printout_up_to most file input =
    let o = read file in
    cond (eqb o.refusal.code 0) (run_text most o.line input) (file_line o.refusal)

unfoldable pub printout : List ℕ → List ℕ → List ℕ
printout file input = printout_up_to most_steps file input

-- The most bytes of its file that the program reads: one more than the longest file that code 5 lets pass has, which is a head of
-- 8 bytes, 96 segments of 3, 96 boxes of 5, and 16 trains of 2 and a route of 255.
abbrev pub most_file : ℕ
most_file = 4889

-- The most bytes of its input: three for each step that is taken, and one, which makes `more`.
abbrev pub most_input : ℕ
most_input = 196606

-- The numbers of a list are bytes.
abbrev pub AllBytes : List ℕ → Type 0
AllBytes l = (i : ℕ) → get_or l i 0 < 256

-- That is enough: for every file of bytes and every input, what lies beyond changes nothing in what is printed.
abbrev pub Enough : Type 0
Enough = (file input : List ℕ) → AllBytes file → printout (take most_file file) (take most_input input) ≡ printout file input

-- The room that every text of so many steps fits into: lines of at most 18 bytes, for the steps, 16 trains, 96 boxes and the
-- last line.
unfoldable pub text_room : List ℕ → ℕ
text_room input = 18 * (step_count (taken_of most_steps input) + 113)

-- The room for every text.
abbrev pub most_text : ℕ
most_text = 1181664

-- The text in a lent buffer, and the answers in another: 26 where one of them is too short, and both as they were. Else the
-- text stands at the front of its buffer and the rest stays, and the answers' buffer is as after a run.
unfoldable pub print_code : List ℕ → List ℕ → List ℕ → ℕ
print_code input answers text =
    first (26 if (ltb (length answers) (step_count (taken_of most_steps input)) || ltb (length text) (text_room input)) ∷ [])

unfoldable pub print_length : List ℕ → List ℕ → List ℕ → List ℕ → ℕ
print_length file input answers text = cond (eqb (print_code input answers text) 0) (length (printout file input)) 0

unfoldable pub printed_text : List ℕ → List ℕ → List ℕ → List ℕ → List ℕ
printed_text file input answers text =
    cond (eqb (print_code input answers text) 0) (printout file input ++ drop (length (printout file input)) text) text

unfoldable pub printed_answers : List ℕ → List ℕ → List ℕ → List ℕ → List ℕ
printed_answers file input answers text =
    cond (eqb (print_code input answers text) 0) (answered checked_step file (taken_of most_steps input) answers) answers
