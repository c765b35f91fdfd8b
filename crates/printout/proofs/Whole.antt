-- Laws of the whole text, of the bytes that are taken, and of the buffers' test.
use Rattle.std.proofs.Common.{ℕ, ◌+◌, ◌*◌, ◌≤◌, ◌<◌, ◌≡◌, ◌≢◌, ◌⊎◌, inl, inr, refl, sym, ◌∙◌, ap, Bool, true, false, cond, ◌||◌, ltb, List, [], ◌∷◌, ◌++◌, Ok, Err, length, length-take, length-take-le, take, take_all, take_at, drop, drop_of_length-le, drop-cons, min, arith, lt-ltb, le-ltb, ne_eqb}
use Rattle.std.proofs.Math.Decide.{ℕ_discrete, dec_lt}
use Rattle.std.specs.Int.{div_ceil}
use Rattle.rules.specs.Ends.{FileOutcome}
use Rattle.rules.specs.declared.Line.{Line}
use Rattle.rules.specs.declared.errors.FileError.{FileError}
use Rattle.rules.specs.Rows.{first, join_of}
use Rattle.rules.specs.File.{file_code, file_refusal, decode}
use Rattle.rules.specs.Line.{read, start_line}
use Rattle.rules.specs.Steps.{step}
use Rattle.rules.specs.Record.{checked_step}
use Rattle.rules.specs.History.{Call, events}
use Rattle.rules.specs.Errors.{refusal_of, outcome}
use Rattle.rules.specs.Run.{whole_steps, step_count, answers_of, partial_answer, answers_from, run_refusal, run, answered, SafeRun}
use Rattle.rules.specs.Printout.{bytes_of, text_line, most_steps, step_line_of, line_text, more_line, taken_of, run_text, file_line, printout_up_to, printout, text_room, print_code, print_length, printed_text, printed_answers}
use Rattle.rules.proofs.Coded.{file_coded as error_coded}
use Rattle.rules.proofs.Refusals.{code_of, file_coded, accepted_refusal, then_refused, then_none}
use Rattle.rules.proofs.Files.{file_iff}
use Rattle.rules.proofs.Runs.{answers_length}
use Rattle.writing.specs.declared.pen.Pen.{Pen}
use Rattle.writing.proofs.Laws.{written_whole}
use Rattle.printout.specs.Short.{Short}
use Rattle.printout.proofs.Laws.{steps_counted}

-- The bytes that are taken of an input, how many steps they are, and the text of a run of them.
abbrev pub steps_in : List ℕ → List ℕ
steps_in input = taken_of most_steps input

abbrev pub count_in : List ℕ → ℕ
count_in input = step_count (steps_in input)

abbrev pub run_lines : List ℕ → List ℕ → Line → List ℕ
run_lines input answers l =
    join_of (count_in input) (step_line_of (steps_in input) (take (count_in input) answers))
    ++ line_text l
    ++ cond (ltb (length (steps_in input)) (length input)) (text_line (bytes_of "more" ∷ [])) []

pub taken : (input : List ℕ) (n : ℕ) → n ≡ min (length input) 196605 → take n input ≡ steps_in input
unfolding taken_of
taken input n e =
    elim (dec_lt (length input) 196605) [
      | yes h ↦ take_all n input (omega arith) ∙ sym (take_all (3 * most_steps) input (omega arith))
      | no h ↦
          let m : n ≡ 3 * most_steps = omega arith in
          ap (λ (k : ℕ). take k input) m
    ]

pub steps_taken : (input : List ℕ) (n : ℕ) {count : ℕ} → n ≡ min (length input) 196605 → count ≡ div_ceil (length (take n input)) 3
    → count ≡ count_in input
steps_taken input n e f = f ∙ steps_counted (take n input) ∙ ap step_count (taken input n e)

pub most_taken : (input : List ℕ) → count_in input ≤ 65535
unfolding step_count taken_of
most_taken input = omega (arith, length-take (3 * most_steps) input)

-- The last line, where not all bytes are taken.
more_line_lem : (n : ℕ) (input : List ℕ)
    → more_line (drop n input) ≡ cond (ltb (length (take n input)) (length input)) (text_line (bytes_of "more" ∷ [])) []
unfolding more_line
more_line_lem n input =
    elim (dec_lt n (length input)) [
      | yes h ↦ rw (length-take-le n input (omega arith), lt-ltb n (length input) h, drop-cons input n 0 h)
      | no h ↦
          let past : length input ≤ n = omega arith in
          rw (take_all n input past, le-ltb (length input) (length input) (omega arith), drop_of_length-le input past)
    ]

-- The code, 26 where a buffer is too short.
module _ (input answers text : List ℕ) where
  no_room : (length answers < count_in input) ⊎ (length text < 18 * (count_in input + 113)) → print_code input answers text ≡ 26
  unfolding print_code first text_room
  no_room (inl h) = rw (lt-ltb _ _ h)
  no_room (inr h) = rw (lt-ltb (length text) (18 * (count_in input + 113)) h) (either (ltb (length answers) (count_in input)))
    where
      either : (b : Bool) → ◌≡◌ {A = ℕ} (cond (b || true) 26 0) 26
      either true = refl
      either false = refl

  room : count_in input ≤ length answers → 18 * (count_in input + 113) ≤ length text → print_code input answers text ≡ 0
  unfolding print_code first text_room
  room h k = rw (le-ltb _ _ h, le-ltb _ _ k)

-- What is printed for a refused file, and for a run.
file_text : (file input : List ℕ) → file_code file ≢ 0 → printout file input ≡ file_line (file_refusal file)
unfolding printout printout_up_to read
file_text file input h = rw (file_coded, ne_eqb (file_code file) 0 h)

run_text_lem : (file input answers : List ℕ) {l : Line} {a : List ℕ} → file_code file ≡ 0 → SafeRun file (steps_in input) l answers a
    → printout file input ≡ run_lines input a l
unfolding printout printout_up_to read run_text taken_of answers_from
run_text_lem file input answers e safe =
    let steps = steps_in input in
    let start = start_line (decode file) in
    let all = answers_of (events step start (whole_steps steps)) ++ partial_answer steps in
    rw (file_coded, e, sym (more_line_lem (3 * most_steps) input), safe.line, safe.answers)
    (rw (take_at all (drop (step_count steps) answers) (step_count steps) (answers_length step start steps)))

-- A run with room for its answers is refused as its file is, and the line of an accepted table is within its limits.
run_refused : (call : Call) (file steps buffer : List ℕ) → step_count steps ≤ length buffer
    → (run call file steps buffer).refusal ≡ file_refusal file
unfolding run run_refusal
run_refused call file steps buffer h =
    elim (ℕ_discrete (file_refusal file).code 0) [
      | yes e ↦ then_none (file_refusal file) e 26 _ (le-ltb _ _ h) ∙ sym (accepted_refusal file (sym (file_coded file) ∙ e))
      | no e ↦ then_refused (file_refusal file) _ e
    ]

module _ (file input answers : List ℕ) (h : count_in input ≤ length answers) where
  refusal_is : {o : FileOutcome} → o ≡ run checked_step file (steps_in input) answers → o.refusal ≡ file_refusal file
  refusal_is is = ap (λ (o : FileOutcome). o.refusal) is ∙ run_refused checked_step file (steps_in input) answers h

  pub file_printed : (e : FileError) → outcome (Err e) ≡ run checked_step file (steps_in input) answers
      → printout file input ≡ file_line (refusal_of e)
  file_printed e is =
      let same = refusal_is is in
      file_text file input (λ z. error_coded e (code_of same ∙ file_coded file ∙ z)) ∙ ap file_line (sym same)

  accepted : (l : Line) → outcome (Ok l) ≡ run checked_step file (steps_in input) answers → file_code file ≡ 0
  accepted l is = sym (code_of (refusal_is is) ∙ file_coded file)

  pub run_printed : {l : Line} {a : List ℕ} → outcome (Ok l) ≡ run checked_step file (steps_in input) answers
      → SafeRun file (steps_in input) l answers a → printout file input ≡ run_lines input a l
  run_printed is safe = run_text_lem file input answers (accepted _ is) safe

  pub run_limits : {l : Line} {a : List ℕ} → outcome (Ok l) ≡ run checked_step file (steps_in input) answers
      → SafeRun file (steps_in input) l answers a → (l.table.k ≤ 16) × (l.table.m ≤ 96)
  run_limits is safe =
      let limits = ((file_iff file).0 (accepted _ is)).table.limits in
      rw (safe.line, safe.safe.fixed.table) (limits.trains_high, limits.boxes_high)

-- What is promised: where a buffer is too short, and of a text written at the front of its buffer.
module _ (file input answers text : List ℕ) where
  pub refused_short : (length answers < count_in input) ⊎ (length text < 18 * (count_in input + 113))
      → (26 ≡ print_code input answers text)
      × (text ≡ printed_text file input answers text)
      × (answers ≡ printed_answers file input answers text)
  unfolding printed_text printed_answers
  refused_short h = let e = no_room input answers text h in rw e (refl, refl, refl)

  pub printed : {n : ℕ} {p q : Pen} {a : List ℕ} → count_in input ≤ length answers → 18 * (count_in input + 113) ≤ length text
      → p.at ≡ 0 → p.buffer.now ≡ text → n ≤ 18 * (count_in input + 113) → Short n p (printout file input) q
      → a ≡ answered checked_step file (steps_in input) answers
      → (0 ≡ print_code input answers text)
      × (q.at ≡ print_length file input answers text)
      × (q.buffer.now ≡ printed_text file input answers text)
      × (a ≡ printed_answers file input answers text)
  unfolding print_length printed_text printed_answers
  printed {p} h k front is fits put e =
      let size : length (printout file input) ≤ length p.buffer.now = rw is (omega (arith, put.written.next)) in
      rw (room input answers text h k) (refl, put.written.next ∙ omega arith, rw is at (written_whole put.written front size), e)
