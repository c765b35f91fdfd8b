-- A run: the bytes of a table file, the bytes of steps, and a lent buffer for the answers.
use Rattle.std.specs.Prelude.{ℕ, ◌+◌, ◌/◌, ◌%◌, ◌≡◌, cond, List, [], ◌∷◌, ◌++◌, eqb, ltb, length, take, drop}
use Rattle.rules.specs.declared.Line.{Line}
use Rattle.rules.specs.Ends.{Refusal}
use Rattle.rules.specs.Ends.{FileOutcome}
use Rattle.rules.specs.Rows.{◌if◌}
use Rattle.rules.specs.Placing.{refused_then}
use Rattle.rules.specs.File.{file_refusal, decode}
use Rattle.rules.specs.Line.{start_line, empty_line}
use Rattle.rules.specs.Steps.{Step}
use Rattle.rules.specs.Record.{checked_step}
use Rattle.rules.specs.History.{Call, Event, line_after, events}
use Rattle.rules.specs.Safety.{reached, history, Safe}

-- The whole steps in a list of bytes: three bytes a step.
unfoldable pub whole_steps : List ℕ → List Step
whole_steps [] = []
whole_steps (x ∷ []) = []
whole_steps (x ∷ y ∷ []) = []
whole_steps (x ∷ y ∷ z ∷ rest) = record { kind = x; train = y; box = z } ∷ whole_steps rest

-- How many steps there are, a last one of one or two bytes among them.
unfoldable pub step_count : List ℕ → ℕ
step_count bytes = (length bytes + 2) / 3

-- The answers of a list of events.
unfoldable pub answers_of : List Event → List ℕ
answers_of [] = []
answers_of (e ∷ rest) = e.answer ∷ answers_of rest

-- What a last step of one or two bytes is answered: 13.
unfoldable pub partial_answer : List ℕ → List ℕ
partial_answer bytes = cond (eqb (length bytes % 3) 0) [] (13 ∷ [])

-- The answers to the steps in a list of bytes, one call after the other from line l on.
unfoldable pub answers_from : Call → Line → List ℕ → List ℕ
answers_from call l bytes = answers_of (events call l (whole_steps bytes)) ++ partial_answer bytes

-- Why a run is refused: as the file is, then with 26 where the lent buffer is shorter than the answers.
unfoldable pub run_refusal : List ℕ → List ℕ → List ℕ → Refusal
run_refusal file steps buffer = refused_then (file_refusal file) (26 if ltb (length buffer) (step_count steps) ∷ [])

-- A run: the line after all steps or, where it is refused, the empty record; and the whole buffer after it, as it was where it is
-- refused.
unfoldable pub run : Call → List ℕ → List ℕ → List ℕ → FileOutcome
run call file steps buffer =
    let r = run_refusal file steps buffer in
    record {
      refusal = r;
      line = cond (eqb r.code 0) (line_after call (start_line (decode file)) (whole_steps steps)) empty_line;
    }

unfoldable pub answered : Call → List ℕ → List ℕ → List ℕ → List ℕ
answered call file steps buffer =
    cond (eqb (run_refusal file steps buffer).code 0)
    (answers_from call (start_line (decode file)) steps ++ drop (step_count steps) buffer)
    buffer

-- Demand 3 of a run that is not refused: what it leaves and answers is what demand 3 speaks of, which holds.
pub record SafeRun (file steps : List ℕ) (after : Line) (buffer answered : List ℕ) : Type 0 where
  pub line : after ≡ reached (decode file) (whole_steps steps)
  pub answers
      : answered ≡ answers_of (history (decode file) (whole_steps steps)) ++ partial_answer steps ++ drop (step_count steps) buffer
  pub safe : Safe (decode file) (whole_steps steps)
  -- So it was after each step on the way.
  pub throughout : (n : ℕ) → Safe (decode file) (take n (whole_steps steps))

-- What a run promises, with a buffer before and after it: the outcome and the buffer are those of calls that begin with the record
-- check, one after the other, and demand 3 holds.
pub record Ran (file steps before : List ℕ) (r : FileOutcome) (after : List ℕ) : Type 0 where
  pub outcome : r ≡ run checked_step file steps before
  pub buffer : after ≡ answered checked_step file steps before
  pub safe : r.refusal.code ≡ 0 → SafeRun file steps r.line before after
