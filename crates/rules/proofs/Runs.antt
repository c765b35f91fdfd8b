-- Steps in a list of bytes, their answers, and runs of a file and steps.
use Prim.Native.Nat.{ℕ, suc, ◌+◌, ◌*◌, ◌/◌, ◌%◌, ◌≤◌, ◌<◌}
use mathlib.Core.Path.{◌≡◌, refl, sym, ◌∙◌, ap}
use mathlib.Core.Bool.{Bool, true, false, cond}
use mathlib.Core.List.{List, [], ◌∷◌, append_assoc}
use native.Mathlib.Omega.{arith}
use lib.Dec.{eqb}
use lib.ListN.{length, get_or, drop, length-append, length-drop, take}
use lib.Seq.{drop-cons}
use borrow.Author.Tests.{eqb-true, eqb-false}
use Rattle.rules.specs.declared.Line.{Line}
use Rattle.rules.specs.File.{file_code, file_refusal, decode}
use Rattle.rules.specs.Line.{start_line, empty_line}
use Rattle.rules.specs.Steps.{Step, step}
use Rattle.rules.specs.Record.{checked_step}
use Rattle.rules.specs.History.{Call, events}
use Rattle.rules.specs.Safety.{StaysSound}
use Rattle.rules.specs.Run.{whole_steps, step_count, answers_of, partial_answer, answers_from, run_refusal, run, answered, SafeRun}
use Rattle.rules.proofs.Tests.{cond_alike}
use Rattle.rules.proofs.Refusals.{file_coded, then_zero_iff}
use Rattle.rules.proofs.Demand3.{demand_3}
use Rattle.rules.proofs.Consequences.{consequences}

-- The steps from byte 3 n on: the step there, and those from the next on; or none, where fewer than three bytes are left.
pub steps_drop : (bytes : List ℕ) (n : ℕ) → 3 * n + 3 ≤ length bytes
    → whole_steps (drop (3 * n) bytes) ≡ record { kind = get_or bytes (3 * n) 0; train = get_or bytes (3 * n + 1) 0; box = get_or bytes (3 * n + 2) 0 } ∷ whole_steps (drop (3 * (n + 1)) bytes)
unfolding whole_steps
steps_drop bytes n h =
    let at = 3 * n in
    let second : suc at ≡ at + 1 = omega arith in
    let third : suc (at + 1) ≡ at + 2 = omega arith in
    let next : suc (at + 2) ≡ 3 * (n + 1) = omega arith in
    let here : at < length bytes = omega arith in
    let beside : at + 1 < length bytes = omega arith in
    let last : at + 2 < length bytes = omega arith in
    rw (drop-cons bytes at 0, second, drop-cons bytes (at + 1) 0, third, drop-cons bytes (at + 2) 0, next)

few_steps : (bytes : List ℕ) → length bytes < 3 → whole_steps bytes ≡ []
unfolding whole_steps
few_steps [] h = refl
few_steps (x ∷ []) h = refl
few_steps (x ∷ y ∷ []) h = refl
few_steps (x ∷ y ∷ z ∷ rest) h = absurd (omega arith)

pub steps_end : (bytes : List ℕ) (n : ℕ) → length bytes < 3 * n + 3 → whole_steps (drop (3 * n) bytes) ≡ []
steps_end bytes n h = few_steps (drop (3 * n) bytes) (simp length-drop (omega arith))

-- There is an answer for each step.
events-length : (call : Call) (l : Line) (steps : List Step) → length (answers_of (events call l steps)) ≡ length steps
unfolding answers_of events
events-length call l [] = refl
events-length call l (s ∷ rest) = ap suc (events-length call (call l s).line rest)

steps_length : (bytes : List ℕ) → length (whole_steps bytes) ≡ length bytes / 3
unfolding whole_steps
steps_length [] = refl
steps_length (x ∷ []) = refl
steps_length (x ∷ y ∷ []) = refl
steps_length (x ∷ y ∷ z ∷ rest) = omega (arith, steps_length rest)

partial_length : (bytes : List ℕ) → length bytes / 3 + length (partial_answer bytes) ≡ step_count bytes
unfolding partial_answer step_count
partial_length bytes = go (eqb (length bytes % 3) 0) refl
  where
    go : (b : Bool) → eqb (length bytes % 3) 0 ≡ b → length bytes / 3 + length {A = ℕ} (cond b [] (13 ∷ [])) ≡ (length bytes + 2) / 3
    go true e = omega (arith, eqb-true (length bytes % 3) 0 e)
    go false e = omega (arith, eqb-false (length bytes % 3) 0 e)

pub answers_length : (call : Call) (l : Line) (bytes : List ℕ) → length (answers_from call l bytes) ≡ step_count bytes
unfolding answers_from
answers_length call l bytes = rw (length-append, events-length, steps_length) (partial_length bytes)

-- A run that is not refused is one of an accepted file.
run-accepted : (file steps buffer : List ℕ) → (run_refusal file steps buffer).code ≡ 0 → file_code file ≡ 0
unfolding run_refusal
run-accepted file steps buffer e = sym (file_coded file) ∙ ((then_zero_iff (file_refusal file) _).0 e).0

-- On the way from the start line of an accepted file the record check finds nothing.
pub start_sound : (file : List ℕ) → file_code file ≡ 0 → StaysSound (start_line (decode file))
start_sound file accepted steps = (demand_3 file accepted steps).sound

-- Runs with the record check before each step are those without it.
module _ (file steps buffer : List ℕ) where
  pub checked-run : run checked_step file steps buffer ≡ run step file steps buffer
  unfolding run
  checked-run =
      let same =
      cond_alike (eqb (run_refusal file steps buffer).code 0) _ _ empty_line λ e.
      let accepted = run-accepted file steps buffer (eqb-true _ 0 e) in
      (consequences file accepted (whole_steps steps)).checked_line in
      ap (λ (l : Line). record { refusal = run_refusal file steps buffer; line = l }) same

  pub checked_answers : answered checked_step file steps buffer ≡ answered step file steps buffer
  unfolding answered answers_from
  checked_answers =
      cond_alike (eqb (run_refusal file steps buffer).code 0) _ _ _ λ e.
      let accepted = run-accepted file steps buffer (eqb-true _ 0 e) in
      rw (consequences file accepted (whole_steps steps)).checked_events

  -- Demand 3 holds of every run that is not refused.
  pub safe-run : (run_refusal file steps buffer).code ≡ 0
      → SafeRun file steps (run checked_step file steps buffer).line buffer (answered checked_step file steps buffer)
  unfolding run answered answers_from
  safe-run e =
      let accepted = run-accepted file steps buffer e in
      record {
        line = rw e (consequences file accepted (whole_steps steps)).checked_line;
        answers = rw (checked_answers, e, append_assoc);
        safe = demand_3 file accepted (whole_steps steps);
        throughout = λ n. demand_3 file accepted (take n (whole_steps steps));
      }
