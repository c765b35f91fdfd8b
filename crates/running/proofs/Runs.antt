-- The ends of a run: a refused file, a buffer that is too short, and all steps taken.
use Rattle.std.proofs.Common.{ℕ, ◌+◌, ◌/◌, ◌≤◌, ◌<◌, ◌≡◌, ◌≢◌, refl, sym, ◌∙◌, ap, List, [], ◌∷◌, ◌++◌, Ok, Err, arith, lt-ltb, le-ltb, ne_eqb, ltb, length, drop}
use Rattle.rules.specs.declared.Line.{Line}
use Rattle.rules.specs.declared.errors.FileError.{FileError}
use Rattle.rules.specs.declared.errors.FileError.TheVariants.{NoRoom}
use Rattle.rules.specs.Ends.{FileOutcome}
use Rattle.rules.specs.Errors.{outcome}
use Rattle.rules.specs.Rows.{◌if◌}
use Rattle.rules.specs.Placing.{without_place}
use Rattle.rules.specs.File.{file_code, file_refusal, decode}
use Rattle.rules.specs.Line.{start_line, read}
use Rattle.rules.specs.Steps.{step}
use Rattle.rules.specs.Record.{checked_step}
use Rattle.rules.specs.History.{line_after}
use Rattle.rules.specs.Safety.{StaysSound}
use Rattle.rules.specs.Run.{whole_steps, step_count, answers_from, run_refusal, run, answered, Ran}
use Rattle.rules.proofs.Coded.{file_coded as error_coded}
use Rattle.rules.proofs.Refusals.{code_of, file_coded, then_refused, then_hit, then_none}
use Rattle.rules.proofs.Runs.{start_sound, checked-run, checked_answers, safe-run}

-- What the reader gives: why a file is refused, or the start line of an accepted file.
module _ (file : List ℕ) where
  told : {o : FileOutcome} → o ≡ read file → o.refusal ≡ file_refusal file
  unfolding read
  told is = ap (λ (x : FileOutcome). x.refusal) is

  module _ {start : Line} (is : outcome (Ok start) ≡ read file) where
    accepted_file : file_code file ≡ 0
    accepted_file = sym (file_coded file) ∙ sym (code_of (told is))

    accepted-line : start ≡ start_line (decode file)
    unfolding read
    accepted-line = ap (λ (x : FileOutcome). x.line) is ∙ rw accepted_file refl

    -- On the way from that line the record check finds nothing.
    pub read_sound : StaysSound start
    read_sound = rw accepted-line (start_sound file accepted_file)

module _ (file steps buffer : List ℕ) where
  pub run_refused : (e : FileError) → outcome (Err e) ≡ read file → Ran file steps buffer (outcome (Err e)) buffer
  unfolding run run_refusal answered read
  run_refused e is =
      let other : (file_refusal file).code ≢ 0 = λ z. error_coded e (code_of (told file is) ∙ z) in
      let same = then_refused (file_refusal file) (26 if ltb (length buffer) (step_count steps) ∷ []) other in
      let refused = rw (file_coded file) at (ne_eqb (file_refusal file).code 0 other) in
      record {
        outcome = is ∙ rw (same, file_coded, refused);
        buffer = rw (same, file_coded, refused) refl;
        safe = λ z. absurd (error_coded e z);
      }

  -- Past the file's code the row of 26 decides.
  module _ {start : Line} (is : outcome (Ok start) ≡ read file) where
    file_zero : (file_refusal file).code ≡ 0
    file_zero = sym (code_of (told file is))

    module _ {n : ℕ} (counted : n ≡ (length steps + 2) / 3) where
      pub run_short : length buffer < n → Ran file steps buffer (outcome (Err NoRoom)) buffer
      unfolding run run_refusal answered step_count
      run_short h =
          let short : run_refusal file steps buffer ≡ without_place 26 = then_hit (file_refusal file) file_zero 26 _ (lt-ltb _ _ (omega arith)) in
          record { outcome = rw short; buffer = rw short refl; safe = λ e. absurd (omega arith) }

      module _ (room : n ≤ length buffer) where
        roomy : run_refusal file steps buffer ≡ without_place 0
        unfolding run_refusal step_count
        roomy = then_none (file_refusal file) file_zero 26 _ (le-ltb _ _ (omega arith))

        pub run_done : {l : Line} {after : List ℕ} → l ≡ line_after step start (whole_steps steps)
            → after ≡ answers_from step start steps ++ drop (step_count steps) buffer → Ran file steps buffer (outcome (Ok l)) after
        unfolding run answered
        run_done {l} {after} l-is after_is =
            let begin = accepted-line file is in
            let left : outcome (Ok l) ≡ run checked_step file steps buffer = rw (checked-run file steps buffer, roomy, l-is, begin) refl in
            let told : after ≡ answered checked_step file steps buffer = rw (checked_answers file steps buffer, roomy, after_is, begin) refl in
            let line : l ≡ (run checked_step file steps buffer).line = ap (λ (x : FileOutcome). x.line) left in
            record { outcome = left; buffer = told; safe = λ e. rw (line, told) (safe-run file steps buffer (code_of roomy)) }

        -- All steps taken by single calls: the code and the buffer of a run.
        pub run_called : {after : List ℕ} → after ≡ answers_from checked_step start steps ++ drop (step_count steps) buffer
            → (0 ≡ (run checked_step file steps buffer).refusal.code) × (after ≡ answered checked_step file steps buffer)
        unfolding run answered
        run_called after_is = rw (roomy, after_is, accepted-line file is) (refl, refl)
