-- Demand 3, of what a run has answered and of the line to which its steps led, which the caller does not see.
use Rattle.std.specs.Prelude.{ℕ, List}
use Rattle.rules.specs.Record.{checked_step}
use Rattle.rules.specs.Run.{run, SafeRun}

abbrev pub SafelyAnswered : List ℕ → List ℕ → List ℕ → List ℕ → Type 0
SafelyAnswered file steps buffer answered = SafeRun file steps (run checked_step file steps buffer).line buffer answered
