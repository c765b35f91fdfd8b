-- What calls and steps end in, in the papers' numbers. Functions answer results of Rust's kind; specs/Errors.antt says which of these they are.
use Rattle.std.specs.Prelude.{ℕ}
use Rattle.rules.specs.declared.SwitchBox.{SwitchBox}
use Rattle.rules.specs.declared.Train.{Train}
use Rattle.rules.specs.declared.Line.{Line}

-- Why a call on a table or its file is refused: the code and, with 11 and 28, the train and the place on its route, counted from 1;
-- with any other code both are 0. All three are 0 where it is not refused.
pub record Refusal : Type 0 where
  pub code : ℕ
  pub train : ℕ
  pub place : ℕ

-- What reading or running a table file ends in: why it is refused, and the line after it.
pub record FileOutcome : Type 0 where
  pub refusal : Refusal
  pub line : Line

-- What a step does to its train and to the box that it concerns: refused with a code, nothing changed; or a code, and the train and
-- the box after it.
pub data Effect : Type 0 where
  Refused : ℕ → Effect
  Changed : ℕ → Train → SwitchBox → Effect
