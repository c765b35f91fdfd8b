-- What the loop over steps is stated by.
use Rattle.std.specs.Prelude.{ℕ, suc, ◌<◌, ◌≡◌, false, List, length, get_or, Result, Ok, Err}
use Rattle.rules.specs.declared.Table.{Table}
use Rattle.rules.specs.declared.SwitchBox.{SwitchBox}
use Rattle.rules.specs.declared.Train.{Train}
use Rattle.rules.specs.declared.Line.{Line}
use Rattle.rules.specs.declared.Around.{Around}
use Rattle.rules.specs.declared.errors.StepError.{StepError}
use Rattle.rules.specs.Errors.{step_code}
use Rattle.rules.specs.Safety.{StaysSound}
use Rattle.rules.specs.Line.{no_train, around_train}
use Rattle.columns.specs.declared.Columns.{Columns}
use Rattle.traincomputer.specs.Sight.{around_in}

-- The line with this table and these boxes, trains and routes.
abbrev pub standing : Table → List SwitchBox → List Train → List ℕ → Line
standing t boxes trains routes = record { table = t; boxes = boxes; trains = trains; routes = routes }

-- What is read where nothing stands around a train.
abbrev pub no_around : Around
no_around =
    record {
      number = 0;
      front = 0;
      next = 0;
      tail = 0;
      second = 0;
      against = false;
      ahead = 0;
      point = false;
      near_end = 0;
      far_end = 0;
      passed = 0;
    }

-- What stands around each of the first n trains, by its number and record, is in the list at the train's index.
pub record Seen (around : ℕ → Train → Around) (trains : List Train) (seen : List Around) (n : ℕ) : Type 0 where
  pub size : length seen ≡ 16
  pub is : (i : ℕ) → i < n → get_or seen i no_around ≡ around (suc i) (get_or trains i no_train)

-- What holds of a line between two steps: the columns show what stands around its trains, the record check finds nothing on it, now and
-- after any steps, and what stands around each train is kept.
pub record Kept (c : Columns) (l : Line) (seen : List Around) : Type 0 where
  pub shown : around_in c.a c.b c.ways c.kinds l.routes ≡ around_train l.table l.routes
  pub sound : StaysSound l
  pub places : length l.trains ≡ 16
  pub looked : Seen (around_train l.table l.routes) l.trains seen 16

-- The code that a step is answered.
abbrev pub step_answer : Result ℕ StepError → ℕ
step_answer (Ok c) = c
step_answer (Err e) = step_code e
