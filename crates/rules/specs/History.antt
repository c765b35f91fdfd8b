-- A list of steps and what it leaves (01, "Whole steps"): the line after it, its answers, and the trains' places as they
-- follow from the accepted moves alone.
use Rattle.std.specs.Prelude.{ℕ, ◌+◌, ◌-◌, Bool, cond, ◌&&◌, List, [], ◌∷◌, eqb}
use Rattle.rules.specs.declared.Line.{Line}
use Rattle.rules.specs.declared.Outcome.{Outcome}
use Rattle.rules.specs.Steps.{Step}

-- A call on a line with a step: `step`, `checked_step`, or the `atomic_step` of the atomic line.
abbrev pub Call : Type 0
Call = Line → Step → Outcome

-- A step and its answer.
pub record Event : Type 0 where
  pub step : Step
  pub answer : ℕ

infix 70 ◌answered◌
abbrev pub ◌answered◌ : Step → ℕ → Event
s answered c = record { step = s; answer = c }

-- The line after a list of steps, each getting the line that the one before returned; and the steps with their answers.
unfoldable pub line_after : Call → Line → List Step → Line
line_after call l [] = l
line_after call l (s ∷ rest) = line_after call (call l s).line rest

unfoldable pub events : Call → Line → List Step → List Event
events call l [] = []
events call l (s ∷ rest) =
    let o = call l s in
    s answered o.code ∷ events call o.line rest

-- The event is train i's step of this kind, accepted.
unfoldable pub accepted : ℕ → ℕ → Event → Bool
accepted kind i e = eqb e.step.kind kind && eqb e.step.train i && eqb e.answer 0

-- Where a train is: the place of its front on its route, counted from 1, and how many segments it covers.
pub record Place : Type 0 where
  pub place : ℕ
  pub covered : ℕ

abbrev pub start_place : Place
start_place = record { place = 1; covered = 1 }

-- Train i's place after an event: the front one on at an Enter, the tail dropped at a Clear.
unfoldable pub moved : ℕ → Place → Event → Place
moved i p e =
    cond (accepted 5 i e) (record { place = p.place + 1; covered = p.covered + 1 })
    (cond (accepted 6 i e) (record { place = p.place; covered = p.covered - 1 }) p)

unfoldable pub moved_by : ℕ → Place → List Event → Place
moved_by i p [] = p
moved_by i p (e ∷ rest) = moved_by i (moved i p e) rest

-- Train i's place after a list of events from the start.
unfoldable pub place_after : ℕ → List Event → Place
place_after i es = moved_by i start_place es
