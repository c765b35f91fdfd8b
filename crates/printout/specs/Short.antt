-- What a writer of text leaves in a buffer, and the lines that it writes.
use Rattle.std.specs.Prelude.{ℕ, ◌+◌, ◌-◌, ◌≤◌, cond, leb, List, [], ◌∷◌}
use Rattle.rules.specs.declared.SwitchBox.{SwitchBox}
use Rattle.rules.specs.declared.Train.{Train}
use Rattle.rules.specs.Track.{route_at}
use Rattle.rules.specs.Printout.{bytes_of, decimal, text_line, bit}
use Rattle.writing.specs.declared.pen.Pen.{Pen}
use Rattle.writing.specs.Written.{Written}

-- The bytes w, at most n of them, written by the pen p, make q.
pub record Short (n : ℕ) (p : Pen) (w : List ℕ) (q : Pen) : Type 0 where
  pub written : Written p w q
  pub short : q.at ≤ p.at + n

-- A train's tail, 0 where it covers its front alone; and the lines of a train and of a box, by its number and its record.
abbrev pub tail_in : List ℕ → ℕ → ℕ → ℕ → ℕ
tail_in routes number place covered = cond (leb covered 1) 0 (route_at routes number (place + 1 - covered))

abbrev pub train_words : List ℕ → ℕ → Train → List ℕ
train_words routes number r =
    text_line (
    bytes_of "train"
    ∷ decimal number
    ∷ decimal (route_at routes number r.place)
    ∷ decimal (tail_in routes number r.place r.covered)
    ∷ []
    )

abbrev pub box_words : ℕ → SwitchBox → List ℕ
box_words number x = text_line (bytes_of "box" ∷ decimal number ∷ decimal (bit x.sensor) ∷ decimal x.position ∷ decimal x.lock ∷ [])
