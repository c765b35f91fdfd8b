-- The examples of demand 3: the definitions give what each shows. One proof over the whole list, by computing.
use mathlib.Core.Path.{◌≡◌, refl}
use mathlib.Core.List.{[], ◌∷◌, map}
use Rattle.rules.specs.Rows.{first}
use Rattle.rules.specs.Track.{track_of, way_of}
use Rattle.rules.specs.Placing.{placing_rows}
use Rattle.rules.specs.File.{file_code, decode}
use Rattle.rules.specs.Examples.{covered_by, seen, said, examples, circle, round_trip}
use Rattle.rules.proofs.Computing.{definitions}

pub examples_hold : map seen examples ≡ map said examples
unfolding definitions
examples_hold = refl

-- Without code 9 two trains could meet: a table with a loop is refused with 9, the codes after it find nothing, and on its start
-- line both trains come to cover 1.
pub circle_refused : file_code circle ≡ 9
unfolding definitions
circle_refused = refl

pub circle_placed : first (let t = decode circle in placing_rows t.n t.k (track_of t) (way_of t) t.trains t.routes) ≡ 0
unfolding definitions
circle_placed = refl

pub circle_meets : covered_by (decode circle) round_trip ≡ record { front = 1; tail = 0 } ∷ record { front = 1; tail = 3 } ∷ []
unfolding definitions
circle_meets = refl
