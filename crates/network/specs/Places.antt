-- How many places the boxes have in all. Where codes 6 and 7 find nothing, and 8 nothing at the boxes, every end of the n segments is
-- listed by its box exactly where that is 2 n (proofs/Listed.antt).
use Rattle.std.specs.Prelude.{ℕ, zero, suc, ◌+◌, List}
use Rattle.rules.specs.declared.BoxPlan.{BoxPlan}
use Rattle.rules.specs.Rows.{nth}
use Rattle.rules.specs.Track.{no_box_plan}

-- f 1 + .. + f n.
unfoldable pub sum_of : ℕ → (ℕ → ℕ) → ℕ
sum_of zero f = 0
sum_of (suc n) f = sum_of n f + f (suc n)

-- The places of boxes 1 .. m: one at a border, two at a link, three at a point.
unfoldable pub place_count : ℕ → List BoxPlan → ℕ
place_count m plans = sum_of m (λ b. (nth plans b no_box_plan).kind + 1)
