-- Code 8 at a box by its stem side, which was worked out before. Where codes 6 and 7 find nothing it says what `box_fault` says
-- (proofs/Sides.antt).
use Rattle.std.specs.Prelude.{ℕ, Bool, true, not, ◌&&◌, ◌||◌, List, eqb}
use Rattle.rules.specs.declared.BoxPlan.{BoxPlan}
use Rattle.rules.specs.declared.StemSide.{StemSide}
use Rattle.rules.specs.declared.StemSide.TheVariants.{AEnd, BEnd, Neither}
use Rattle.rules.specs.Rows.{nth}
use Rattle.rules.specs.Track.{Track, no_box_plan}

-- The end of branch s that is asked for is not at box b; the A ends or the B ends of segments are asked for. An unused place, 0, is no
-- branch.
unfoldable pub branch_away : (ℕ → ℕ) → ℕ → ℕ → Bool
branch_away ends b s = not (eqb s 0) && not (eqb (ends s) b)

unfoldable pub some_branch_away : (ℕ → ℕ) → ℕ → BoxPlan → Bool
some_branch_away ends b p = branch_away ends b p.left || branch_away ends b p.right

-- Box b with plan p is at fault where neither end of its stem is there, or some branch is not there by the other end: B beside a stem
-- with its A end there, A beside one with its B end there.
unfoldable pub sided_fault : Track → ℕ → BoxPlan → StemSide → Bool
sided_fault track b p AEnd = some_branch_away track.end_b b p
sided_fault track b p BEnd = some_branch_away track.end_a b p
sided_fault track b p Neither = true

-- Box b, by its plan and its side among those of all boxes.
unfoldable pub sided_fault_at : Track → List BoxPlan → List StemSide → ℕ → Bool
sided_fault_at track plans sides b = sided_fault track b (nth plans b no_box_plan) (nth sides b Neither)
