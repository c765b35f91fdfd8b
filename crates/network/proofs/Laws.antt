-- Code 7 at the plan at an index, and where there are more boxes than plans.
use Rattle.std.proofs.Common.{◌≡◌, ℕ, ◌+◌, ◌<◌, true, List, length, get_or, arith}
use Rattle.rules.specs.declared.BoxPlan.{BoxPlan}
use Rattle.rules.specs.Rows.{any_of, outside}
use Rattle.rules.proofs.Tests.{tests}
use Rattle.rules.proofs.Rows.{none_found, nth_at, nth_past}
use Rattle.rules.specs.Track.{no_box_plan}
use Rattle.rules.specs.Network.{plan_fault, plan_fault_at}

-- The box at index i is that of number i + 1.
pub plan_at : (n : ℕ) (plans : List BoxPlan) (i : ℕ) → plan_fault n (get_or plans i no_box_plan) ≡ plan_fault_at n plans (i + 1)
unfolding plan_fault_at
plan_at n plans i = rw nth_at

-- More boxes than there are places: box 97 has no plan, and reads as one with segment 0 at its stem, which is at fault.
pub many_boxes : (n m : ℕ) (plans : List BoxPlan) → length plans ≡ 96 → 96 < m → true ≡ any_of m (plan_fault_at n plans)
unfolding plan_fault_at plan_fault outside
many_boxes n m plans sized many =
    none_found m (plan_fault_at n plans) 96 many (rw (nth_past plans 97 no_box_plan (omega arith)) (search tests depth 8))
