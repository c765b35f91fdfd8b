-- Code 8 at the boxes by their stem sides: where codes 6 and 7 find nothing, it is found by `sided_fault` exactly where `box_fault` has it.
use Rattle.std.proofs.Common.{◌≡◌, ◌≢◌, ℕ, ◌+◌, ◌≤◌, ◌<◌, Bool, true, false, not, cond, ◌&&◌, ◌||◌, List, length, take, eqb, get_or, get_or-take, length-take-le, zero-add, refl, sym, ◌∙◌, arith, ne_eqb}
use Rattle.std.specs.List.{zip, enumerate_from}
use Rattle.std.proofs.lemmas.Slice.Zip.{length-zip, get_or-zip}
use Rattle.std.proofs.lemmas.List.FromFn.{get_or-enumerate_from}
use Rattle.std.proofs.lemmas.Bool.{eqb-false}
use Rattle.std.proofs.lemmas.List.{length-take}
use Rattle.rules.specs.declared.BoxPlan.{BoxPlan}
use Rattle.rules.specs.declared.StemSide.{StemSide}
use Rattle.rules.specs.declared.StemSide.TheVariants.{AEnd, BEnd, Neither}
use Rattle.rules.specs.Rows.{any_of, nth, list_of, filled}
use Rattle.rules.specs.Track.{Track, no_box_plan}
use Rattle.rules.specs.Network.{ends_fault, place_fault, plan_fault, has_end_a, has_end_b, listed_fault, side_fault, box_fault, plan_fault_at, box_fault_at}
use Rattle.rules.specs.StemSide.{is_side, stem_side, stem_side_at}
use Rattle.rules.proofs.Tests.{facts, outside-false_iff}
use Rattle.rules.proofs.StemSides.{one_end}
use Rattle.rules.proofs.Rows.{any_false_at, any_same, nth_at, filled_record}
use Rattle.network.specs.Sided.{branch_away, some_branch_away, sided_fault, sided_fault_at}

-- A segment at a place of a box, by the tests that the place is unused (z), that its A end is at the box (a) and that its B end is (b):
-- listed without an end there; and a branch on the stem's side, with the tests of the stem's ends (x and y).
abbrev listed : Bool → Bool → Bool → Bool
listed z a b = not z && not (a || b)

abbrev sided : Bool → Bool → Bool → Bool → Bool → Bool
sided x y z a b = not z && ((x && a) || (y && b))

-- One of its ends, at most, is at the box. So at a branch beside a stem with its A end there, either means that its B end is not there;
-- beside a stem with its B end there, that its A end is not.
beside_a : (z a b : Bool) → (z ≡ false → a ≡ true → b ≡ true → ⊥) → (listed z a b || sided true false z a b) ≡ (not z && not b)
beside_a true a b h = refl
beside_a false true true h = absurd (h refl refl refl)
beside_a false true false h = refl
beside_a false false true h = refl
beside_a false false false h = refl

beside_b : (z a b : Bool) → (z ≡ false → a ≡ true → b ≡ true → ⊥) → (listed z a b || sided false true z a b) ≡ (not z && not a)
beside_b true a b h = refl
beside_b false true true h = absurd (h refl refl refl)
beside_b false true false h = refl
beside_b false false true h = refl
beside_b false false false h = refl

-- The tests of the left branch and of the right one, each by itself.
regroup : (l r x y : Bool) → (((l || r) || x) || y) ≡ ((l || x) || (r || y))
regroup true r x y = refl
regroup false true true y = refl
regroup false true false y = refl
regroup false false x y = refl

-- A box by its tests: those of the stem's ends (x and y), and the three of each branch.
by_tests : (f : StemSide → Bool) (x y zl al bl zr ar br : Bool)
    → (x ≡ true → y ≡ true → ⊥) → (zl ≡ false → al ≡ true → bl ≡ true → ⊥) → (zr ≡ false → ar ≡ true → br ≡ true → ⊥)
    → f AEnd ≡ ((not zl && not bl) || (not zr && not br)) → f BEnd ≡ ((not zl && not al) || (not zr && not ar)) → f Neither ≡ true
    → ((((not (x || y) || listed zl al bl) || listed zr ar br) || sided x y zl al bl) || sided x y zr ar br)
    ≡ f (cond x AEnd (cond y BEnd Neither))
by_tests f true true zl al bl zr ar br s l r d e n = absurd (s refl refl)
by_tests f true false zl al bl zr ar br s l r d e n =
    regroup (listed zl al bl) (listed zr ar br) (sided true false zl al bl) (sided true false zr ar br)
    ∙ (λ i. beside_a zl al bl l i || beside_a zr ar br r i)
    ∙ sym d
by_tests f false true zl al bl zr ar br s l r d e n =
    regroup (listed zl al bl) (listed zr ar br) (sided false true zl al bl) (sided false true zr ar br)
    ∙ (λ i. beside_b zl al bl l i || beside_b zr ar br r i)
    ∙ sym e
by_tests f false false zl al bl zr ar br s l r d e n = sym n

-- Code 7 finds nothing at a place of a box: a segment stands there, or the place is not used.
place-used : (n : ℕ) (needed : Bool) (s : ℕ) → place_fault n needed s ≡ false → eqb s 0 ≡ false → (1 ≤ s) × (s ≤ n)
unfolding place_fault
place-used n true s e h = (outside-false_iff n s).0 e
place-used n false s e h = absurd (eqb-false s 0 h (simp facts at e))

module _ (n m : ℕ) (track : Track) (none : any_of n (ends_fault m track) ≡ false) where
  -- Code 6 finds nothing: the ends of a segment are at two boxes.
  apart : (s : ℕ) → (1 ≤ s) × (s ≤ n) → track.end_a s ≢ track.end_b s
  unfolding ends_fault
  apart s h = let (_, differ) = simp facts at (any_false_at (ends_fault m track) n s none h.0 h.1) in differ

  -- A box by its stem side.
  pub box_by_side : (b : ℕ) (p : BoxPlan) → plan_fault n p ≡ false → sided_fault track b p (stem_side track b p.stem) ≡ box_fault track b p
  unfolding plan_fault box_fault listed_fault side_fault sided_fault some_branch_away branch_away stem_side is_side has_end_a has_end_b
  box_by_side b p fine =
      let (((((_, stem), left), right), _), _) = simp facts at fine in
      let used = (outside-false_iff n p.stem).0 stem in
      rw (ne_eqb p.stem 0 (omega arith))
      (sym
      (by_tests (sided_fault track b p) _ _ _ _ _ _ _ _
      (one_end track b _ (apart _ used))
      (λ z. one_end track b _ (apart _ (place-used n _ _ left z)))
      (λ z. one_end track b _ (apart _ (place-used n _ _ right z)))
      refl
      refl
      refl))

  -- All boxes by the sides that were kept.
  pub boxes_by_sides : (plans : List BoxPlan) (sides : List StemSide) → any_of m (plan_fault_at n plans) ≡ false → m ≤ 96
      → sides ≡ filled 96 Neither (list_of m (stem_side_at track plans))
      → any_of m (sided_fault_at track plans sides) ≡ any_of m (box_fault_at track plans)
  unfolding plan_fault_at box_fault_at sided_fault_at stem_side_at
  boxes_by_sides plans sides fine few kept =
      any_same (sided_fault_at track plans sides) (box_fault_at track plans) m λ b l h.
      rw (kept, filled_record (stem_side_at track plans) Neither 96 m b few l h)
      (box_by_side b (nth plans b no_box_plan) (any_false_at (plan_fault_at n plans) m b fine l h))

-- The box at index i is that of number i + 1: its side by its plan among the first n, and what is found at it.
module _ (track : Track) (plans : List BoxPlan) (i : ℕ) where
  pub side_at : (n : ℕ) (x : StemSide) → i < length (take n plans) → x ≡ stem_side track (i + 1) (get_or (take n plans) i no_box_plan).stem
      → x ≡ stem_side_at track plans (i + 1)
  unfolding stem_side_at
  side_at n x h e = rw nth_at (e ∙ rw (get_or-take n plans i no_box_plan (omega (arith, length-take n plans))))

-- The box at index i among the first n, by the plans and the sides in pairs.
abbrev pub sided_pair : Track → ℕ × (BoxPlan × StemSide) → Bool
sided_pair track (i, (p, side)) = sided_fault track (i + 1) p side

pub sided_at : (track : Track) (plans : List BoxPlan) (sides : List StemSide) (n i : ℕ) → n ≤ length plans → n ≤ length sides → i < n
    → sided_pair track (get_or (enumerate_from 0 (zip (take n plans) sides)) i (0, (no_box_plan, Neither)))
    ≡ sided_fault_at track plans sides (i + 1)
unfolding sided_fault_at
sided_at track plans sides n i h k l =
    let pairs = zip (take n plans) sides in
    let within : i < length pairs = omega (arith, length-zip (take n plans) sides, length-take-le n plans h) in
    rw (
      get_or-enumerate_from 0 pairs i (0, (no_box_plan, Neither)) within,
      get_or-zip (take n plans) sides i (no_box_plan, Neither) (omega (arith, length-take-le n plans h)) (omega arith),
      get_or-take n plans i no_box_plan l,
      nth_at,
      nth_at,
      zero-add,
    )
