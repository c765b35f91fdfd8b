-- Where codes 6 and 7 find nothing, and 8 nothing at the boxes, a box lists only segments with an end there, and no end twice. So each
-- of the 2 n ends is listed by its box exactly where the boxes have 2 n places in all.
use Rattle.std.proofs.Common.{◌≡◌, ◌≢◌, ℕ, zero, suc, ◌+◌, ◌*◌, ◌≤◌, ◌<◌, Bool, true, false, not, ◌||◌, eqb, List, refl, sym, ◌∙◌, arith, eq-eqb, ne_eqb, eqb-true}
use Rattle.std.proofs.Math.Decide.{ℕ_discrete, dec_lt}
use Rattle.std.proofs.Math.Dec.{eqb-suc-zero}
use Rattle.std.proofs.lemmas.Bool.{false≢true}
use Rattle.rules.specs.declared.BoxPlan.{BoxPlan}
use Rattle.rules.specs.Rows.{any_of, nth}
use Rattle.rules.specs.Track.{Track, no_box_plan, near_box, far_box}
use Rattle.rules.specs.Loop.{SegmentOf}
use Rattle.rules.specs.Network.{ends_fault, lists, plan_fault_at, box_fault_at, unlisted_fault}
use Rattle.rules.specs.Printout.{bit}
use Rattle.rules.proofs.Tests.{not_passed, or-false-left, or-false_right}
use Rattle.rules.proofs.Rows.{any_false_at}
use Rattle.rules.proofs.Accepted.{BoxOf, Ends, Planned, Sides, on_left, on_right, ends_iff, plan_iff, sides_iff}
use Rattle.rules.proofs.Boxes.{one_side, stem_no_branch}
use Rattle.network.specs.Places.{sum_of, place_count}
use Rattle.network.proofs.Sums.{sum_same, sum_none, sum_one, sum_two, sum_add, sum_swap}

-- How many of two tests are passed.
both : (x y : Bool) → (not x || not y) ≡ false → bit x + bit y ≡ 2
unfolding bit
both true true e = refl
both true false e = absurd (false≢true (sym e))
both false y e = absurd (false≢true (sym e))

fewer : (x y : Bool) → (not x || not y) ≡ true → bit x + bit y < 2
unfolding bit
fewer true true e = absurd (false≢true e)
fewer true false e = omega arith
fewer false true e = omega arith
fewer false false e = omega arith

at_most : (x y : Bool) → bit x + bit y ≤ 2
unfolding bit
at_most true true = omega arith
at_most true false = omega arith
at_most false true = omega arith
at_most false false = omega arith

-- Two tests at each of n segments: all are passed exactly where 2 n are.
module _ (a b : ℕ → Bool) where
  abbrev missing : ℕ → Bool
  missing s = not (a s) || not (b s)

  abbrev passed : ℕ → ℕ
  passed s = bit (a s) + bit (b s)

  all_passed : (n : ℕ) → any_of n missing ≡ false → sum_of n passed ≡ 2 * n
  unfolding any_of sum_of
  all_passed zero e = refl
  all_passed (suc n) e =
      let rest = all_passed n (or-false-left _ _ e) in
      let last = both (a (suc n)) (b (suc n)) (or-false_right (any_of n missing) _ e) in
      omega arith

  no_more : (n : ℕ) → sum_of n passed ≤ 2 * n
  unfolding sum_of
  no_more zero = omega arith
  no_more (suc n) =
      let rest = no_more n in
      let last = at_most (a (suc n)) (b (suc n)) in
      omega arith

  some_missing : (n : ℕ) → any_of n missing ≡ true → sum_of n passed < 2 * n
  unfolding any_of sum_of
  some_missing zero e = absurd (false≢true e)
  some_missing (suc n) e = by (any_of n missing) refl (some_missing n)
    where
      by : (v : Bool) → any_of n missing ≡ v → (any_of n missing ≡ true → sum_of n passed < 2 * n)
          → sum_of n passed + passed (suc n) < 2 * suc n
      by true f earlier =
          let rest = earlier f in
          let last = at_most (a (suc n)) (b (suc n)) in
          omega arith
      by false f earlier =
          let rest = no_more n in
          let last = fewer (a (suc n)) (b (suc n)) (rw f at e) in
          omega arith

  by_count : (n : ℕ) → any_of n missing ≡ not (eqb (sum_of n passed) (2 * n))
  by_count n = by (any_of n missing) refl
    where
      by : (v : Bool) → any_of n missing ≡ v → v ≡ not (eqb (sum_of n passed) (2 * n))
      by true e = let few = some_missing n e in rw (ne_eqb (sum_of n passed) (2 * n) (omega arith))
      by false e = rw (eq-eqb (sum_of n passed) (2 * n) (all_passed n e))

-- Of three tests one at most is passed.
one_of : (x y z : Bool) → (x ≡ true → y ≡ true → ⊥) → (x ≡ true → z ≡ true → ⊥) → (y ≡ true → z ≡ true → ⊥)
    → bit (x || y || z) ≡ bit x + bit y + bit z
unfolding bit
one_of true true z f g h = absurd (f refl refl)
one_of true false true f g h = absurd (g refl refl)
one_of true false false f g h = refl
one_of false true true f g h = absurd (h refl refl)
one_of false true false f g h = refl
one_of false false true f g h = refl
one_of false false false f g h = refl

-- A segment that stands at a place of a box is counted once there; none is where the place is not used.
counted : (n x : ℕ) → SegmentOf n x → sum_of n (λ s. bit (eqb x s)) ≡ 1
unfolding bit
counted n x h =
    sum_one (λ s. bit (eqb x s)) n x h.low h.high (λ i l k c. rw (ne_eqb x i (λ e. c (sym e)))) ∙ rw (eq-eqb x x refl)

uncounted : (n x : ℕ) → x ≡ 0 → sum_of n (λ s. bit (eqb x s)) ≡ 0
unfolding bit
uncounted n x e = sum_none (λ s. bit (eqb x s)) n (λ i l k. rw (ne_eqb x i (omega arith)))

-- Box b with plan p, where codes 7 and 8 find nothing.
module _ (n : ℕ) (track : Track) (b : ℕ) (p : BoxPlan) (planned : Planned n p) (sides : Sides track b p) where
  -- A segment that it lists stands at one place of it.
  stands_once : (s : ℕ) → SegmentOf n s → bit (lists p s) ≡ bit (eqb p.stem s) + bit (eqb p.left s) + bit (eqb p.right s)
  unfolding lists
  stands_once s h =
      one_of _ _ _
      (λ e f. stem_no_branch planned sides (on_left refl (eqb-true _ _ f)) (eqb-true _ _ e))
      (λ e f. stem_no_branch planned sides (on_right refl (eqb-true _ _ f)) (eqb-true _ _ e))
      (λ e f. one_side planned h (eqb-true _ _ e) (eqb-true _ _ f))

  -- It lists as many segments as its kind has places.
  box_count_lem : sum_of n (λ s. bit (lists p s)) ≡ p.kind + 1
  box_count_lem =
      let stem : ℕ → ℕ = λ s. bit (eqb p.stem s) in
      let left : ℕ → ℕ = λ s. bit (eqb p.left s) in
      let right : ℕ → ℕ = λ s. bit (eqb p.right s) in
      let all =
      sum_same (λ s. bit (lists p s)) (λ s. stem s + left s + right s) n
      (λ s l h. stands_once s (record { low = l; high = h })) in
      let three = sum_add (λ s. stem s + left s) right n in
      let two = sum_add stem left n in
      let one = counted n p.stem planned.stem in
      elim (ℕ_discrete p.kind 2) [
        | yes point ↦
            let l = counted n p.left (planned.left.used (omega arith)) in
            let r = counted n p.right (planned.right.used point) in
            omega arith
        | no other ↦
            let r = uncounted n p.right (planned.right.unused other) in
            elim (dec_lt 0 p.kind) [
              | yes link ↦ let l = counted n p.left (planned.left.used (omega arith)) in omega (arith, planned.kind)
              | no border ↦ let l = uncounted n p.left (planned.left.unused (λ h. border (omega arith))) in omega arith
            ]
      ]

module _ (n m : ℕ) (track : Track) (plans : List BoxPlan)
    (ends : (s : ℕ) → SegmentOf n s → Ends m track s)
    (planned : (b : ℕ) → BoxOf m b → Planned n (nth plans b no_box_plan))
    (sides : (b : ℕ) → BoxOf m b → Sides track b (nth plans b no_box_plan)) where
  -- Whether box b lists segment s.
  abbrev listing : ℕ → ℕ → Bool
  listing b s = lists (nth plans b no_box_plan) s

  -- A box that lists a segment is at one of its ends.
  no_other : (b s : ℕ) → BoxOf m b → s ≢ 0 → b ≢ track.end_a s → b ≢ track.end_b s → listing b s ≡ false
  unfolding near_box
  no_other b s h used a c =
      not_passed (listing b s) (λ e. let end = (sides b h).ends s e used in at end.direction end.there)
    where
      at : (d : ℕ) → near_box track d s ≡ b → ⊥
      at zero e = a (sym e)
      at (suc d) e = c (sym (rw eqb-suc-zero at e))

  -- The boxes that list a segment are those of its two ends, or one of them, or none.
  segment_count_lem : (s : ℕ) → SegmentOf n s
      → sum_of m (λ b. bit (listing b s)) ≡ bit (listing (track.end_a s) s) + bit (listing (track.end_b s) s)
  unfolding bit near_box far_box
  segment_count_lem s h =
      let a = (ends s h).box 0 in
      let c = (ends s h).box 1 in
      sum_two (λ b. bit (listing b s)) m (track.end_a s) (track.end_b s) a.low a.high c.low c.high ((ends s h).differ 0)
      (λ b l k x y. rw (no_other b s (record { low = l; high = k }) (omega (arith, h.low)) x y))

  places-listed : place_count m plans ≡ sum_of n (λ s. bit (listing (track.end_a s) s) + bit (listing (track.end_b s) s))
  unfolding place_count
  places-listed =
      sum_same _ _ m
      (λ b l h. let k : BoxOf m b = record { low = l; high = h } in sym (box_count_lem n track b _ (planned b k) (sides b k)))
      ∙ sum_swap (λ b s. bit (listing b s)) m n
      ∙ sum_same _ _ n (λ s l h. segment_count_lem s (record { low = l; high = h }))

-- Code 8 at the segments, by how many places the boxes have.
pub unlisted_by_places : (n m : ℕ) (track : Track) (plans : List BoxPlan)
    → any_of n (ends_fault m track) ≡ false → any_of m (plan_fault_at n plans) ≡ false → any_of m (box_fault_at track plans) ≡ false
    → not (eqb (place_count m plans) (2 * n)) ≡ any_of n (unlisted_fault track plans)
unfolding plan_fault_at box_fault_at unlisted_fault
unlisted_by_places n m track plans six seven eight =
    rw
    (places-listed n m track plans
    (λ s h. (ends_iff m track s).0 (any_false_at (ends_fault m track) n s six h.low h.high))
    (λ b h. (plan_iff n (nth plans b no_box_plan)).0 (any_false_at (plan_fault_at n plans) m b seven h.low h.high))
    (λ b h. (sides_iff track b (nth plans b no_box_plan)).0 (any_false_at (box_fault_at track plans) m b eight h.low h.high)))
    (sym (by_count (λ s. lists (nth plans (track.end_a s) no_box_plan) s) (λ s. lists (nth plans (track.end_b s) no_box_plan) s) n))
