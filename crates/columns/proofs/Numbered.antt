-- The segment and the box at an index of a table are those numbered one higher; there is none numbered 0 and none past the arrays.
use Rattle.std.proofs.Common.{◌≡◌, ℕ, ◌+◌, ◌<◌, List, refl, sym, ap, arith, length, get_or, eqb}
use Rattle.rules.specs.declared.Segment.{Segment}
use Rattle.rules.specs.declared.BoxPlan.{BoxPlan}
use Rattle.rules.specs.Rows.{nth}
use Rattle.rules.specs.Track.{no_segment, no_box_plan, track_by, way_by, far_box}
use Rattle.rules.proofs.Tests.{cond_same}
use Rattle.rules.proofs.Rows.{nth_at, nth_past}
use Rattle.columns.specs.Column.{kind_of}

module _ (l : List Segment) where
  pub way_none : way_by l 0 ≡ 0
  unfolding way_by nth
  way_none = refl

  pub way_past : length l ≡ 96 → (x : ℕ) → 96 < x → way_by l x ≡ 0
  unfolding way_by
  way_past e x h = ap (λ (s : Segment). s.way) (nth_past l x no_segment (omega arith))

  pub way_at : (i : ℕ) → (get_or l i no_segment).way ≡ way_by l (i + 1)
  unfolding way_by
  way_at i = ap (λ (s : Segment). s.way) (sym (nth_at l i no_segment))

  pub far_none : (d : ℕ) → far_box (track_by l) d 0 ≡ 0
  unfolding far_box track_by nth
  far_none d = cond_same (eqb d 0) 0

  pub far_past : (d : ℕ) → length l ≡ 96 → (x : ℕ) → 96 < x → far_box (track_by l) d x ≡ 0
  unfolding far_box track_by
  far_past d e x h = rw (nth_past l x no_segment (omega arith)) (cond_same (eqb d 0) 0)

  pub end_a_at : (i : ℕ) → (get_or l i no_segment).a ≡ far_box (track_by l) 1 (i + 1)
  unfolding far_box track_by
  end_a_at i = ap (λ (s : Segment). s.a) (sym (nth_at l i no_segment))

  pub end_b_at : (i : ℕ) → (get_or l i no_segment).b ≡ far_box (track_by l) 0 (i + 1)
  unfolding far_box track_by
  end_b_at i = ap (λ (s : Segment). s.b) (sym (nth_at l i no_segment))

module _ (plans : List BoxPlan) where
  pub kind_none : kind_of plans 0 ≡ 0
  unfolding kind_of nth
  kind_none = refl

  pub kind_past : length plans ≡ 96 → (x : ℕ) → 96 < x → kind_of plans x ≡ 0
  unfolding kind_of
  kind_past e x h = ap (λ (p : BoxPlan). p.kind) (nth_past plans x no_box_plan (omega arith))

  pub kind_at : (i : ℕ) → (get_or plans i no_box_plan).kind ≡ kind_of plans (i + 1)
  unfolding kind_of
  kind_at i = ap (λ (p : BoxPlan). p.kind) (sym (nth_at plans i no_box_plan))
