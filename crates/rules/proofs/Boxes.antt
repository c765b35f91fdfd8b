-- How the boxes of an accepted table join its segments.
use Prim.Native.Nat.{ℕ, ◌≤◌}
use mathlib.Core.Path.{◌≡◌, refl, sym, ◌∙◌, ap}
use mathlib.Core.Logic.Iff
use mathlib.Core.Logic.{◌⊎◌, inl, inr, ⊎_elim, ◌↔◌, ◌≢◌}
use mathlib.Core.Bool.{Bool, true, false, ◌&&◌, ◌||◌, cond, false≢true}
use lib.Dec.{eqb}
use native.Mathlib.Decide.{ℕ_discrete, dec_le}
use native.Mathlib.Omega.{arith}
use Rattle.rules.specs.declared.BoxPlan.{BoxPlan}
use Rattle.rules.specs.declared.Table.{Table}
use Rattle.rules.specs.Track.{plan_at, is_point, position_fits, near_box, far_box, same_pair, joins, Track, track_of}
use Rattle.rules.specs.Loop.{SegmentOf}
use Rattle.rules.specs.Network.{lists}
use Rattle.rules.specs.Steps.{position_for}
use Rattle.rules.proofs.Tests.{facts, or-true_iff}
use Rattle.rules.proofs.Accepted.{Accepted, BoxOf, Planned, Branch, on_left, on_right, Stands, EndAt, Sides, back, far_back, near_back, either_end, lists_iff}

-- Position y of a box joins segments s and x: one is its stem, and the position leads to the other.
pub data Joint (p : BoxPlan) (y s x : ℕ) : Type 0 where
  from_stem : p.stem ≡ s → Branch p y x → Joint p y s x
  to_stem : p.stem ≡ x → Branch p y s → Joint p y s x

-- Two numbers are the two others, either way round.
abbrev Pair : ℕ → ℕ → ℕ → ℕ → Type 0
Pair s x y z = ((s ≡ y) × (x ≡ z)) ⊎ ((s ≡ z) × (x ≡ y))

pair_iff : (s x y z : ℕ) → (same_pair s x y z ≡ true) ↔ Pair s x y z
unfolding same_pair
pair_iff s x y z =
    or-true_iff (eqb s y && eqb x z) (eqb s z && eqb x y) (simp facts Iff.rfl) (simp facts Iff.rfl)

-- The test `joins` says yes exactly where the position joins the two segments.
joins_iff : (p : BoxPlan) (y s x : ℕ) → (joins p y s x ≡ true) ↔ Joint p y s x
unfolding joins
joins_iff p y s x =
    Iff.trans
    (or-true_iff (eqb y 1 && same_pair s x p.stem p.left) (eqb y 2 && same_pair s x p.stem p.right)
    (simp (facts, pair_iff) Iff.rfl) (simp (facts, pair_iff) Iff.rfl))
    (⊎_elim (λ h. joint (λ z. on_left h.0) h.1) (λ h. joint (λ z. on_right h.0) h.1), parts)
  where
    joint : {c : ℕ} → ((z : ℕ) → c ≡ z → Branch p y z) → Pair s x p.stem c → Joint p y s x
    joint leads (inl e) = from_stem (sym e.0) (leads x (sym e.1))
    joint leads (inr e) = to_stem (sym e.1) (leads s (sym e.0))

    parts : Joint p y s x → ((y ≡ 1) × Pair s x p.stem p.left) ⊎ ((y ≡ 2) × Pair s x p.stem p.right)
    parts (from_stem e (on_left f g)) = inl (f, inl (sym e, sym g))
    parts (from_stem e (on_right f g)) = inr (f, inl (sym e, sym g))
    parts (to_stem e (on_left f g)) = inl (f, inr (sym g, sym e))
    parts (to_stem e (on_right f g)) = inr (f, inr (sym g, sym e))

-- Where some position joins two segments, the position for them does.
joint_position : {p : BoxPlan} {y s x : ℕ} → Joint p y s x → joins p (position_for p s x) s x ≡ true
unfolding position_for
joint_position {p} {y} {s} {x} h = go (joins p 1 s x) refl
  where
    right : (y ≡ 1 → ⊥) → Joint p y s x → Joint p 2 s x
    right n (from_stem e (on_left f g)) = absurd (n f)
    right n (from_stem e (on_right f g)) = from_stem e (on_right refl g)
    right n (to_stem e (on_left f g)) = absurd (n f)
    right n (to_stem e (on_right f g)) = to_stem e (on_right refl g)

    go : (c : Bool) → joins p 1 s x ≡ c → joins p (cond c 1 2) s x ≡ true
    go true e = e
    go false e = (joins_iff p 2 s x).1 (right (λ f. false≢true (sym e ∙ rw f at ((joins_iff p y s x).1 h))) h)

-- The position for two segments is one that a point can have.
pub position_fits_lem : (p : BoxPlan) (s x : ℕ) → is_point p ≡ true → position_fits p (position_for p s x) ≡ true
unfolding position_fits position_for
position_fits_lem p s x e = rw e (either (joins p 1 s x))
  where
    either : (c : Bool) → (eqb (cond c 1 2) 1 || eqb (cond c 1 2) 2) ≡ true
    either true = refl
    either false = refl

-- A branch is there at a box of its kind: on the left at links and points, on the right at points.
branch_kind : {n : ℕ} {p : BoxPlan} {y s : ℕ} → Planned n p → SegmentOf n s → Branch p y s → (1 ≤ y) × (y ≤ p.kind)
branch_kind {p} h hs (on_left f e) =
    elim (dec_le 1 p.kind) [ yes k ↦ omega arith | no k ↦ let z = h.left.unused k in absurd (omega arith) ]
branch_kind {p} h hs (on_right f e) =
    elim (ℕ_discrete p.kind 2) [ yes k ↦ omega arith | no k ↦ let z = h.right.unused k in absurd (omega arith) ]

-- A segment is not both the left and the right of a box, so one position leads to it.
pub one_side : {n : ℕ} {p : BoxPlan} {s : ℕ} → Planned n p → SegmentOf n s → p.left ≡ s → p.right ≡ s → ⊥
one_side h hs e f =
    let k = branch_kind {y = 2} h hs (on_right refl f) in
    h.differ (omega arith) (e ∙ sym f)

branch_once : {n : ℕ} {p : BoxPlan} {y z s : ℕ} → Planned n p → SegmentOf n s → Branch p y s → Branch p z s → y ≡ z
branch_once h hs (on_left f e) (on_left g k) = f ∙ sym g
branch_once h hs (on_left f e) (on_right g k) = absurd (one_side h hs e k)
branch_once h hs (on_right f e) (on_left g k) = absurd (one_side h hs k e)
branch_once h hs (on_right f e) (on_right g k) = f ∙ sym g

-- So only a link or a point joins two segments, and a link only at 1.
joint_kind : {n : ℕ} {p : BoxPlan} {y s x : ℕ} → Planned n p → SegmentOf n s → SegmentOf n x → Joint p y s x
    → (1 ≤ y) × (y ≤ p.kind)
joint_kind h hs hx (from_stem e r) = branch_kind h hx r
joint_kind h hs hx (to_stem e r) = branch_kind h hs r

-- One of two segments that a box joins is its stem, so two trains that cross a box share a segment.
pub joint_stem : {p : BoxPlan} {y s x : ℕ} → Joint p y s x → (p.stem ≡ s) ⊎ (p.stem ≡ x)
joint_stem (from_stem e r) = inl e
joint_stem (to_stem e r) = inr e

-- The box at the far end of a segment, as at the near end, is one of the table and lists the segment.
module _ {t : Table} (a : Accepted t) where
  pub far_box_lem : (d s : ℕ) → SegmentOf t.n s → BoxOf t.m (far_box (track_of t) d s)
  far_box_lem d s h = rw far_back ((a.ends s h).box (back d))

  pub far_listed : (d s : ℕ) → SegmentOf t.n s → lists (plan_at t (far_box (track_of t) d s)) s ≡ true
  far_listed d s h = rw far_back (a.listed (back d) s h)

-- Box b with plan p, where codes 7 and 8 find nothing.
module _ {n : ℕ} {track : Track} {b : ℕ} {p : BoxPlan} (plan : Planned n p) (sides : Sides track b p) where
  -- Its stem comes to it by one of its ends.
  stem_end : EndAt track p.stem b
  stem_end =
      let stem = plan.stem in
      sides.ends _ ((lists_iff _ _).1 (inl refl)) (omega arith)

  -- Its stem is no branch of it. So a segment stands at one place of it only.
  pub stem_no_branch : {y s : ℕ} → Branch p y s → p.stem ≢ s
  stem_no_branch {y} {s} r e =
      let stem = plan.stem in
      let d = stem_end.direction in
      let there = stem_end.there in
      sides.opposite y s r (omega arith) d there (ap (near_box track d) (sym e) ∙ there)

  -- The stem is on the other side than a branch: for a train that leaves the box on the branch, the stem lies behind.
  stem_far : (y s d : ℕ) → SegmentOf n s → Branch p y s → near_box track d s ≡ b → far_box track d p.stem ≡ b
  stem_far y s d hs r e =
      ⊎_elim
      (λ f. absurd (sides.opposite y s r (omega arith) d (f ∙ stem_end.there) e))
      (λ f. f ∙ stem_end.there)
      (either_end track _ d stem_end.direction)

  -- The same for a train that comes to the box on the branch.
  stem_near : (y s d : ℕ) → SegmentOf n s → Branch p y s → far_box track d s ≡ b → near_box track d p.stem ≡ b
  stem_near y s d hs r e = near_back track d _ ∙ stem_far y s (back d) hs r (sym (far_back track d s) ∙ e)

  -- One position joins two segments.
  pub joint_once : {y z s x : ℕ} → SegmentOf n s → SegmentOf n x → Joint p y s x → Joint p z s x → y ≡ z
  joint_once hs hx (from_stem e r) (from_stem f q) = branch_once plan hx r q
  joint_once hs hx (from_stem e r) (to_stem f q) = absurd (stem_no_branch q e)
  joint_once hs hx (to_stem e r) (from_stem f q) = absurd (stem_no_branch r f)
  joint_once hs hx (to_stem e r) (to_stem f q) = branch_once plan hs r q

  -- No other position joins two segments than the one for them.
  pub position_only : (y s x : ℕ) → SegmentOf n s → SegmentOf n x → joins p y s x ≡ true → y ≡ position_for p s x
  position_only y s x hs hx j =
      let h = (joins_iff _ y s x).0 j in
      joint_once hs hx h ((joins_iff _ _ s x).0 (joint_position h))

-- A box of an accepted table.
module _ {t : Table} (a : Accepted t) {b : ℕ} (box : BoxOf t.m b) where
  -- Where segment x follows segment s at it, one of them is the stem, and the other a branch.
  pub joint : (d s x : ℕ) → SegmentOf t.n s → SegmentOf t.n x → far_box (track_of t) d s ≡ b → near_box (track_of t) d x ≡ b
      → (y : ℕ) × Joint (plan_at t b) y s x
  joint d s x hs hx e f =
      go
      ((lists_iff _ s).0 (rw e at (far_listed a d s hs)))
      ((lists_iff _ x).0 (rw f at (a.listed d x hx)))
    where
      go : Stands (plan_at t b) s → Stands (plan_at t b) x → (y : ℕ) × Joint (plan_at t b) y s x
      go (inl g) (inl h) = absurd ((a.ends s hs).differ d (cc))
      go (inl g) (inr r) = (r.0, from_stem g r.1)
      go (inr r) (inl g) = (r.0, to_stem g r.1)
      go (inr r) (inr q) =
          let plan = a.plans b box in
          let sides = a.sides b box in
          absurd ((a.ends _ plan.stem).differ d (stem_near plan sides _ s d hs r.1 e ∙ sym (stem_far plan sides _ x d hx q.1 f)))

  -- The position for them joins them.
  pub position_joins : (d s x : ℕ) → SegmentOf t.n s → SegmentOf t.n x → far_box (track_of t) d s ≡ b → near_box (track_of t) d x ≡ b
      → joins (plan_at t b) (position_for (plan_at t b) s x) s x ≡ true
  position_joins d s x hs hx e f = joint_position (joint d s x hs hx e f).1

  -- Where a segment follows another at it, it is no border.
  pub passed_kind : (d s x : ℕ) → SegmentOf t.n s → SegmentOf t.n x → far_box (track_of t) d s ≡ b → near_box (track_of t) d x ≡ b → 1 ≤ (plan_at t b).kind
  passed_kind d s x hs hx e f = omega (arith, joint_kind (a.plans b box) hs hx (joint d s x hs hx e f).1)
