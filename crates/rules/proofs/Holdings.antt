-- What a train has recorded, where it records a holding and where it drops the record.
use mathlib.Core.Path.{◌≡◌, refl, sym, ◌∙◌}
use mathlib.Core.Logic.{◌≢◌}
use mathlib.Core.Bool.{Bool, true, false, not, ◌&&◌, ◌||◌, false≢true, or-false as or-none}
use lib.Dec.{eqb}
use Rattle.rules.specs.declared.Holding.{Holding}
use Rattle.rules.specs.declared.Holding.TheVariants.{NextAt, LockAt}
use Rattle.rules.specs.declared.Train.{Train}
use Rattle.rules.specs.declared.Around.{Around}
use Rattle.rules.specs.Steps.{addressed, recorded, with_holding, without_holding}
use Rattle.rules.proofs.Tests.{facts, or-false, or-false-left, or-false_right}

-- The record r of one end of next, where `here` says whether a reservation is at that end.
again_dropped : (here r : Bool) → (here && r) ≡ false → (not here && (here || r)) ≡ r
again_dropped true r n = sym n
again_dropped false r n = refl

just_dropped : (here r : Bool) → (here && (not here && r)) ≡ false
just_dropped true r = refl
just_dropped false r = refl

-- The records of both ends, n and f, where a reservation is at one of them.
one_recorded : (near far n f : Bool) → (near || far) ≡ true → ((near && (near || n)) || (far && (far || f))) ≡ true
one_recorded true far n f e = refl
one_recorded false far n f e = rw e

again_recorded : (near far n f : Bool) → (near && far) ≡ false → ((near && n) || (far && f)) ≡ true
    → ((near || (not near && n)) ≡ n) × ((far || (not far && f)) ≡ f)
again_recorded true true n f one e = absurd (false≢true (sym one))
again_recorded true false n f one e = (sym (sym (or-none n) ∙ e), refl)
again_recorded false true n f one e = (refl, sym e)
again_recorded false false n f one e = (refl, refl)

module _ (v : Around) (r : Train) where
  -- What a train records and drops again, where it was not recorded before.
  pub recorded_dropped : (h : Holding) → recorded v r h ≡ false → without_holding v (with_holding v r h) h ≡ r
  unfolding recorded with_holding without_holding
  recorded_dropped (NextAt b) n =
      let near = again_dropped (eqb b v.near_end) r.near (or-false-left _ _ n) in
      let far = again_dropped (eqb b v.far_end) r.far (or-false_right (eqb b v.near_end && r.near) _ n) in
      rw (near, far)
  recorded_dropped (LockAt b) n = rw (sym n)

  -- What it drops and records again, where it was recorded before and the ends of next are at two boxes.
  pub dropped_recorded : (h : Holding) → v.near_end ≢ v.far_end → recorded v r h ≡ true → with_holding v (without_holding v r h) h ≡ r
  unfolding recorded with_holding without_holding
  dropped_recorded (NextAt b) differ e =
      let one : (eqb b v.near_end && eqb b v.far_end) ≡ false = simp facts (λ near far. differ (sym near ∙ far)) in
      let (near, far) = again_recorded (eqb b v.near_end) (eqb b v.far_end) r.near r.far one e in
      rw (near, far)
  dropped_recorded (LockAt b) differ e = rw (sym e)

  -- What it has recorded or dropped.
  pub recorded_now : (h : Holding) → addressed v h ≡ true → recorded v (with_holding v r h) h ≡ true
  unfolding recorded with_holding addressed
  recorded_now (NextAt b) e = one_recorded (eqb b v.near_end) (eqb b v.far_end) r.near r.far e
  recorded_now (LockAt b) e = refl

  pub dropped_now : (h : Holding) → recorded v (without_holding v r h) h ≡ false
  unfolding recorded without_holding
  dropped_now (NextAt b) =
      or-false _ _ (just_dropped (eqb b v.near_end) r.near) (just_dropped (eqb b v.far_end) r.far)
  dropped_now (LockAt b) = refl
