-- A box stays sound at a grant, an Enter and a Clear, and its answers have its codes.
use Prim.Native.Nat.{ℕ, ◌≤◌}
use mathlib.Core.Path.{◌≡◌, refl, sym}
use mathlib.Core.Bool.{true, false, cond, false≢true}
use mathlib.Core.List.{List}
use native.Mathlib.Omega.{arith}
use lib.Dec.{eqb}
use Rattle.rules.specs.declared.BoxPlan.{BoxPlan}
use Rattle.rules.specs.declared.Table.{Table}
use Rattle.rules.specs.declared.SwitchBox.{SwitchBox}
use Rattle.rules.specs.declared.Holding.{Holding}
use Rattle.rules.specs.declared.Holding.TheVariants.{NextAt, LockAt}
use Rattle.rules.specs.declared.Request.{Request}
use Rattle.rules.specs.declared.Request.TheVariants.{Reserve, Lock, GiveBack, Unlock}
use Rattle.rules.specs.declared.Train.{Train}
use Rattle.rules.specs.Rows.{first}
use Rattle.rules.specs.Track.{plan_at, is_point}
use Rattle.rules.specs.declared.Around.{Around}
use Rattle.rules.specs.Line.{around_on, around_train, request_box, set_holder, holding, gives_back, holding_box}
use Rattle.rules.specs.Steps.{address_rows, addressed, grant_rows, box_rows, lock_given, given, freed, granted, sensed, released}
use Rattle.rules.specs.Record.{answer_code}
use Rattle.rules.proofs.Tests.{cond_each, EachCode, each_code}
use Rattle.rules.proofs.Boxes.{position_fits_lem}
use Rattle.rules.proofs.Sound.{BoxSound}
use Rattle.rules.proofs.StepRows.{address_iff, lock_address_iff, box_each, granted_each}

-- A box's answer has one of its codes.
pub answer-code : (v : Around) (p : BoxPlan) (x : SwitchBox) (q : Request) → answer_code q (first (box_rows v p x q)) ≡ true
unfolding EachCode grant_rows holding gives_back answer_code
answer-code v p x q = box_each (λ c. answer_code q c ≡ true) v p x q (yes q) (λ n _. each_code (λ c. answer_code q c ≡ true) _ (by q n))
  where
    yes : (q : Request) → answer_code q 0 ≡ true
    yes (Reserve b) = refl
    yes (Lock b) = refl
    yes (GiveBack b) = refl
    yes (Unlock b) = refl

    by : (q : Request) → gives_back q ≡ false → EachCode (λ c. answer_code q c ≡ true) (grant_rows v p x (holding q))
    by (Reserve b) n = (refl, (refl, refl))
    by (Lock b) n = (refl, (refl, (refl, refl)))
    by (GiveBack b) n = absurd (false≢true (sym n))
    by (Unlock b) n = absurd (false≢true (sym n))

-- Boxes after a grant, an Enter and a Clear.
module _ {k : ℕ} {p : BoxPlan} {x : SwitchBox} (h : BoxSound k p x) where
  holder_sound : (s i : ℕ) → i ≤ k → BoxSound k p (set_holder p x s i)
  unfolding set_holder
  holder_sound s i low =
      record {
        position = h.position;
        lock = h.lock;
        stem = chosen p.stem h.stem;
        left = chosen p.left h.left;
        right = chosen p.right h.right;
      }
    where
      chosen : (place : ℕ) {y : ℕ} → y ≤ k → cond (eqb s place) i y ≤ k
      chosen place {y} e = cond_each (λ n. n ≤ k) (eqb s place) i y (λ _. low) (λ _. e)

  lock_sound : (v : Around) → v.number ≤ k → is_point p ≡ true → BoxSound k p (lock_given v p x)
  lock_sound v low point =
      record {
        position = position_fits_lem p v.front v.next point;
        lock = low;
        stem = h.stem;
        left = h.left;
        right = h.right;
      }

  freed-sound : (v : Around) (z : Holding) → BoxSound k p (freed v p x z)
  unfolding freed
  freed-sound v (NextAt b) = holder_sound _ 0 (omega arith)
  freed-sound v (LockAt b) = record { position = h.position; lock = omega arith; stem = h.stem; left = h.left; right = h.right }

  pub sensed-sound : BoxSound k p (sensed x)
  unfolding sensed
  sensed-sound = record { position = h.position; lock = h.lock; stem = h.stem; left = h.left; right = h.right }

pub released-sound : {k : ℕ} {p : BoxPlan} {x : SwitchBox} → BoxSound k p x → (s z : ℕ) → BoxSound k p (released p x s z)
unfolding released
released-sound {k} {p} {x} h s z =
    let free : BoxSound k p (record { sensor = false; position = x.position; lock = 0; stem = x.stem; left = x.left; right = x.right })
    = record { position = h.position; lock = omega arith; stem = h.stem; left = h.left; right = h.right } in
    holder_sound (holder_sound free s 0 (omega arith)) z 0 (omega arith)

-- The box that train i's request is made at, after its yes.
module _ (t : Table) (routes : List ℕ) (i : ℕ) (r : Train) {k : ℕ} {x : SwitchBox} (low : i ≤ k) where
  lock_given-sound : (b : ℕ) → BoxSound k (plan_at t b) x → addressed (around_train t routes i r) (LockAt b) ≡ true
      → BoxSound k (plan_at t b) (lock_given (around_train t routes i r) (plan_at t b) x)
  unfolding around_on
  lock_given-sound b h at =
      let (here, point) = (lock_address_iff (around_train t routes i r) b).0 at in
      lock_sound h (around_train t routes i r) low (rw here point)

  given-sound : (q : Request) → BoxSound k (plan_at t (request_box q)) x → addressed (around_train t routes i r) (holding q) ≡ true
      → BoxSound k (plan_at t (request_box q)) (given (around_train t routes i r) (plan_at t (request_box q)) x (holding q))
  unfolding request_box holding_box holding given around_on
  given-sound (Reserve b) h at = holder_sound h _ _ low
  given-sound (Lock b) h at = lock_given-sound b h at
  given-sound (GiveBack b) h at = holder_sound h _ _ low
  given-sound (Unlock b) h at = lock_given-sound b h at

  pub granted-sound : (q : Request) → BoxSound k (plan_at t (request_box q)) x → first (address_rows (around_train t routes i r) r q) ≡ 0
      → BoxSound k (plan_at t (request_box q)) (granted (around_train t routes i r) (plan_at t (request_box q)) x q)
  granted-sound q h e =
      granted_each (BoxSound k (plan_at t (request_box q))) _ _ x q (λ _ _. given-sound q h ((address_iff _ r q).0 e).1)
      (λ _ _. freed-sound h _ (holding q)) h
