-- What a box does not have for a train it does not have after a grant to another, after an Enter and after a Clear.
use Prim.Native.Nat.{ℕ}
use mathlib.Core.Path.{◌≡◌, refl, sym, ◌∙◌, ap}
use mathlib.Core.Logic.{◌≢◌}
use mathlib.Core.Bool.{true, false, false≢true}
use native.Mathlib.Decide.{ℕ_discrete}
use borrow.Author.Tests.{ne_eqb}
use lib.Dec.{eqb}
use Rattle.rules.specs.declared.BoxPlan.{BoxPlan}
use Rattle.rules.specs.declared.SwitchBox.{SwitchBox}
use Rattle.rules.specs.declared.Holding.{Holding}
use Rattle.rules.specs.declared.Holding.TheVariants.{NextAt, LockAt}
use Rattle.rules.specs.declared.Request.{Request}
use Rattle.rules.specs.declared.Around.{Around}
use Rattle.rules.specs.Line.{request_box, holder_of, set_holder, holding, gives_back, holding_box}
use Rattle.rules.specs.Steps.{stands, given, freed, granted, sensed, released}
use Rattle.rules.proofs.Tests.{cond_each}
use Rattle.rules.proofs.Frames.{holder_own, holder_other}
use Rattle.rules.proofs.StepRows.{granted_each}

-- What a box has for a train hangs on the train's number and its next segment.
pub stands_same : (v w : Around) → w.number ≡ v.number → w.next ≡ v.next → (p : BoxPlan) (x : SwitchBox) (z : Holding)
    → stands w p x z ≡ stands v p x z
unfolding stands
stands_same v w number next p x (NextAt b) = rw (number, next)
stands_same v w number next p x (LockAt b) = rw number

-- A box and a train, v around it, whose number is not that of nobody.
module _ (v : Around) (nobody : eqb 0 v.number ≡ false) (p : BoxPlan) where
  -- A holder is another than the train; the box does not have a holding for the train.
  abbrev Other : ℕ → Type 0
  Other n = eqb n v.number ≡ false

  abbrev Off : SwitchBox → Holding → Type 0
  Off x z = stands v p x z ≡ false

  -- Once segment s is reserved for another or free, it is not the train's, nor is one that was not before.
  set_off : (x : SwitchBox) (s a n : ℕ) → Other a → (n ≢ s → Other (holder_of p x n)) → Other (holder_of p (set_holder p x s a) n)
  set_off x s a n new others =
      elim (ℕ_discrete n s) [
        | yes e ↦ rw e (holder_own p x s a Other nobody new)
        | no m ↦ rw (holder_other p x s a m) (others m)
      ]

  -- What the train gives back is not its own after the box's yes.
  pub returned_off : (x : SwitchBox) (q : Request) → gives_back q ≡ true → Off (granted v p x q) (holding q)
  unfolding stands granted freed
  returned_off x q gives = rw gives (cond_each (λ y. Off y (holding q)) (stands v p x (holding q)) _ _ (λ _. by (holding q)) (λ off. off))
    where
      by : (z : Holding) → Off (freed v p x z) z
      by (NextAt b) = set_off x v.next 0 v.next nobody (λ n. absurd (n refl))
      by (LockAt b) = nobody

  -- What is not the train's at its box is not either once that box has granted a request, but for the train's own for it; once a
  -- train begins to cross the box; and once one has passed it.
  pub granted_off : (x : SwitchBox) (w : Around) (q : Request) (z : Holding) → request_box q ≡ holding_box z
      → (w.number ≡ v.number → holding q ≡ z → gives_back q ≡ true) → Off x z → Off (granted w p x q) z
  unfolding stands given freed set_holder holder_of request_box holding_box
  granted_off x w q z here returns off =
      let (asked, freed) = by (holding q) z here off in
      granted_each (λ y. Off y z) w p x q (λ asks _. asked (λ e about. false≢true (sym asks ∙ returns e about))) (λ _ _. freed) off
    where
      by : (y z : Holding) → holding_box y ≡ holding_box z → Off x z
          → ((w.number ≡ v.number → y ≢ z) → Off (given w p x y) z) × Off (freed w p x y) z
      by (NextAt b) (NextAt c) same off =
          (λ n. set_off x _ _ _ (ne_eqb _ _ (λ e. n e (ap NextAt same))) (λ _. off), set_off x _ 0 _ nobody (λ _. off))
      by (NextAt b) (LockAt c) same off = (λ _. off, off)
      by (LockAt b) (NextAt c) same off = (λ _. off, off)
      by (LockAt b) (LockAt c) same off = (λ n. ne_eqb _ _ (λ e. n e (ap LockAt same)), nobody)

  pub sensed_off : (x : SwitchBox) (z : Holding) → Off x z → Off (sensed x) z
  unfolding stands sensed holder_of
  sensed_off x (NextAt b) off = off
  sensed_off x (LockAt b) off = off

  pub released_off : (x : SwitchBox) (s y : ℕ) (z : Holding) → Off x z → Off (released p x s y) z
  unfolding stands released holder_of set_holder
  released_off x s y (NextAt b) off = set_off (set_holder p x s 0) y 0 _ nobody (λ _. set_off x s 0 _ nobody (λ _. off))
  released_off x s y (LockAt b) off = nobody
