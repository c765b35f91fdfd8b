-- Laws of tests and of rows of codes.
-- `search tests` carries the tests of a program's branches over to the tests of a definition: it follows a definition made of
-- &&, ||, not and cond down to the facts that the branches left.
-- `simp facts` turns what a test says into a fact, or a fact into what a test says.
use Prim.Native.Nat.{ℕ, zero, suc, ◌≤◌, ◌<◌}
use mathlib.Core.Path.{◌≡◌, refl, sym, ◌∙◌, ap}
use mathlib.Core.Logic.{◌⊎◌, inl, inr, ⊎_elim, ◌↔◌, ◌≢◌}
use mathlib.Core.Bool.{Bool, true, false, cond, not, ◌&&◌, ◌||◌, false≢true}
use mathlib.Core.List.{List, [], ◌∷◌, ◌++◌}
use native.Mathlib.Omega.{arith}
use lib.Dec.{eqb, leb, eqb-suc-zero}
use borrow.Author.Tests.{not-false, not-true, lt-ltb, le-ltb, le-leb, lt-leb, leb-true, leb-false, eq-eqb, ne_eqb, eqb-true, eqb-false}
use Rattle.rules.specs.Rows.{Row, ◌if◌, first, outside}

-- What a program answers, as the value of a test.
pub is_true : (b : Bool) → b ≡ true → true ≡ b
is_true b e = sym e

pub is_false : (b : Bool) → b ≡ false → false ≡ b
is_false b e = sym e

-- What a function answered, as the value of the test that it is promised to be.
pub answered : (r b v : Bool) → r ≡ b → r ≡ v → b ≡ v
answered r b v e f = sym e ∙ f

-- Two tests joined by "or".
pub or_left : (a b : Bool) → a ≡ true → (a || b) ≡ true
or_left true b e = refl
or_left false b e = absurd (false≢true e)

pub or_right : (a b : Bool) → b ≡ true → (a || b) ≡ true
or_right true b e = refl
or_right false b e = e

pub or-false : (a b : Bool) → a ≡ false → b ≡ false → (a || b) ≡ false
or-false false b e f = f
or-false true b e f = e

pub or-last : (a b z : Bool) → a ≡ false → z ≡ b → z ≡ (a || b)
or-last false b z e f = f
or-last true b z e f = absurd (false≢true (sym e))

pub or-false-left : (a b : Bool) → (a || b) ≡ false → a ≡ false
or-false-left false b e = refl
or-false-left true b e = absurd (false≢true (sym e))

pub or-false_right : (a b : Bool) → (a || b) ≡ false → b ≡ false
or-false_right false b e = e
or-false_right true b e = absurd (false≢true (sym e))

-- Two tests joined by "and".
pub and-true : (a b : Bool) → a ≡ true → b ≡ true → (a && b) ≡ true
and-true true b e f = f
and-true false b e f = e

pub and_left : (a b : Bool) → a ≡ false → (a && b) ≡ false
and_left false b e = refl
and_left true b e = absurd (false≢true (sym e))

pub and_right : (a b : Bool) → b ≡ false → (a && b) ≡ false
and_right false b e = refl
and_right true b e = e

pub and_last : (a b z : Bool) → a ≡ true → z ≡ b → z ≡ (a && b)
and_last true b z e f = f
and_last false b z e f = absurd (false≢true e)

-- A test turned round.
pub not_of_true : (a : Bool) → a ≡ true → not a ≡ false
not_of_true true e = refl
not_of_true false e = absurd (false≢true e)

pub not_of_false : (a : Bool) → a ≡ false → not a ≡ true
not_of_false false e = refl
not_of_false true e = absurd (false≢true (sym e))

pub not_same : (a b : Bool) → a ≡ b → not a ≡ not b
not_same a b e = ap not e

-- A test that is not passed.
pub not_passed : (b : Bool) → b ≢ true → b ≡ false
not_passed true n = absurd (n refl)
not_passed false n = refl

-- A choice by a test.
module _ {ℓ} {A : Type ℓ} where
  pub cond-first : (b : Bool) (x y z : A) → b ≡ true → z ≡ x → z ≡ cond b x y
  cond-first true x y z e f = f
  cond-first false x y z e f = absurd (false≢true e)

  pub cond_same : (b : Bool) (x : A) → cond b x x ≡ x
  cond_same true x = refl
  cond_same false x = refl

  pub cond_alike : (b : Bool) (x y z : A) → (b ≡ true → x ≡ y) → cond b x z ≡ cond b y z
  cond_alike true x y z h = h refl
  cond_alike false x y z h = refl

  pub cond_each : (P : A → Type 0) (b : Bool) (x y : A) → (b ≡ true → P x) → (b ≡ false → P y) → P (cond b x y)
  cond_each P true x y h k = h refl
  cond_each P false x y h k = k refl

  pub cond_second : (b : Bool) (x y z : A) → b ≡ false → z ≡ y → z ≡ cond b x y
  cond_second false x y z e f = f
  cond_second true x y z e f = absurd (false≢true (sym e))

-- The first row of a list applies, or does not.
pub first_hit : (r : Row) (rows : List Row) (c : ℕ) → r.applies ≡ true → c ≡ r.code → c ≡ first (r ∷ rows)
unfolding first
first_hit r rows c e f = cond-first r.applies r.code (first rows) c e f

pub first_skip : (r : Row) (rows : List Row) (c : ℕ) → r.applies ≡ false → c ≡ first rows → c ≡ first (r ∷ rows)
unfolding first
first_skip r rows c e f = cond_second r.applies r.code (first rows) c e f

-- P holds of the codes of all rows and of 0; so it holds of the code of the list.
unfoldable pub EachCode : (ℕ → Type 0) → List Row → Type 0
EachCode P [] = P 0
EachCode P (r ∷ rows) = P r.code × EachCode P rows

pub each_code : (P : ℕ → Type 0) (rows : List Row) → EachCode P rows → P (first rows)
unfolding EachCode first
each_code P [] h = h
each_code P (r ∷ rows) (here, rest) = cond_each P r.applies r.code (first rows) (λ _. here) (λ _. each_code P rows rest)

-- A row that applies counts whatever rows come after.
kept : (x : Bool) (c : ℕ) {y z : ℕ} → (cond x c y ≡ 0 → ⊥) → ((y ≡ 0 → ⊥) → y ≡ z) → cond x c y ≡ cond x c z
kept true c h f = refl
kept false c h f = f h

pub first-before : (a b : List Row) → (first a ≡ 0 → ⊥) → first a ≡ first (a ++ b)
unfolding first
first-before [] b h = absurd (h refl)
first-before (r ∷ a) b h = kept r.applies r.code h (λ z. first-before a b z)

-- Of two lists of rows none applies where none applies in either.
both : (x : Bool) (c : ℕ) {y z : ℕ} → cond x c y ≡ 0 → (y ≡ 0 → z ≡ 0) → cond x c z ≡ 0
both true c h f = h
both false c h f = f h

pub first_both : (a b : List Row) → first a ≡ 0 → first b ≡ 0 → first (a ++ b) ≡ 0
unfolding first
first_both [] b e f = f
first_both (r ∷ a) b e f = both r.applies r.code e (λ z. first_both a b z f)

pub ruleset tests = (is_true, is_false, or_left, or_right, or-false, or-last, and-true, and_left, and_right, and_last, not_of_true, not_of_false, not_same, cond-first, cond_second, first_hit, first_skip, lt-ltb, le-ltb, le-leb, lt-leb, eq-eqb, ne_eqb, answered)

-- Two tests joined by "or" or "and", as facts; each half of `or-true_iff` may be turned into another fact on the way.
pub or-false_iff : (a b : Bool) → ((a || b) ≡ false) ↔ ((a ≡ false) × (b ≡ false))
or-false_iff a b = (λ e. (or-false-left a b e, or-false_right a b e), λ e. or-false a b e.0 e.1)

pub or-true_iff : (a b : Bool) {P Q : Type 0} → ((a ≡ true) ↔ P) → ((b ≡ true) ↔ Q) → ((a || b) ≡ true) ↔ (P ⊎ Q)
or-true_iff true b p q = (λ e. inl (p.0 refl), λ e. refl)
or-true_iff false b p q = (λ e. inr (q.0 e), ⊎_elim (λ e. absurd (false≢true (p.1 e))) q.1)

pub and-true_iff : (a b : Bool) → ((a && b) ≡ true) ↔ ((a ≡ true) × (b ≡ true))
and-true_iff true b = (λ e. (refl, e), λ e. e.1)
and-true_iff false b = (λ e. absurd (false≢true e), λ e. e.0)

pub and-false_iff : (a b : Bool) → ((a && b) ≡ false) ↔ (a ≡ true → b ≡ false)
and-false_iff true b = (λ e _. e, λ e. e refl)
and-false_iff false b = (λ _ e. absurd (false≢true e), λ _. refl)

-- A test that must be passed where another is.
pub implies_iff : (a b : Bool) → ((not a || b) ≡ true) ↔ (a ≡ true → b ≡ true)
implies_iff true b = (λ e _. e, λ h. h refl)
implies_iff false b = (λ _ e. absurd (false≢true e), λ _. refl)

-- A test turned round, and tests of two numbers.
pub not-false_iff : (a : Bool) → (not a ≡ false) ↔ (a ≡ true)
not-false_iff a = (not-false a, λ e. rw e)

pub not-true_iff : (a : Bool) → (not a ≡ true) ↔ (a ≡ false)
not-true_iff a = (not-true a, λ e. rw e)

pub eqb-true_iff : (a b : ℕ) → (eqb a b ≡ true) ↔ (a ≡ b)
eqb-true_iff a b = (eqb-true a b, eq-eqb a b)

pub eqb-false_iff : (a b : ℕ) → (eqb a b ≡ false) ↔ (a ≢ b)
eqb-false_iff a b = (eqb-false a b, ne_eqb a b)

pub leb-true_iff : (a b : ℕ) → (leb a b ≡ true) ↔ (a ≤ b)
leb-true_iff a b = (leb-true a b, le-leb a b)

pub leb-false_iff : (a b : ℕ) → (leb a b ≡ false) ↔ (b < a)
leb-false_iff a b = (leb-false a b, lt-leb a b)

pub ruleset facts = (or-false_iff, and-true_iff, and-false_iff, not-false_iff, not-true_iff, eqb-true_iff, eqb-false_iff, leb-true_iff, leb-false_iff)

pub outside-false_iff : (n x : ℕ) → (outside n x ≡ false) ↔ ((1 ≤ x) × (x ≤ n))
unfolding outside
outside-false_iff n x = simp facts (omega arith)

-- No row applies, one row at a time: their codes are not 0.
pub first-none : first [] ≡ 0
unfolding first
first-none = refl

pub first_zero_iff : (c : ℕ) (b : Bool) (rows : List Row) → eqb c 0 ≡ false
    → (first (c if b ∷ rows) ≡ 0) ↔ ((b ≡ false) × (first rows ≡ 0))
unfolding first
first_zero_iff c true rows h = (λ e. absurd (eqb-false c 0 h e), λ e. absurd (false≢true (sym e.0)))
first_zero_iff c false rows h = (λ e. (refl, e), λ e. e.1)

-- A row that passes on the code c that a search has found, where it is not 0.
pub first-code_iff : (c : ℕ) (rows : List Row) → (first (c if not (eqb c 0) ∷ rows) ≡ 0) ↔ ((c ≡ 0) × (first rows ≡ 0))
unfolding first
first-code_iff zero rows = (λ e. (refl, e), λ e. e.1)
first-code_iff (suc c) rows = rw (eqb-suc-zero c) (λ e. absurd (omega arith), λ e. e.0)
