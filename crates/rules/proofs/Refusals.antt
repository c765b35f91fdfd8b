-- Laws of refusals: their codes, codes that are about no place of a route, and what is refused after something else.
use Prim.Native.Nat.{ℕ}
use mathlib.Core.Path.{◌≡◌, refl, sym, ◌∙◌, ap}
use mathlib.Core.Logic.{◌↔◌, ◌≢◌}
use mathlib.Core.Bool.{Bool, true, false}
use mathlib.Core.List.{List, [], ◌∷◌}
use native.Mathlib.Decide.{ℕ_discrete}
use borrow.Author.Tests.{eq-eqb, ne_eqb}
use Rattle.rules.specs.declared.Table.{Table}
use Rattle.rules.specs.Ends.{Refusal}
use Rattle.rules.specs.Rows.{Row, ◌if◌, first}
use Rattle.rules.specs.Placing.{without_place, table_code, tells_place, refusal_by, parts_refusal, table_refusal, refused_then}
use Rattle.rules.specs.File.{file_code, file_refusal}
use Rattle.rules.proofs.Tests.{EachCode, each_code}

-- The three numbers of equal refusals; beside them what else is promised.
module _ {x y : Refusal} (e : x ≡ y) where
  pub code_of : x.code ≡ y.code
  code_of = ap (λ (r : Refusal). r.code) e

  pub train_of : x.train ≡ y.train
  train_of = ap (λ (r : Refusal). r.train) e

  pub place_of : x.place ≡ y.place
  place_of = ap (λ (r : Refusal). r.place) e

  pub numbers : {Else : Type 0} → Else → (x.code ≡ y.code) × ((x.train ≡ y.train) × ((x.place ≡ y.place) × Else))
  numbers rest = (code_of, (train_of, (place_of, rest)))

-- The codes of what refuses a table or a file.
pub table_coded : (t : Table) → (table_refusal t).code ≡ table_code t
unfolding table_refusal parts_refusal refusal_by table_code
table_coded t = refl

pub file_coded : (bytes : List ℕ) → (file_refusal bytes).code ≡ file_code bytes
unfolding file_refusal refusal_by
file_coded bytes = refl

-- Rows whose codes are about no place of a route: so is the code of the list.
pub placeless : (rows : List Row) → EachCode (λ c. tells_place c ≡ false) rows → tells_place (first rows) ≡ false
placeless = each_code (λ c. tells_place c ≡ false)

-- A code that is about no place gives neither train nor place; one that is gives those that the search has found.
pub without_place_lem : (c : ℕ) (r : Refusal) → tells_place c ≡ false → refusal_by c r ≡ without_place c
unfolding refusal_by
without_place_lem c r e = rw e

pub with_place_lem : (r : Refusal) → tells_place r.code ≡ true → refusal_by r.code r ≡ r
unfolding refusal_by
with_place_lem r e = rw e

-- A file that is accepted is not refused.
pub accepted_refusal : (bytes : List ℕ) → file_code bytes ≡ 0 → file_refusal bytes ≡ without_place 0
unfolding file_refusal refusal_by tells_place
accepted_refusal bytes e = rw e

-- Why a table or a file is refused, by its code; x is what a function answered.
module _ (code : ℕ) (found x : Refusal) where
  pub refused_nowhere : (c : ℕ) → x ≡ without_place c → tells_place c ≡ false → c ≡ code → x ≡ refusal_by code found
  refused_nowhere c e p is = e ∙ sym (without_place_lem c found p) ∙ ap (λ (c : ℕ). refusal_by c found) is

  pub refused_there : x ≡ found → tells_place found.code ≡ true → found.code ≡ code → x ≡ refusal_by code found
  refused_there e p is = e ∙ sym (with_place_lem found p) ∙ ap (λ (c : ℕ). refusal_by c found) is

  pub refused_alike : (c : ℕ) → x ≡ refusal_by c found → c ≡ code → x ≡ refusal_by code found
  refused_alike c e is = e ∙ ap (λ (c : ℕ). refusal_by c found) is

-- What is refused after r: as r, where it is a refusal, else by its own rows.
module _ (r : Refusal) (rows : List Row) where
  pub then_refused : r.code ≢ 0 → refused_then r rows ≡ r
  unfolding refused_then
  then_refused h = rw (ne_eqb r.code 0 h)

  pub then_rows : r.code ≡ 0 → refused_then r rows ≡ without_place (first rows)
  unfolding refused_then
  then_rows e = rw (eq-eqb r.code 0 e)

  pub then_zero_iff : ((refused_then r rows).code ≡ 0) ↔ ((r.code ≡ 0) × (first rows ≡ 0))
  then_zero_iff =
      elim (ℕ_discrete r.code 0) [
        | yes e ↦ (λ z. (e, sym (code_of (then_rows e)) ∙ z), λ (_, z). code_of (then_rows e) ∙ z)
        | no h ↦ (λ z. absurd (h (sym (code_of (then_refused h)) ∙ z)), λ (e, _). absurd (h e))
      ]

-- One row after r, which is none: it applies, or does not.
module _ (r : Refusal) (e : r.code ≡ 0) (c : ℕ) (b : Bool) where
  pub then_hit : b ≡ true → refused_then r (c if b ∷ []) ≡ without_place c
  unfolding first
  then_hit h = then_rows r _ e ∙ rw h

  pub then_none : b ≡ false → refused_then r (c if b ∷ []) ≡ without_place 0
  unfolding first
  then_none h = then_rows r _ e ∙ rw h
