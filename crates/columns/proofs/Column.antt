-- How a column is filled, and what stands in it. It is not `filled` of `rules`: there is no record 0, and the loop begins at 1.
use Rattle.std.proofs.Common.{ℕ, ◌+◌, ◌≤◌, ◌<◌, ◌≡◌, sym, ◌∙◌, ap, List, arith, length, get_or, set, replicate, length-set, get_or-set_same, get_or-set_other}
use Rattle.std.proofs.Math.Decide.{ℕ_discrete, dec_lt}
use Rattle.std.proofs.Math.ListN.{length-replicate, get_or-eq_default}
use Rattle.std.proofs.Math.Seq.{ext_get_or}
use Rattle.rules.specs.Rows.{list_from}
use Rattle.rules.proofs.Rows.{from-length, from_at, replicate_at}
use Rattle.columns.specs.Column.{column}

-- A list of n that is filled with f 0, f 1 and so on: f 0 to f i stand, and the rest is 0.
pub record Filled (n : ℕ) (f : ℕ → ℕ) (i : ℕ) (l : List ℕ) : Type 0 where
  pub long : length l ≡ n
  pub done : (x : ℕ) → x ≤ i → get_or l x 0 ≡ f x
  pub rest : (x : ℕ) → i < x → get_or l x 0 ≡ 0

module _ (n : ℕ) (f : ℕ → ℕ) where
  pub fill_start : f 0 ≡ 0 → Filled n f 0 (replicate n 0)
  fill_start e =
      record {
        long = length-replicate n 0;
        done = λ x h. let z : x ≡ 0 = omega arith in rw z (replicate_at n 0 0 ∙ sym e);
        rest = λ x h. replicate_at n x 0;
      }

  pub fill_turn : (i a : ℕ) (l : List ℕ) → Filled n f i l → i + 1 < n → a ≡ f (i + 1) → Filled n f (i + 1) (set l (i + 1) a)
  fill_turn i a l h k e =
      record {
        long = length-set l (i + 1) a ∙ h.long;
        done =
            λ x b.
            elim (ℕ_discrete x (i + 1)) [
              | yes z ↦ rw z (get_or-set_same l (i + 1) a 0 (rw h.long k) ∙ e)
              | no z ↦ get_or-set_other l (i + 1) x a 0 z ∙ h.done x (omega arith)
            ];
        rest = λ x b. get_or-set_other l (i + 1) x a 0 (λ z. omega arith) ∙ h.rest x (omega arith);
      }

  pub fill_end : (i : ℕ) (l : List ℕ) → Filled n f i l → ((x : ℕ) → i < x → f x ≡ 0) → l ≡ list_from 0 n f
  fill_end i l h z =
      ext_get_or 0 l (list_from 0 n f) (h.long ∙ sym (from-length f n 0))
      (λ x b. at x ∙ sym (from_at f n 0 x 0 (rw h.long at b) ∙ ap f (omega arith)))
    where
      at : (x : ℕ) → get_or l x 0 ≡ f x
      at x =
          elim (dec_lt i x) [
            | yes b ↦ h.rest x b ∙ sym (z x b)
            | no b ↦ h.done x (omega arith)
          ]

-- How long a column is, and what stands at a place of it.
column-length : (f : ℕ → ℕ) → length (column f) ≡ 256
unfolding column
column-length f = from-length f 256 0

column_at : (f : ℕ → ℕ) (x : ℕ) → x < 256 → get_or (column f) x 0 ≡ f x
unfolding column
column_at f x l = let e : 0 + x ≡ x = omega arith in from_at f 256 0 x 0 l ∙ ap f e

-- The column of a function that is 0 from 256 on agrees with it everywhere.
pub column_all : (f : ℕ → ℕ) → ((x : ℕ) → 256 ≤ x → f x ≡ 0) → (x : ℕ) → get_or (column f) x 0 ≡ f x
column_all f h x =
    elim (dec_lt x 256) [
      | yes l ↦ column_at f x l
      | no l ↦ get_or-eq_default (column f) 0 (omega (arith, column-length f)) ∙ sym (h x (omega arith))
    ]
