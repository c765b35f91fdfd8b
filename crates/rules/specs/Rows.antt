-- Rows of codes in order, tests over numbered records, and lists counted from 1.
use Rattle.std.specs.Prelude.{ℕ, zero, suc, Bool, false, cond, ◌||◌, List, [], ◌∷◌, ◌++◌, eqb, ltb, get_or, set, take, replicate}

infix 70 ◌if◌
-- A code and the condition under which it is given.
pub record Row : Type 0 where
  pub code : ℕ
  pub applies : Bool

abbrev pub ◌if◌ : ℕ → Bool → Row
c if b = record { code = c; applies = b }

-- The first code of a list of rows that applies, or 0.
unfoldable pub first : List Row → ℕ
first [] = 0
first (r ∷ rest) = cond r.applies r.code (first rest)

-- Some number of 1 .. n passes the test.
unfoldable pub any_of : ℕ → (ℕ → Bool) → Bool
any_of zero f = false
any_of (suc n) f = any_of n f || f (suc n)

-- x is 0 or above n.
unfoldable pub outside : ℕ → ℕ → Bool
outside n x = eqb x 0 || ltb n x

module _ {ℓ} {A : Type ℓ} where
  -- The i-th of a list, counted from 1; d where there is none.
  unfoldable pub nth : List A → ℕ → A → A
  nth l zero d = d
  nth l (suc i) d = get_or l i d

  -- The list with its i-th replaced; the list itself where there is none.
  unfoldable pub set_nth : List A → ℕ → A → List A
  set_nth l zero a = l
  set_nth l (suc i) a = set l i a

  -- f i, f (i + 1) and so on, n of them.
  unfoldable pub list_from : ℕ → ℕ → (ℕ → A) → List A
  list_from i zero f = []
  list_from i (suc n) f = f i ∷ list_from (suc i) n f

  -- f 1 .. f n.
  unfoldable pub list_of : ℕ → (ℕ → A) → List A
  list_of n f = list_from 1 n f

  -- The lists f i, f (i + 1) and so on, n of them, one after the other.
  unfoldable pub join_from : ℕ → ℕ → (ℕ → List A) → List A
  join_from i zero f = []
  join_from i (suc n) f = f i ++ join_from (suc i) n f

  -- The lists f 1 .. f n, one after the other.
  unfoldable pub join_of : ℕ → (ℕ → List A) → List A
  join_of n f = join_from 1 n f

  -- The first n of a list, filled up with d where it has fewer.
  unfoldable pub filled : ℕ → A → List A → List A
  filled n d l = take n (l ++ replicate n d)
