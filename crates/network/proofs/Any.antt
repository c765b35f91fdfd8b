-- What `any` answers over records, as a test of the records by number.
use Rattle.std.proofs.Common.{◌≡◌, ℕ, zero, suc, ◌+◌, ◌≤◌, ◌<◌, Bool, ◌||◌, List, length, get_or, take, Option, refl, sym, ap, ◌∙◌, add-one, zero-add, take_all, arith}
use Rattle.std.specs.declared.ops.Range.{Range}
use Rattle.std.specs.Iterator.{ChecksAny}
use Rattle.std.specs.List.{list_any}
use Rattle.std.proofs.lemmas.List.Folds.{list_any_more}
use Rattle.std.proofs.lemmas.List.FromFn.{length-range_with_len, get_or-range_with_len}
use Rattle.std.proofs.lemmas.Iterator.{YieldsList, YieldsList-from_range}
use Rattle.std.proofs.lemmas.Iterator.Search.{any_from_yields_List}
use Rattle.std.proofs.iter.Yields.{nat_range_steps}
use denote.Param.Members.{Mut, Called}
use Rattle.rules.specs.Rows.{any_of}

-- A test of the first n of a list.
pub any_listed : {A : Type 0} (test : A → Bool) (l : List A) (d : A) (f : ℕ → Bool) (n : ℕ) → n ≤ length l
    → ((i : ℕ) → i < n → test (get_or l i d) ≡ f (i + 1)) → list_any test (take n l) ≡ any_of n f
unfolding any_of
any_listed test l d f zero h e = refl
any_listed test l d f (suc n) h e =
    ap (λ k. list_any test (take k l)) (sym (add-one n))
    ∙ list_any_more test l n d (omega arith)
    ∙ (λ j. any_listed test l d f n (omega arith) (λ i k. e i (omega arith)) j || (e n (omega arith) ∙ ap f (add-one n)) j)

-- The answer of `any` over an iterator that yields the records of numbers 1 to n.
pub any_numbered : {S A B F : Type 0} {steps : S → Option A → S → Type 0} {v : A → B} {g : Mut F (A × Unit {0}) Bool} {s : S} {all : List B}
    (test : B → Bool) (u : S) (f : F) (r : Bool) (n : ℕ) (p : ℕ → Bool) (d : B) → ChecksAny steps g s f r u → YieldsList steps v s all
    → ((x : A) (b : Bool) (q : F) → Called g f (x, tt) b q → (q ≡ f) × (b ≡ test (v x)))
    → length all ≡ n → ((i : ℕ) → i < n → test (get_or all i d) ≡ p (i + 1)) → r ≡ any_of n p
any_numbered {all = all} test u f r n p d ran yields calls size same =
    any_from_yields_List test u f r ran yields calls ∙ rw (take_all n all (omega arith)) at (any_listed test all d p n (omega arith) same)

-- The same of `(0..n).any(..)`, where the closure tests the record of each index.
pub any_indexed : {F : Type 0} {g : Mut F (ℕ × Unit {0}) Bool} {s u : Range ℕ} {f : F} {r : Bool} (p : ℕ → Bool) (n : ℕ)
    → ChecksAny nat_range_steps g s f r u → s ≡ record { start = 0; end = n }
    → ((i : ℕ) (b : Bool) (q : F) → Called g f (i, tt) b q → (q ≡ f) × (b ≡ p (i + 1))) → r ≡ any_of n p
any_indexed p n ran is calls =
    any_numbered (λ i. p (i + 1)) _ _ _ n p 0 ran (YieldsList-from_range 0 n n is (omega arith)) calls (length-range_with_len 0 n)
    (λ i h. ap (λ k. p (k + 1)) (get_or-range_with_len 0 n i 0 h ∙ zero-add i))
