-- What an error says of a test, and what a chain finds in two lists.
use Rattle.std.proofs.Common.{◌≡◌, ℕ, ◌+◌, ◌≤◌, ◌<◌, Bool, true, not, eqb, List, Option, length, get_or, sym, refl, arith, ne_eqb}
use Rattle.std.specs.Prelude.{Result, Ok, Err, is_err}
use Rattle.std.specs.Iterator.{ChecksAny}
use Rattle.std.specs.List.{zip}
use Rattle.std.proofs.lemmas.Slice.Zip.{length-zip, get_or-zip}
use Rattle.std.proofs.lemmas.Iterator.{YieldsList}
use denote.Param.Members.{Mut, Called}
use Rattle.rules.specs.declared.errors.FileError.{FileError}
use Rattle.rules.specs.declared.errors.StepError.{StepError}
use Rattle.rules.specs.Ends.{Refusal}
use Rattle.rules.specs.Errors.{refused, step_refused}
use Rattle.rules.proofs.Coded.{file_coded, step_coded}
use Rattle.rules.specs.declared.Train.{Train}
use Rattle.rules.specs.Rows.{nth, any_of, outside}
use Rattle.rules.specs.Track.{Track}
use Rattle.rules.specs.Placing.{route_shape_fault}
use Rattle.rules.specs.Line.{no_train}
use Rattle.rules.specs.Record.{train_fault, trains_fault}
use Rattle.rules.proofs.Tests.{tests}
use Rattle.rules.proofs.Rows.{nth_past, none_found}
use Rattle.network.proofs.Any.{any_numbered}

-- A result that is an error, by what it is promised to say.
module _ {A : Type 0} where
  pub refused_tested : (r : Result A FileError) (x : Refusal) → refused r ≡ x → is_err r ≡ not (eqb x.code 0)
  refused_tested (Ok a) x e = rw (sym e) refl
  refused_tested (Err f) x e = rw (sym e, ne_eqb _ 0 (file_coded f)) refl

  pub step_tested : (r : Result A StepError) (c : ℕ) → step_refused r ≡ c → is_err r ≡ not (eqb c 0)
  step_tested (Ok a) c e = rw (sym e) refl
  step_tested (Err f) c e = rw (sym e, ne_eqb _ 0 (step_coded f)) refl

-- The answer of `any` over two lists side by side, in which the records of a number stand.
pub any_zipped : {S A B C F : Type 0} {steps : S → Option A → S → Type 0} {v : A → B × C} {g : Mut F (A × Unit {0}) Bool} {s : S}
    (test : B × C → Bool) (u : S) (f : F) (r : Bool) (n : ℕ) (p : ℕ → Bool) (xs : List B) (ys : List C) (d : B) (e : C)
    → ChecksAny steps g s f r u → YieldsList steps v s (zip xs ys)
    → ((x : A) (b : Bool) (q : F) → Called g f (x, tt) b q → (q ≡ f) × (b ≡ test (v x)))
    → length xs ≡ n → n ≤ length ys → ((i : ℕ) → i < n → test (get_or xs i d, get_or ys i e) ≡ p (i + 1)) → r ≡ any_of n p
any_zipped test u f r n p xs ys d e ran yields calls size room same =
    any_numbered test u f r n p (d, e) ran yields calls (omega (arith, length-zip xs ys))
    (λ i h. rw (get_or-zip xs ys i (d, e) (omega arith) (omega arith)) (same i h))

-- More trains than there are places: train 17 has no record, and reads as one with a route of length 0, which is at fault.
pub many_trains : (n k : ℕ) (track : Track) (way : ℕ → ℕ) (point : ℕ → Bool) (routes : List ℕ) (trains : List Train)
    → length trains ≡ 16 → 16 < k → true ≡ trains_fault n k track way point routes trains
unfolding trains_fault train_fault route_shape_fault outside
many_trains n k track way point routes trains sized many =
    none_found k (λ i. train_fault n track way point routes i (nth trains i no_train)) 16 many
    (rw (nth_past trains 17 no_train (omega arith)) (search tests))
