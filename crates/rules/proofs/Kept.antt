-- What is kept after an event, and which requests have been granted by it.
use Prim.Native.Nat.{ℕ, ◌≤◌}
use mathlib.Core.Path.{◌≡◌, refl, sym, ◌∙◌, fun_ext}
use mathlib.Core.Logic.{◌≢◌}
use mathlib.Core.Bool.{true, false}
use mathlib.Core.Option.{none, some, Option-elim}
use native.Mathlib.Decide.{ℕ_discrete}
use native.Mathlib.Omega.{arith}
use borrow.Author.Tests.{eq-eqb}
use Rattle.rules.specs.declared.Request.{Request}
use Rattle.rules.specs.declared.Request.TheVariants.{Reserve, Lock, GiveBack, Unlock}
use Rattle.rules.specs.Line.{request_kind}
use Rattle.rules.specs.Steps.{Step}
use Rattle.rules.specs.History.{◌answered◌, accepted}
use Rattle.rules.specs.Atomic.{Kept, is_request, requests, keep, is_granted}
use Rattle.rules.proofs.Tests.{tests}

-- Nothing changes for another train, after a refusal, and after a step that is no request and no answer.
module _ (kept : Kept) (s : Step) (c : ℕ) where
  keep_same : (i : ℕ) → requests i (s answered c) ≡ false → accepted 3 i (s answered c) ≡ false
      → keep kept (s answered c) i ≡ kept i
  unfolding keep
  keep_same i e f = rw (e, f)

  pub keep_other : (i : ℕ) → i ≢ s.train → keep kept (s answered c) i ≡ kept i
  unfolding requests accepted
  keep_other i n = let m : s.train ≢ i = λ e. n (sym e) in keep_same i (search tests) (search tests)

  pub keep_refused : c ≢ 0 → keep kept (s answered c) ≡ kept
  unfolding requests accepted
  keep_refused n = fun_ext λ i. keep_same i (search tests) (search tests)

  pub keep_plain : 4 ≤ s.kind → s.kind ≢ 7 → s.kind ≢ 8 → keep kept (s answered c) ≡ kept
  unfolding requests accepted is_request
  keep_plain low n m =
      let one : s.kind ≢ 1 = omega arith in
      let two : s.kind ≢ 2 = omega arith in
      let three : s.kind ≢ 3 = omega arith in
      fun_ext λ i. keep_same i (search tests) (search tests)

-- A request answered 0 is kept; one that is granted is not, and where nothing was kept nothing changes.
module _ (kept : Kept) (s : Step) where
  pub keep-sent : (q : Request) → s.kind ≡ request_kind q → keep kept (s answered 0) s.train ≡ some s
  unfolding keep requests is_request request_kind
  keep-sent (Reserve b) e = rw (e, eq-eqb s.train s.train refl)
  keep-sent (Lock b) e = rw (e, eq-eqb s.train s.train refl)
  keep-sent (GiveBack b) e = rw (e, eq-eqb s.train s.train refl)
  keep-sent (Unlock b) e = rw (e, eq-eqb s.train s.train refl)

  pub keep-granted : s.kind ≡ 3 → keep kept (s answered 0) s.train ≡ none
  unfolding keep requests is_request accepted
  keep-granted e = rw (e, eq-eqb s.train s.train refl)

  pub keep_again : s.kind ≡ 3 → kept s.train ≡ none → keep kept (s answered 0) ≡ kept
  keep_again e none_kept_lem =
      fun_ext λ i.
      elim (ℕ_discrete i s.train) [
        | yes f ↦ rw f (keep-granted e ∙ sym none_kept_lem)
        | no n ↦ keep_other kept s 0 i n
      ]

-- What is granted by what is kept.
pub granted-none : (kept : Kept) (i : ℕ) → kept i ≡ none → is_granted kept i ≡ true
unfolding is_granted Option-elim
granted-none kept i e = rw e

pub granted_some : (kept : Kept) (i : ℕ) {s : Step} → kept i ≡ some s → is_granted kept i ≡ false
unfolding is_granted Option-elim
granted_some kept i e = rw e

pub granted_other : (kept : Kept) (s : Step) (c : ℕ) (i : ℕ) → i ≢ s.train → is_granted (keep kept (s answered c)) i ≡ is_granted kept i
unfolding is_granted
granted_other kept s c i n = rw (keep_other kept s c i n)
