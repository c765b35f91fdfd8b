-- A request that was granted is answered yes again, whatever comes between; and however often it is sent, it changes the boxes at most once.
use Prim.Native.Nat.{ℕ}
use mathlib.Core.Path.{◌≡◌, refl, sym, ◌∙◌, ap}
use mathlib.Core.Logic.{◌⊎◌, inl, inr, ⊎_elim}
use mathlib.Core.Bool.{false}
use mathlib.Core.List.{List, [], ◌∷◌}
use mathlib.Core.Option.{none}
use native.Mathlib.Omega.{arith}
use Rattle.rules.specs.declared.Request.{Request}
use Rattle.rules.specs.declared.Message.TheVariants.{Sent}
use Rattle.rules.specs.declared.Line.{Line}
use Rattle.rules.specs.declared.Outcome.{Outcome}
use Rattle.rules.specs.Line.{train_at, put_train}
use Rattle.rules.specs.Steps.{Step, step}
use Rattle.rules.specs.History.{Event, ◌answered◌, accepted, line_after, events}
use Rattle.rules.specs.Atomic.{Kept, requests, keep, kept_by, is_granted}
use Rattle.rules.specs.Safety.{TrainOf}
use Rattle.rules.specs.Invariant.{sent, Invariant}
use Rattle.rules.specs.Consequences.{some_event, answer_step}
use Rattle.rules.proofs.Tests.{or-false_iff, cond_same}
use Rattle.rules.proofs.Steps.{box_says}
use Rattle.rules.proofs.StepKinds.{request_kind_lem, after_grant, Answers, Does, refuses, sends, denies, grants, hears, retries, enters, clears, does, is_grant}
use Rattle.rules.proofs.Kept.{keep-granted, granted-none}
use Rattle.rules.proofs.Again.{again_yes, again_line}
use Rattle.rules.proofs.Keeps.{keeps, keeps_all}
use Rattle.rules.proofs.Moves.{table_stays, tables_stay}

-- Where nothing is kept for train i, nothing is until it makes a request.
none_kept_lem : (kept : Kept) (i : ℕ) (e : Event) → requests i e ≡ false → kept i ≡ none → keep kept e i ≡ none
unfolding keep
none_kept_lem kept i e n k = rw (n, k) (cond_same (accepted 3 i e) none)

none_kept_by : (kept : Kept) (i : ℕ) (es : List Event) → some_event (requests i) es ≡ false → kept i ≡ none → kept_by kept es i ≡ none
unfolding kept_by some_event
none_kept_by kept i [] never k = k
none_kept_by kept i (e ∷ rest) never k =
    let (this, later) = simp or-false_iff at never in
    none_kept_by (keep kept e) i rest later (none_kept_lem kept i e this k)

-- An answer is a grant, or changes no box.
answer-boxes : {l : Line} {i : ℕ} {o : Outcome} → Does l (answer_step i) o
    → ((q : Request) × (Answers l (answer_step i) q 0 × (o ≡ record { code = 0; line = after_grant l i q }))) ⊎ (o.line.boxes ≡ l.boxes)
unfolding put_train
answer-boxes (refuses n other) = inr refl
answer-boxes (sends {q} w) = absurd (request_kind_lem q 3 (omega arith) (omega arith) (sym w.kind))
answer-boxes (denies w n) = inr refl
answer-boxes (grants {q} w) = inl (q, (w, refl))
answer-boxes (hears w) = inr refl
answer-boxes (retries w) = inr refl
answer-boxes (enters w) = absurd (omega (arith, w.kind))
answer-boxes (clears w) = absurd (omega (arith, w.kind))

module _ (kept : Kept) {l : Line} (h : Invariant (is_granted kept) l) (i : ℕ) where
  -- Where nothing is kept for the train, its request has been granted: an answer changes no box, and to a request that is sent it is a yes.
  again_still : kept i ≡ none → (step l (answer_step i)).line.boxes ≡ l.boxes
  unfolding put_train
  again_still nothing =
      ⊎_elim
      (λ (q, (w, o)). rw (o, again_line h w.train {q = q} (rw w.sent sent) (granted-none kept i nothing)) refl)
      (λ same. same)
      (answer-boxes (does l (answer_step i)))

  -- After a grant, and any steps between but another request of the train, nothing is kept for it.
  module _ (between : List Step) where
    abbrev now : Line
    now = (step l (answer_step i)).line

    abbrev kept_now : Kept
    kept_now = keep kept (answer_step i answered (step l (answer_step i)).code)

    abbrev kept_later : Kept
    kept_later = kept_by kept_now (events step now between)

    invariant_later : Invariant (is_granted kept_later) (line_after step now between)
    invariant_later = keeps_all kept_now now (keeps kept l h (answer_step i) _ (does l (answer_step i))) between

    none_later : (step l (answer_step i)).code ≡ 0 → some_event (requests i) (events step now between) ≡ false → kept_later i ≡ none
    none_later code never = none_kept_by kept_now i (events step now between) never (rw code (keep-granted kept (answer_step i) refl))

pub again : (kept : Kept) (l : Line) → Invariant (is_granted kept) l → (i : ℕ) → (step l (answer_step i)).code ≡ 0 → (between : List Step)
    → some_event (requests i) (events step (step l (answer_step i)).line between) ≡ false
    → let later = line_after step (step l (answer_step i)).line between in
    (q : Request) → (train_at later i).message ≡ Sent q
    → ((step later (answer_step i)).code ≡ 0) × ((step later (answer_step i)).line.boxes ≡ later.boxes)
again kept l h i code between never q asked =
    let after = invariant_later kept h i between in
    let nothing = none_later kept h i between code never in
    let (_, (w, _)) = is_grant (does l (answer_step i)) refl code in
    let known : TrainOf (line_after step (step l (answer_step i)).line between).table i
    = rw (tables_stay (step l (answer_step i)).line between, table_stays (does l (answer_step i))) w.train in (
      box_says _ (answer_step i) q refl refl known asked ∙ again_yes after known {q = q} (rw asked sent) (granted-none _ i nothing),
      again_still _ after i nothing,
    )

pub once : (kept : Kept) (l : Line) → Invariant (is_granted kept) l → (i : ℕ) (between : List Step)
    → let now = (step l (answer_step i)).line in
    some_event (requests i) (events step now between) ≡ false
    → let later = line_after step now between in
    (now.boxes ≡ l.boxes) ⊎ ((step later (answer_step i)).line.boxes ≡ later.boxes)
once kept l h i between never =
    ⊎_elim
    (λ (q, (w, o)).
    let code : (step l (answer_step i)).code ≡ 0 = ap (λ (z : Outcome). z.code) o in
    inr (again_still _ (invariant_later kept h i between) i (none_later kept h i between code never)))
    inl
    (answer-boxes (does l (answer_step i)))
