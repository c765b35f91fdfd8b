-- Each step is, on the atomic line, the atomic steps that it adds to the order.
use Prim.Native.Nat.{ℕ, ◌≤◌}
use mathlib.Core.Path.{◌≡◌, refl, sym, ◌∙◌, ap}
use mathlib.Core.Logic.{◌≢◌}
use mathlib.Core.Bool.{Bool, true, false, not, ◌||◌, false≢true}
use mathlib.Core.List.{[], ◌∷◌, Option-to_list}
use mathlib.Core.Option.{Option, none, some}
use native.Mathlib.Omega.{arith}
use borrow.Author.Tests.{eq-eqb, ne_eqb}
use lib.Dec.{eqb}
use Rattle.rules.specs.declared.SwitchBox.{SwitchBox}
use Rattle.rules.specs.declared.Request.{Request}
use Rattle.rules.specs.declared.Request.TheVariants.{Reserve, Lock, GiveBack, Unlock}
use Rattle.rules.specs.declared.Message.{Message}
use Rattle.rules.specs.declared.Train.{Train}
use Rattle.rules.specs.declared.Line.{Line}
use Rattle.rules.specs.declared.Outcome.{Outcome}
use Rattle.rules.specs.Rows.{first}
use Rattle.rules.specs.Track.{plan_at}
use Rattle.rules.specs.Line.{around, box_at, train_at, put_train, put_box, request_kind, request_box, gives_back, holding, holding_box}
use Rattle.rules.specs.Steps.{Step, apply, unless, request_rows, box_rows, enter_rows, clear_rows, with_message, entered, cleared, enter, clear, concerned_box}
use Rattle.rules.specs.History.{◌answered◌, line_after, events}
use Rattle.rules.specs.Atomic.{Kept, is_request, keep, is_granted, added, atomic_request, atomic_step, stopped}
use Rattle.rules.specs.Safety.{TrainOf}
use Rattle.rules.specs.Invariant.{Granted, believing, believed, Open, sent, answered as was_answered, Invariant}
use Rattle.rules.proofs.Tests.{cond_same, first_both}
use Rattle.rules.proofs.Frames.{put, each-train, train-alone}
use Rattle.rules.proofs.StepKinds.{request_kind_lem, Sends, Answers, unanswered_open, after_sending, after_message, after_grant, after_request, after_enter, after_clear, Does, refuses, sends, denies, grants, hears, retries, enters, clears}
use Rattle.rules.proofs.SettledSteps.{enter_idle, message_quiet, hear_quiet, clear-quiet, clear_free, enter-quiet, enter_free, same_answer, SameBut, believes, heard_believes, send-quiet, grant_quiet, grant_asks}
use Rattle.rules.proofs.GivingSteps.{sending_message, send-believed, grant_believed, grant_free}
use Rattle.rules.proofs.Settled.{sized, heard_message}
use Rattle.rules.proofs.Kept.{keep_other, keep_refused, keep_plain, keep-sent, keep-granted, keep_again, granted-none, granted_some, granted_other}
use Rattle.rules.proofs.Again.{again_line, yes_heard}
use Rattle.rules.proofs.StepRows.{not_open, open_same}

-- The step that makes a request of train i.
abbrev request_step : ℕ → Request → Step
request_step i q = record { kind = request_kind q; train = i; box = request_box q }

-- A request of an open message that has not been granted is the one kept for its train.
pub record Remembers (kept : Kept) (l : Line) : Type 0 where
  pub request
      : (i : ℕ) → TrainOf l.table i → (q : Request) → Open q (train_at l i).message → is_granted kept i ≡ false
      → kept i ≡ some (request_step i q)

-- A step with outcome o: the requests that wait for a grant are kept, and what it adds to the order leads from the atomic line to the
-- atomic line after it and is not stopped there. The atomic line is the line as its trains believe it.
pub record Simulates (kept : Kept) (l : Line) (s : Step) (o : Outcome) : Type 0 where
  pub remembers : Remembers (keep kept (s answered o.code)) o.line
  pub line
      : line_after atomic_step (believed (is_granted kept) l) (added kept (s answered o.code))
      ≡ believed (is_granted (keep kept (s answered o.code))) o.line
  pub unstopped : stopped (events atomic_step (believed (is_granted kept) l) (added kept (s answered o.code))) ≡ false

-- What a step adds: nothing after a refusal and after kinds other than 3, 5 and 6.
module _ (kept : Kept) (s : Step) (c : ℕ) where
  added_refused : c ≢ 0 → added kept (s answered c) ≡ []
  unfolding added
  added_refused n = rw (ne_eqb c 0 n)

  added_nothing : s.kind ≢ 3 → s.kind ≢ 5 → s.kind ≢ 6 → added kept (s answered c) ≡ []
  unfolding added
  added_nothing a b d =
      rw (ne_eqb s.kind 3 a, ne_eqb s.kind 5 b, ne_eqb s.kind 6 d) (cond_same (not (eqb c 0)) [])

-- A grant adds the request that is kept, if there is one, and a move adds itself.
module _ (kept : Kept) (s : Step) where
  added_grant : (z : Option Step) → s.kind ≡ 3 → kept s.train ≡ z → added kept (s answered 0) ≡ Option-to_list z
  unfolding added
  added_grant z e k = rw (e, k)

  added_move : (kind : ℕ) → eqb kind 3 ≡ false → (eqb kind 5 || eqb kind 6) ≡ true → s.kind ≡ kind
      → added kept (s answered 0) ≡ s ∷ []
  unfolding added
  added_move kind answer move e = rw (e, answer, move)

-- The atomic steps, where no row stops them.
module _ (a : Line) where
  atomic-request
      : (i : ℕ) (q : Request) → first (request_rows (around a i) (train_at a i) q) ≡ 0
      → first (box_rows (around a i) (plan_at a.table (request_box q)) (box_at a (request_box q)) q) ≡ 0
      → atomic_step a (request_step i q) ≡ record { code = 0; line = after_request a i q }
  unfolding atomic_step atomic_request is_request request_kind request_box holding holding_box apply unless
  atomic-request i (Reserve b) e f = rw (first_both (request_rows (around a i) (train_at a i) (Reserve b)) _ e f)
  atomic-request i (Lock b) e f = rw (first_both (request_rows (around a i) (train_at a i) (Lock b)) _ e f)
  atomic-request i (GiveBack b) e f = rw (first_both (request_rows (around a i) (train_at a i) (GiveBack b)) _ e f)
  atomic-request i (Unlock b) e f = rw (first_both (request_rows (around a i) (train_at a i) (Unlock b)) _ e f)

  atomic-enter
      : (s : Step) → s.kind ≡ 5 → first (enter_rows (around a s.train) (train_at a s.train)) ≡ 0
      → atomic_step a s ≡ record { code = 0; line = after_enter a s.train }
  unfolding atomic_step is_request concerned_box enter apply unless
  atomic-enter s kind e = rw (kind, e)

  atomic-clear
      : (s : Step) → s.kind ≡ 6 → first (clear_rows (train_at a s.train)) ≡ 0
      → atomic_step a s ≡ record { code = 0; line = after_clear a s.train }
  unfolding atomic_step is_request concerned_box clear apply unless
  atomic-clear s kind e = rw (kind, e)

-- The step that makes a request.
same_step : (s : Step) (q : Request) → s.kind ≡ request_kind q → s.box ≡ request_box q → s ≡ request_step s.train q
same_step s q kind box = rw (sym kind, sym box)

module _ (kept : Kept) (l : Line) (h : Invariant (is_granted kept) l) (m : Remembers kept l) (s : Step) where
  abbrev g : Granted
  g = is_granted kept

  -- Where the step's train is put back as r, with a box or alone, requests are kept as they should be if that train's is.
  abbrev KeptFor : ℕ → Train → Type 0
  KeptFor c r =
      (q : Request) → Open q r.message → is_granted (keep kept (s answered c)) s.train ≡ false
      → keep kept (s answered c) s.train ≡ some (request_step s.train q)

  remembers_put : (c : ℕ) (r : Train) (b : ℕ) (x : SwitchBox) → TrainOf l.table s.train → KeptFor c r
      → Remembers (keep kept (s answered c)) (put l s.train r b x)
  unfolding put_train put_box
  remembers_put c r b x k this =
      record {
        request = each-train l s.train r b x
            (λ j x. (q : Request) → Open q x.message → is_granted (keep kept (s answered c)) j ≡ false
            → keep kept (s answered c) j ≡ some (request_step j q))
            (sized h) k this
            (λ j kj n q o new. keep_other kept s c j n ∙ m.request j kj q o (sym (granted_other kept s c j n) ∙ new));
      }

  remembers_train : (c : ℕ) (r : Train) → TrainOf l.table s.train → KeptFor c r
      → Remembers (keep kept (s answered c)) (put_train l s.train r)
  remembers_train c r k this = rw train-alone at (remembers_put c r 0 (box_at l 0) k this)

  -- It is where nothing changes of what is kept, and the train's open request is the one that it was.
  still_kept : (c : ℕ) (r : Train) → keep kept (s answered c) ≡ kept → TrainOf l.table s.train
      → ((q : Request) → Open q r.message → Open q (train_at l s.train).message) → KeptFor c r
  still_kept c r e k same q o = rw e (m.request s.train k q (same q o))

  message_kept : (c : ℕ) {q : Request} {z : Message} → keep kept (s answered c) ≡ kept → TrainOf l.table s.train
      → Open q (train_at l s.train).message → Open q z → KeptFor c (with_message (train_at l s.train) z)
  unfolding with_message
  message_kept c {q} {z} e k waiting now =
      still_kept c (with_message (train_at l s.train) z) e k λ p o. rw (open_same o now) waiting

  -- A step that adds nothing, and one that adds an atomic step that no row stops.
  adds_none
      : {o : Outcome} → Remembers (keep kept (s answered o.code)) o.line → added kept (s answered o.code) ≡ []
      → believed (is_granted (keep kept (s answered o.code))) o.line ≡ believed g l → Simulates kept l s o
  unfolding line_after events stopped
  adds_none r e f = record { remembers = r; line = rw e (sym f); unstopped = rw e }

  adds_one
      : {o : Outcome} {a : Step} {z : Line} → Remembers (keep kept (s answered o.code)) o.line
      → added kept (s answered o.code) ≡ a ∷ [] → atomic_step (believed g l) a ≡ record { code = 0; line = z }
      → believed (is_granted (keep kept (s answered o.code))) o.line ≡ z → Simulates kept l s o
  unfolding line_after events stopped
  adds_one r e f z =
      record {
        remembers = r;
        line = rw e (ap (λ (o : Outcome). o.line) f ∙ sym z);
        unstopped = rw e (ap (λ (o : Outcome). not (eqb o.code 0) || false) f);
      }

  -- A request sent leaves the atomic line as it is; where it is granted first it is carried out there, and no row stops it.
  module _ {f : Granted} (same : SameBut s.train g f) {q : Request} where
    send-line : Sends l s q → f s.train ≡ false → believed f (after_sending l s.train q) ≡ believed g l
    send-line w new = by (gives_back q) refl
      where
        by : (b : Bool) → gives_back q ≡ b → believed f (after_sending l s.train q) ≡ believed g l
        by true gives = send-believed gives same h w new
        by false asks = send-quiet believes same w asks new

    module _ (w : Answers l s q 0) (new : g s.train ≡ false) where
      grant_carried : f s.train ≡ true → believed f (after_grant l s.train q) ≡ after_request (believed g l) s.train q
      grant_carried done = by (gives_back q) refl
        where
          by : (b : Bool) → gives_back q ≡ b → believed f (after_grant l s.train q) ≡ after_request (believed g l) s.train q
          by true gives = grant_believed gives same h w new done
          by false asks = grant_quiet believes same w asks new done

      grant_unstopped : first (request_rows (around (believed g l) s.train) (train_at (believed g l) s.train) q) ≡ 0
      grant_unstopped = by (gives_back q) refl
        where
          by : (b : Bool) → gives_back q ≡ b
              → first (request_rows (around (believed g l) s.train) (train_at (believed g l) s.train) q) ≡ 0
          by true gives = grant_free gives same h w new
          by false asks = grant_asks believes same w asks new h

  -- A message with the same request leaves the atomic line as it is, where nothing changes of what is kept.
  retry : (c : ℕ) {q : Request} {z : Message} → keep kept (s answered c) ≡ kept → added kept (s answered c) ≡ [] → TrainOf l.table s.train
      → Open q (train_at l s.train).message → Open q z
      → Simulates kept l s (record { code = c; line = after_message l s.train z })
  retry c e nothing k waiting now =
      adds_none (remembers_train c _ k (message_kept c e k waiting now)) nothing
      (rw e (message_quiet (believing g) l s.train waiting now))

  pub simulates : (o : Outcome) → Does l s o → Simulates kept l s o
  unfolding Option-to_list entered cleared
  simulates o (refuses {c} n other) =
      let e = keep_refused kept s c n in
      adds_none (rw e m) (added_refused kept s c n) (rw e refl)
  simulates o (sends {q} w) =
      let other : (kind : ℕ) → 3 ≤ kind → kind ≤ 6 → s.kind ≢ kind =
      λ kind low high e. request_kind_lem q kind low high (sym w.kind ∙ e) in
      let sent-kept = keep-sent kept s q w.kind in
      adds_none
      (remembers_train 0 _ w.train λ z o _.
      sent-kept
      ∙ ap some (same_step s q w.kind w.box ∙ ap (request_step s.train) (open_same sent (rw (sending_message _ _ q) at o))))
      (added_nothing kept s 0 (other 3 (omega arith) (omega arith)) (other 5 (omega arith) (omega arith)) (other 6 (omega arith) (omega arith)))
      (send-line (granted_other kept s 0) w (granted_some _ s.train sent-kept))
  simulates o (denies {q} {c} w n) =
      retry c (keep_refused kept s c n) (added_refused kept s c n) w.train (rw w.sent sent) was_answered
  simulates o (grants {q} w) = by (kept s.train) refl
    where
      waiting : Open q (train_at l s.train).message
      waiting = rw w.sent sent

      by : (z : Option Step) → kept s.train ≡ z → Simulates kept l s (record { code = 0; line = after_grant l s.train q })
      by none e =
          rw (again_line h w.train waiting (granted-none kept s.train e))
          (retry 0 (keep_again kept s w.kind e) (added_grant kept s none w.kind e) w.train waiting was_answered)
      by (some z) e =
          let new = granted_some kept s.train e in
          let done = granted-none _ s.train (keep-granted kept s w.kind) in
          let this = m.request s.train w.train q waiting new in
          adds_one
          (remembers_put 0 _ _ _ w.train λ z o ungranted. absurd (false≢true (sym ungranted ∙ done)))
          (added_grant kept s _ w.kind this)
          (atomic-request (believed g l) s.train q (grant_unstopped (granted_other kept s 0) w new) (same_answer (believing g) l s.train q ∙ w.code))
          (grant_carried (granted_other kept s 0) w new done)
  simulates o (hears {q} {c} w) =
      let kind = w.kind in
      let e = keep_plain kept s c (omega arith) (omega arith) (omega arith) in
      let told = h.answers s.train w.train q c w.answer in
      adds_none
      (remembers_train c _ w.train λ z o _. absurd (not_open (heard_message _ _ q c) o))
      (added_nothing kept s c (omega arith) (omega arith) (omega arith))
      (rw e
      (hear_quiet (believing g) l s.train w.answer (heard_believes (gives_back q) told (λ gives. eq-eqb c 0 (yes_heard h w.train w.answer gives)))))
  simulates o (retries {q} w) =
      let low = w.low in
      retry 0 (keep_plain kept s 0 (omega arith) (omega arith) (omega arith)) (added_nothing kept s 0 (omega arith) (omega arith) (omega arith)) w.train
      w.waiting (unanswered_open w.next)
  simulates o (enters w) =
      let kind = w.kind in
      let idle = enter_idle h w in
      let e = keep_plain kept s 0 (omega arith) (omega arith) (omega arith) in
      adds_one
      (remembers_put 0 _ _ _ w.train (still_kept 0 (entered (train_at l s.train)) e w.train (λ q o. o)))
      (added_move kept s 5 refl refl w.kind)
      (atomic-enter (believed g l) s w.kind (enter_free (believing g) l s.train idle w.free))
      (rw e (enter-quiet (believing g) l s.train idle))
  simulates o (clears w) =
      let kind = w.kind in
      let e = keep_plain kept s 0 (omega arith) (omega arith) (omega arith) in
      adds_one
      (remembers_put 0 _ _ _ w.train (still_kept 0 (cleared (train_at l s.train)) e w.train (λ q o. o)))
      (added_move kept s 6 refl refl w.kind)
      (atomic-clear (believed g l) s w.kind (clear_free (believing g) l s.train w.free))
      (rw e (clear-quiet (believing g) l s.train))
