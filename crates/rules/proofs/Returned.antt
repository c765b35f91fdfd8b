-- What a train has given back, and the box has answered, is not the train's until it asks for it again.
use Prim.Native.Nat.{ℕ}
use mathlib.Core.Path.{◌≡◌, refl, sym, ◌∙◌}
use mathlib.Core.Bool.{true, false, false≢true}
use mathlib.Core.List.{List, [], ◌∷◌}
use native.Mathlib.Omega.{arith}
use borrow.Author.Tests.{ne_eqb}
use lib.Dec.{eqb}
use Rattle.rules.specs.declared.SwitchBox.{SwitchBox}
use Rattle.rules.specs.declared.Holding.{Holding}
use Rattle.rules.specs.declared.Holding.TheVariants.{NextAt, LockAt}
use Rattle.rules.specs.declared.Request.{Request}
use Rattle.rules.specs.declared.Request.TheVariants.{Reserve, Lock, GiveBack, Unlock}
use Rattle.rules.specs.declared.Message.{Message}
use Rattle.rules.specs.declared.Message.TheVariants.{Sent, Answered}
use Rattle.rules.specs.declared.Train.{Train}
use Rattle.rules.specs.declared.Line.{Line}
use Rattle.rules.specs.declared.Outcome.{Outcome}
use Rattle.rules.specs.Track.{plan_at}
use Rattle.rules.specs.Line.{request_kind, request_box, around_on, around_train, around, box_at, train_at, put_train, put_box, holding, gives_back, holding_box}
use Rattle.rules.specs.Steps.{Step, addressed, stands, sending, with_message, cleared, step}
use Rattle.rules.specs.History.{◌answered◌, accepted, line_after, events}
use Rattle.rules.specs.Atomic.{Kept, keep, is_granted}
use Rattle.rules.specs.Invariant.{Granted, settling, held_for, Open, sent, answered as was_answered, Invariant}
use Rattle.rules.specs.Consequences.{asks_for, some_event}
use Rattle.rules.proofs.Tests.{facts, or-false_iff}
use Rattle.rules.proofs.Frames.{put, box_put, every_train, every_box, train-alone}
use Rattle.rules.proofs.StepKinds.{after_grant, Answers, unanswered_open, Enters, Does, refuses, sends, denies, grants, hears, retries, enters, clears, does, is_grant}
use Rattle.rules.proofs.StepRows.{address_iff, not_open, open_same}
use Rattle.rules.proofs.Settled.{line-sound, sized, Alike, message_alike, sending_alike, heard_alike, heard_message, table-quiet, around-quiet}
use Rattle.rules.proofs.SettledSteps.{addressed_open, all_recorded, enter_idle, idle_train}
use Rattle.rules.proofs.Requesting.{request_box_lem as box-asked}
use Rattle.rules.proofs.Again.{steady, recorded-held, held-quiet}
use Rattle.rules.proofs.Unheld.{stands_same, returned_off, granted_off, sensed_off, released_off}
use Rattle.rules.proofs.Keeps.{keeps}

-- A train that may enter holds all that it may ask for.
enter-held : {g : Granted} {l : Line} → Invariant g l → {s : Step} → Enters l s → (z : Holding) → addressed (around l s.train) z ≡ true
    → held_for l s.train z ≡ true
enter-held {g} {l} h {s} w z may =
    let n = settling g in
    sym (held-quiet n l s.train z)
    ∙ recorded-held (steady h) (rw (table-quiet n l) w.train) z (rw around-quiet may)
    (rw (around-quiet, idle_train n l s.train (enter_idle h w)) (all_recorded _ _ z w.free may))

-- An accepted request that does not ask for what it is about gives it back.
unasked : (s : Step) (i : ℕ) (q : Request) → s.kind ≡ request_kind q → s.train ≡ i → s.box ≡ request_box q
    → asks_for i (holding q) (s answered 0) ≡ false → gives_back q ≡ true
unfolding gives_back request_kind request_box holding_box holding asks_for accepted
unasked s i (Reserve b) kind train box none = absurd (false≢true (sym none ∙ simp facts (((kind, train), refl), box)))
unasked s i (Lock b) kind train box none = absurd (false≢true (sym none ∙ simp facts (((kind, train), refl), box)))
unasked s i (GiveBack b) kind train box none = refl
unasked s i (Unlock b) kind train box none = refl

-- The request of an open message gives z back, if it is about z.
abbrev Returns : Message → Holding → Type 0
Returns m z = (q : Request) → Open q m → holding q ≡ z → gives_back q ≡ true

-- Train i may ask for holding z, no request of it for z is open, and z is not its own.
record Gone (l : Line) (i : ℕ) (z : Holding) : Type 0 where
  somebody : eqb 0 i ≡ false
  at : addressed (around l i) z ≡ true
  returns : Returns (train_at l i).message z
  unheld : held_for l i z ≡ false

-- Train j has become r: at the same place, and not asking for z.
record Stays (l : Line) (z : Holding) (j : ℕ) (r : Train) : Type 0 where
  direction : r.direction ≡ (train_at l j).direction
  place : r.place ≡ (train_at l j).place
  returns : Returns r.message z

alike_stays : {l : Line} {z : Holding} {j : ℕ} {r : Train} → Alike r (train_at l j) → Returns r.message z → Stays l z j r
alike_stays e returns = record { direction = e.direction; place = e.place; returns = returns }

-- It may ask for what it might ask for before.
same_address : (l : Line) (i : ℕ) (r : Train) (z : Holding) → Stays l z i r
    → addressed (around_train l.table l.routes i r) z ≡ addressed (around l i) z
unfolding addressed around around_on
same_address l i r (NextAt b) e = rw (e.direction, e.place)
same_address l i r (LockAt b) e = rw (e.direction, e.place)

-- A train j and a box are put back: j is at its place and does not ask for z, if it is train i, and the box of z does not have it for i.
put-gone
    : (l : Line) (i : ℕ) (z : Holding) (j : ℕ) (r : Train) (b : ℕ) (x : SwitchBox) → eqb 0 i ≡ false
    → addressed (around l i) z ≡ true → Returns (train_at l i).message z → (j ≡ i → Stays l z j r)
    → stands (around l i) (plan_at l.table (holding_box z)) (box_at (put l j r b x) (holding_box z)) z ≡ false
    → Gone (put l j r b x) i z
unfolding around around_on held_for put_train put_box
put-gone l i z j r b x somebody at returns this off =
    let same : (j : ℕ) → j ≡ i → Stays l z j (train_at l j) = λ j e. record { direction = refl; place = refl; returns = rw e returns } in
    let now = every_train l j r b x (λ j y. j ≡ i → Stays l z j y) this same i refl in
    record {
      somebody = somebody;
      at = same_address l i _ z now ∙ at;
      returns = now.returns;
      unheld = stands_same (around l i) _ refl (rw now.place) _ _ z ∙ off;
    }

-- The box has answered a train's give-back.
grant_gone : {g : Granted} {l : Line} → Invariant g l → {s : Step} {q : Request} {c : ℕ} → Answers l s q c → gives_back q ≡ true
    → Gone (after_grant l s.train q) s.train (holding q)
unfolding around around_on with_message request_box
grant_gone {l = l} h {s} {q} w gives =
    let i = s.train in
    let waiting : Open q (train_at l i).message = rw w.sent sent in
    let address = addressed_open h i w.train q waiting in
    let box = box-asked (line-sound h).table ((line-sound h).trains i w.train) q address in
    let somebody = ne_eqb 0 i (λ e. omega (arith, w.train.low, e)) in
    put-gone l i (holding q) i _ (request_box q) _ somebody ((address_iff _ _ q).0 address).1 (λ z o _. rw (open_same o waiting) gives)
    (λ _. alike_stays (message_alike _ _) (λ z o _. rw (open_same {g = Answered q 0} o was_answered) gives))
    (rw (box_put l i _ (request_box q) _ (sized h) box) (returned_off (around l i) somebody _ _ q gives))

-- Holding z is not train i's before a step that does not ask for it: nor is it after.
module _ {granted : Granted} {l : Line} (h : Invariant granted l) {i : ℕ} {z : Holding} (g : Gone l i z) (s : Step) where
  -- At box b, if z is held there, it is not train i's.
  abbrev Free : ℕ → SwitchBox → Type 0
  Free b x = b ≡ holding_box z → stands (around l i) (plan_at l.table b) x z ≡ false

  free : (b : ℕ) → Free b (box_at l b)
  unfolding held_for
  free b e = rw e g.unheld

  -- The step's train is put back with a box, or alone.
  both : (r : Train) (b : ℕ) (x : SwitchBox) → (s.train ≡ i → Stays l z s.train r) → Free b x → Gone (put l s.train r b x) i z
  both r b x this here =
      put-gone l i z s.train r b x g.somebody g.at g.returns this (every_box l s.train r b x Free here free (holding_box z) refl)

  alone : (r : Train) → (s.train ≡ i → Stays l z s.train r) → Gone (put_train l s.train r) i z
  alone r this = rw (train-alone l s.train r 0) at (both r 0 (box_at l 0) this (free 0))

  -- Its train has another message with the same request.
  message_stays : {q : Request} {m : Message} → Open q (train_at l s.train).message → Open q m → s.train ≡ i
      → Stays l z s.train (with_message (train_at l s.train) m)
  unfolding with_message
  message_stays {q} {m} waiting now e =
      alike_stays (message_alike _ m) λ p o. rw (open_same o now) (g.returns q (rw e at waiting))

  keeps_gone : (o : Outcome) → Does l s o → asks_for i z (s answered o.code) ≡ false → Gone o.line i z
  unfolding sending with_message cleared around around_on
  keeps_gone o (refuses n other) unasked-for = g
  keeps_gone o (sends {q} w) unasked-for =
      alone _ λ e. alike_stays (sending_alike _ _ q) λ p o. rw (open_same o sent) (λ about. unasked s i q w.kind e w.box (rw about unasked-for))
  keeps_gone o (denies w n) unasked-for = alone _ (message_stays (rw w.sent sent) was_answered)
  keeps_gone o (grants {q} w) unasked-for =
      let waiting : Open q (train_at l s.train).message = rw w.sent sent in
      both _ _ _ (message_stays waiting was_answered)
      (λ here. granted_off (around l i) g.somebody _ _ (around l s.train) q z here (λ e. g.returns q (rw e at waiting)) (free _ here))
  keeps_gone o (hears {q} {c} w) unasked-for =
      alone _ λ _. alike_stays (heard_alike _ _ q c) (λ p o. absurd (not_open (heard_message _ _ q c) o))
  keeps_gone o (retries w) unasked-for = alone _ (message_stays w.waiting (unanswered_open w.next))
  keeps_gone o (enters w) unasked-for =
      both _ _ _ (λ e. absurd (false≢true (sym g.unheld ∙ rw (← e) (enter-held h w z (rw e g.at)))))
      (λ here. sensed_off (around l i) g.somebody _ _ z (free _ here))
  keeps_gone o (clears w) unasked-for =
      both _ _ _ (λ e. record { direction = refl; place = refl; returns = rw e g.returns })
      (λ here. released_off (around l i) g.somebody _ _ _ _ z (free _ here))

-- And so after every list of steps that does not ask for it.
stays_gone : (kept : Kept) {l : Line} → Invariant (is_granted kept) l → {i : ℕ} {z : Holding} → Gone l i z → (more : List Step)
    → some_event (asks_for i z) (events step l more) ≡ false → held_for (line_after step l more) i z ≡ false
unfolding line_after events some_event
stays_gone kept h g [] never = g.unheld
stays_gone kept {l} h g (s ∷ rest) never =
    let (this, later) = simp or-false_iff at never in
    stays_gone (keep kept (s answered (step l s).code)) (keeps kept l h s _ (does l s)) (keeps_gone h g s _ (does l s) this) rest later

pub returned : (kept : Kept) {l : Line} → Invariant (is_granted kept) l → (s : Step) (q : Request) → s.kind ≡ 3 → (step l s).code ≡ 0
    → (train_at l s.train).message ≡ Sent q → gives_back q ≡ true → (more : List Step)
    → some_event (asks_for s.train (holding q)) (events step (step l s).line more) ≡ false
    → held_for (line_after step (step l s).line more) s.train (holding q) ≡ false
returned kept {l} h s y kind code e gives more =
    let (q, (w, line)) = is_grant (does l s) kind code in
    let same : y ≡ q = open_same {g = (train_at l s.train).message} (rw e sent) (rw w.sent sent) in
    stays_gone _ (keeps kept l h s _ (does l s)) (rw (line, same) (grant_gone h w (rw same at gives))) more
