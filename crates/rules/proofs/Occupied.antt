-- No step is answered 23: a point that a train crosses is locked for that train, so that another's request for the lock has 24, which comes
-- first.
use Prim.Native.Nat.{ℕ}
use mathlib.Core.Path.{◌≡◌, refl, sym, ◌∙◌}
use mathlib.Core.Logic.{◌≢◌}
use mathlib.Core.Bool.{Bool, true, false, not, false≢true}
use mathlib.Core.List.{List, [], ◌∷◌}
use native.Mathlib.Omega.{arith}
use borrow.Author.Tests.{not-true}
use lib.Dec.{eqb}
use Rattle.rules.specs.declared.Table.{Table}
use Rattle.rules.specs.declared.SwitchBox.{SwitchBox}
use Rattle.rules.specs.declared.Holding.TheVariants.{NextAt}
use Rattle.rules.specs.declared.Request.{Request}
use Rattle.rules.specs.declared.Request.TheVariants.{Reserve, Lock, GiveBack, Unlock}
use Rattle.rules.specs.declared.Message.{Message}
use Rattle.rules.specs.declared.Message.TheVariants.{Idle, Sent, Answered, Lost}
use Rattle.rules.specs.declared.Train.{Train}
use Rattle.rules.specs.declared.Line.{Line}
use Rattle.rules.specs.declared.Outcome.{Outcome}
use Rattle.rules.specs.Rows.{◌if◌, first}
use Rattle.rules.specs.Track.{plan_at}
use Rattle.rules.specs.Line.{around_on, around, box_at, train_at, put_train, holding, gives_back, holding_box, request_box}
use Rattle.rules.specs.Steps.{Step, another, grant_rows, box_rows, stands, with_message, entered, cleared, step}
use Rattle.rules.specs.History.{◌answered◌, line_after}
use Rattle.rules.specs.Atomic.{Kept, keep, none_kept, is_granted}
use Rattle.rules.specs.Safety.{TrainOf, reached}
use Rattle.rules.specs.Invariant.{Granted, crossed_point, settling, settled, sent, Invariant}
use Rattle.rules.proofs.Tests.{facts, and-true_iff, first_hit, EachCode, each_code}
use Rattle.rules.proofs.Accepted.{Accepted}
use Rattle.rules.proofs.Frames.{put, every_train, train-alone}
use Rattle.rules.proofs.Steps.{box_says}
use Rattle.rules.proofs.StepKinds.{Answers, Unanswered, sent_again, now_lost, Does, refuses, sends, denies, grants, hears, retries, enters, clears, does}
use Rattle.rules.proofs.StepRows.{address_iff, lock_address_iff, box_each}
use Rattle.rules.proofs.Change.{Steady, ahead_uncrossed}
use Rattle.rules.proofs.Start.{start_message, start_invariant}
use Rattle.rules.proofs.Settled.{heard_message, table-quiet, around-quiet, box-quiet}
use Rattle.rules.proofs.SettledSteps.{addressed_open}
use Rattle.rules.proofs.GivingSteps.{sending_message}
use Rattle.rules.proofs.Again.{steady}
use Rattle.rules.proofs.Keeps.{keeps}

-- Where trains and boxes fit together, a point ahead of a train whose sensor is active is locked for another.
sensed-locked : {a : Line} → Steady a → {i : ℕ} → TrainOf a.table i → {b : ℕ} → (box_at a b).sensor ≡ true
    → b ≡ (around a i).ahead → (around a i).point ≡ true → another i (box_at a b).lock ≡ true
unfolding around around_on another
sensed-locked h {i} k {b} active there point =
    let c = h.fitting.sensed_crossed b active in
    let lock = (h.fitting.fits c.train c.known b).locked (crossed_point c.crosses (rw there point)) in
    rw lock (simp facts (omega (arith, c.known.low), λ e. ahead_uncrossed h k (rw e at c.crosses) there))

-- So it is where a train has asked for the lock.
asked-locked : {g : Granted} {l : Line} → Invariant g l → {i : ℕ} → TrainOf l.table i → {b : ℕ} → (train_at l i).message ≡ Sent (Lock b)
    → (box_at l b).sensor ≡ true → another i (box_at l b).lock ≡ true
unfolding holding
asked-locked {g} {l} h {i} k {b} asked active =
    let (next, may) = (address_iff _ _ (Lock b)).0 (addressed_open h i k (Lock b) (rw asked sent)) in
    let (there, point) = (lock_address_iff (around l i) b).0 may in
    let known : TrainOf (settled g l).table i = rw (table-quiet (settling g) l) k in
    rw (box-quiet (settling g)) at
    (sensed-locked (steady h) known {b = b} (rw (box-quiet (settling g)) active) (rw (around-quiet (settling g)) there)
    (rw (around-quiet (settling g)) point))

-- The lock of another is not the train's own.
another_own : (i n : ℕ) → another i n ≡ true → eqb n i ≡ false
unfolding another
another_own i n e = not-true (eqb n i) ((and-true_iff (not (eqb n 0)) _).0 e).1

-- Its box answers with 24.
pub lock_told : {g : Granted} {l : Line} → Invariant g l → (s : Step) (b : ℕ) → s.kind ≡ 3 → s.box ≡ 0 → TrainOf l.table s.train
    → (train_at l s.train).message ≡ Sent (Lock b) → (box_at l b).sensor ≡ true → (step l s).code ≡ 24
unfolding box_rows grant_rows stands holding gives_back request_box holding_box around around_on
lock_told {l = l} h s b kind box k asked active =
    let locked = asked-locked h k asked active in
    box_says l s (Lock b) kind box k asked ∙ rw (another_own s.train (box_at l b).lock locked) (sym (first_hit _ _ 24 locked refl))

-- Rows in which 24 applies wherever 23 does have another code than 23. So no box says 23.
locked-first : (c d e : Bool) → (d ≡ true → c ≡ true) → first (24 if c ∷ 23 if d ∷ 25 if e ∷ []) ≢ 23
unfolding first
locked-first true d e h f = omega arith
locked-first false true e h f = false≢true (h refl)
locked-first false false true h f = omega arith
locked-first false false false h f = omega arith

box-not_23 : {g : Granted} {l : Line} → Invariant g l → {s : Step} {q : Request} {c : ℕ} → Answers l s q c → c ≢ 23
unfolding EachCode grant_rows holding gives_back request_box holding_box around around_on
box-not_23 {l = l} h {s} {q} w code =
    box_each (λ c. c ≢ 23) _ _ _ q (λ e. omega (arith, e)) (λ n _. among q w.sent n) (w.code ∙ code)
  where
    among : (q : Request) → (train_at l s.train).message ≡ Sent q → gives_back q ≡ false
        → first (grant_rows (around l s.train) (plan_at l.table (request_box q)) (box_at l (request_box q)) (holding q)) ≢ 23
    among (Reserve b) asked n =
        each_code (λ c. c ≢ 23) (grant_rows (around l s.train) (plan_at l.table b) (box_at l b) (NextAt b)) (omega arith, (omega arith, omega arith))
    among (Lock b) asked n = locked-first _ _ _ (asked-locked h w.train asked)
    among (GiveBack b) asked n = absurd (false≢true (sym n))
    among (Unlock b) asked n = absurd (false≢true (sym n))

-- The message is no answer 23; no train of the line has such an answer on its way.
Not23 : Message → Type 0
Not23 Idle = Unit {0}
Not23 (Sent q) = Unit {0}
Not23 (Answered q c) = c ≢ 23
Not23 (Lost q) = Unit {0}

unanswered_not_23 : {q : Request} {m : Message} → Unanswered q m → Not23 m
unfolding Not23
unanswered_not_23 sent_again = tt
unanswered_not_23 now_lost = tt

abbrev None23 : Line → Type 0
None23 l = (i : ℕ) → Not23 (train_at l i).message

-- Then no step is answered 23, and no answer 23 is on its way after it.
module _ {g : Granted} {l : Line} (h : Invariant g l) (u : None23 l) (s : Step) where
  step-not_23 : (o : Outcome) → Does l s o → o.code ≢ 23
  unfolding Not23
  step-not_23 o (refuses n other) = other
  step-not_23 o (sends w) = λ e. omega (arith, e)
  step-not_23 o (denies w n) = box-not_23 h w
  step-not_23 o (grants w) = λ e. omega (arith, e)
  step-not_23 o (hears w) = rw w.answer at (u s.train)
  step-not_23 o (retries w) = λ e. omega (arith, e)
  step-not_23 o (enters w) = λ e. omega (arith, e)
  step-not_23 o (clears w) = λ e. omega (arith, e)

  both : (r : Train) (b : ℕ) (x : SwitchBox) → Not23 r.message → None23 (put l s.train r b x)
  both r b x m = every_train l s.train r b x (λ _ y. Not23 y.message) m u

  alone : (r : Train) → Not23 r.message → None23 (put_train l s.train r)
  alone r m = rw (train-alone l s.train r 0) at (both r 0 (box_at l 0) m)

  keeps_none_23 : (o : Outcome) → Does l s o → None23 o.line
  unfolding Not23 with_message entered cleared
  keeps_none_23 o (refuses n other) = u
  keeps_none_23 o (sends {q} w) = alone _ (rw (sending_message _ _ q) tt)
  keeps_none_23 o (denies w n) = alone _ (box-not_23 h w)
  keeps_none_23 o (grants w) = both _ _ _ (λ e. omega (arith, e))
  keeps_none_23 o (hears {q} {c} w) = alone _ (rw (heard_message _ _ q c) tt)
  keeps_none_23 o (retries w) = alone _ (unanswered_not_23 w.next)
  keeps_none_23 o (enters w) = both _ _ _ (u s.train)
  keeps_none_23 o (clears w) = both _ _ _ (u s.train)

-- And so after every list of steps; on a start line no train has a message.
after_steps : (kept : Kept) {l : Line} → Invariant (is_granted kept) l → None23 l → (steps : List Step) (s : Step)
    → (step (line_after step l steps) s).code ≢ 23
unfolding line_after
after_steps kept {l} h u [] s = step-not_23 h u s _ (does l s)
after_steps kept {l} h u (x ∷ rest) s =
    after_steps (keep kept (x answered (step l x).code)) (keeps kept l h x _ (does l x)) (keeps_none_23 h u x _ (does l x)) rest s

pub occupied : {t : Table} → Accepted t → (steps : List Step) (s : Step) → (step (reached t steps) s).code ≢ 23
unfolding Not23
occupied {t} a = after_steps none_kept (start_invariant t a _) (λ i. rw (start_message t a i) tt)
