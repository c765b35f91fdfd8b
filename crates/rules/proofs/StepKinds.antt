-- What a step does to a line, one case a way of ending. Which rule a step falls under is decided here and nowhere after.
use Prim.Native.Nat.{ℕ, zero, suc, ◌≤◌}
use mathlib.Core.Path.{◌≡◌, refl, sym, ◌∙◌}
use mathlib.Core.Logic.{◌≢◌, ⊎_elim}
use mathlib.Core.Bool.{Bool, true, false, cond}
use mathlib.Core.List.{List}
use lib.Dec.{eqb, eqb-suc-zero}
use native.Mathlib.Omega.{arith}
use borrow.Author.Tests.{eqb-true, eqb-false}
use Rattle.rules.specs.declared.BoxPlan.{BoxPlan}
use Rattle.rules.specs.declared.SwitchBox.{SwitchBox}
use Rattle.rules.specs.declared.Request.{Request}
use Rattle.rules.specs.declared.Request.TheVariants.{Reserve, Lock, GiveBack, Unlock}
use Rattle.rules.specs.declared.Message.{Message}
use Rattle.rules.specs.declared.Message.TheVariants.{Idle, Sent, Answered, Lost}
use Rattle.rules.specs.declared.Train.{Train}
use Rattle.rules.specs.declared.Line.{Line}
use Rattle.rules.specs.Ends.{Effect}
use Rattle.rules.specs.Ends.Effect.{Refused, Changed}
use Rattle.rules.specs.declared.Outcome.{Outcome}
use Rattle.rules.specs.Rows.{Row, first}
use Rattle.rules.specs.Track.{plan_at}
use Rattle.rules.specs.declared.Around.{Around}
use Rattle.rules.specs.Line.{around, box_at, train_at, put_train, request_kind, request_box, message_box, holding, gives_back, holding_box}
use Rattle.rules.specs.Steps.{Step, address_rows, record_rows, apply, unless, sending, send, reply, box_answers, train_hears, lose, send_again, enter, clear, formed, form_rows, step_rows, concerned_box, alone, effect, step, request_rows, box_rows, enter_rows, clear_rows, with_message, with_holding, without_holding, granted, heard, entered, sensed, cleared, released}
use Rattle.rules.specs.Safety.{TrainOf}
use Rattle.rules.specs.Invariant.{Open, sent, answered, lost}
use Rattle.rules.proofs.Tests.{cond_each, EachCode, each_code, outside-false_iff}
use Rattle.rules.proofs.Steps.{formed_iff, step_row_iff}
use Rattle.rules.proofs.Frames.{put, train-alone}

-- A request is of none of the kinds 3 to 6.
pub request_kind_lem : (q : Request) (kind : ℕ) → 3 ≤ kind → kind ≤ 6 → request_kind q ≢ kind
unfolding request_kind
request_kind_lem (Reserve b) kind low high e = omega arith
request_kind_lem (Lock b) kind low high e = omega arith
request_kind_lem (GiveBack b) kind low high e = omega arith
request_kind_lem (Unlock b) kind low high e = omega arith

-- Kind 1, 2, 7 or 8 sends its request.
pub record Sends (l : Line) (s : Step) (q : Request) : Type 0 where
  pub kind : s.kind ≡ request_kind q
  pub box : s.box ≡ request_box q
  pub train : TrainOf l.table s.train
  pub free : first (request_rows (around l s.train) (train_at l s.train) q) ≡ 0

-- Kind 3: the box answers request q with code c.
pub record Answers (l : Line) (s : Step) (q : Request) (c : ℕ) : Type 0 where
  pub kind : s.kind ≡ 3
  pub train : TrainOf l.table s.train
  pub sent : (train_at l s.train).message ≡ Sent q
  pub code : first (box_rows (around l s.train) (plan_at l.table (request_box q)) (box_at l (request_box q)) q) ≡ c

-- Kind 4: the train hears code c in answer to request q.
pub record Hears (l : Line) (s : Step) (q : Request) (c : ℕ) : Type 0 where
  pub kind : s.kind ≡ 4
  pub train : TrainOf l.table s.train
  pub answer : (train_at l s.train).message ≡ Answered q c

-- The message has request q, and no answer to it.
pub data Unanswered (q : Request) : Message → Type 0 where
  sent_again : Unanswered q (Sent q)
  now_lost : Unanswered q (Lost q)

pub unanswered_open : {q : Request} {g : Message} → Unanswered q g → Open q g
unanswered_open sent_again = sent
unanswered_open now_lost = lost

-- Kinds 9 and 10: the open message keeps its request q; it is lost, or under way again.
pub record Retries (l : Line) (s : Step) (q : Request) (g : Message) : Type 0 where
  pub low : 9 ≤ s.kind
  pub high : s.kind ≤ 10
  pub train : TrainOf l.table s.train
  pub waiting : Open q (train_at l s.train).message
  pub next : Unanswered q g

pub record Enters (l : Line) (s : Step) : Type 0 where
  pub kind : s.kind ≡ 5
  pub train : TrainOf l.table s.train
  pub free : first (enter_rows (around l s.train) (train_at l s.train)) ≡ 0

pub record Clears (l : Line) (s : Step) : Type 0 where
  pub kind : s.kind ≡ 6
  pub train : TrainOf l.table s.train
  pub free : first (clear_rows (train_at l s.train)) ≡ 0

-- The line after train i has sent request q, after its message has become g, after its request q is granted, after it has heard code
-- c in answer to q, after it has entered its next segment, and after it has cleared its tail.
abbrev pub after_sending : Line → ℕ → Request → Line
after_sending l i q = put_train l i (sending (around l i) (train_at l i) q)

abbrev pub after_message : Line → ℕ → Message → Line
after_message l i g = put_train l i (with_message (train_at l i) g)

abbrev pub after_grant : Line → ℕ → Request → Line
after_grant l i q =
    put l i (with_message (train_at l i) (Answered q 0)) (request_box q)
    (granted (around l i) (plan_at l.table (request_box q)) (box_at l (request_box q)) q)

abbrev pub after_hearing : Line → ℕ → Request → ℕ → Line
after_hearing l i q c = put_train l i (heard (around l i) (train_at l i) q c)

abbrev pub after_enter : Line → ℕ → Line
after_enter l i = put l i (entered (train_at l i)) (around l i).ahead (sensed (box_at l (around l i).ahead))

abbrev pub after_clear : Line → ℕ → Line
after_clear l i =
    put l i (cleared (train_at l i)) (around l i).passed
    (released (plan_at l.table (around l i).passed) (box_at l (around l i).passed) (around l i).tail (around l i).second)

-- The train with request q carried out: what it asks for is recorded, what it gives back is not. The line after train i's request is
-- granted and carried out, in one.
abbrev pub carried_out : Around → Train → Request → Train
carried_out v r q = cond (gives_back q) (without_holding v r (holding q)) (with_holding v r (holding q))

abbrev pub after_request : Line → ℕ → Request → Line
after_request a i q =
    put a i (carried_out (around a i) (train_at a i) q) (request_box q)
    (granted (around a i) (plan_at a.table (request_box q)) (box_at a (request_box q)) q)

-- What a step does, with its outcome.
pub data Does (l : Line) (s : Step) : Outcome → Type 0 where
  refuses : {c : ℕ} → c ≢ 0 → c ≢ 23 → Does l s (record { code = c; line = l })
  sends : {q : Request} → Sends l s q → Does l s (record { code = 0; line = after_sending l s.train q })
  denies
      : {q : Request} {c : ℕ} → Answers l s q c → c ≢ 0
      → Does l s (record { code = c; line = after_message l s.train (Answered q c) })
  grants : {q : Request} → Answers l s q 0 → Does l s (record { code = 0; line = after_grant l s.train q })
  hears : {q : Request} {c : ℕ} → Hears l s q c → Does l s (record { code = c; line = after_hearing l s.train q c })
  retries : {q : Request} {g : Message} → Retries l s q g → Does l s (record { code = 0; line = after_message l s.train g })
  enters : Enters l s → Does l s (record { code = 0; line = after_enter l s.train })
  clears : Clears l s → Does l s (record { code = 0; line = after_clear l s.train })

-- Code 23 is a box's answer: no row of a train has it, nor row Step.
not_23 : (rows : List Row) → EachCode (λ c. c ≢ 23) rows → first rows ≢ 23
not_23 = each_code (λ c. c ≢ 23)

request_codes : (v : Around) (r : Train) (q : Request) → first (request_rows v r q) ≢ 23
unfolding EachCode request_rows address_rows record_rows
request_codes v r q =
    not_23 (request_rows v r q) (omega arith, (omega arith, (omega arith, (omega arith, (omega arith, omega arith)))))

enter_codes : (v : Around) (r : Train) → first (enter_rows v r) ≢ 23
unfolding EachCode enter_rows
enter_codes v r = not_23 (enter_rows v r) (omega arith, (omega arith, (omega arith, omega arith)))

clear_codes : (r : Train) → first (clear_rows r) ≢ 23
unfolding EachCode clear_rows
clear_codes r = not_23 (clear_rows r) (omega arith, omega arith)

step_codes : (k : ℕ) (s : Step) → first (step_rows k s) ≢ 23
unfolding EachCode step_rows form_rows
step_codes k s = not_23 (step_rows k s) (omega arith, (omega arith, omega arith))

-- The kinds of steps that there are.
data Known : ℕ → Type 0 where
  reserving : Known 1
  locking : Known 2
  answering : Known 3
  hearing : Known 4
  entering : Known 5
  clearing : Known 6
  giving_back : Known 7
  unlocking : Known 8
  losing : Known 9
  repeating : Known 10

known : (kind box : ℕ) → formed kind box ≡ true → Known kind
known kind box h =
    ⊎_elim
    (⊎_elim
    (⊎_elim (λ asks. among kind asks.0 (omega arith)) (λ plain. among kind (omega arith) (omega arith)))
    (λ returns. among kind (omega arith) (omega arith)))
    (λ radio. among kind (omega arith) (omega arith))
    ((formed_iff kind box).0 h)
  where
    among : (kind : ℕ) → 1 ≤ kind → kind ≤ 10 → Known kind
    among zero low high = absurd (omega arith)
    among (suc zero) low high = reserving
    among (suc (suc zero)) low high = locking
    among (suc (suc (suc zero))) low high = answering
    among (suc (suc (suc (suc zero)))) low high = hearing
    among (suc (suc (suc (suc (suc zero))))) low high = entering
    among (suc (suc (suc (suc (suc (suc zero)))))) low high = clearing
    among (suc (suc (suc (suc (suc (suc (suc zero))))))) low high = giving_back
    among (suc (suc (suc (suc (suc (suc (suc (suc zero)))))))) low high = unlocking
    among (suc (suc (suc (suc (suc (suc (suc (suc (suc zero))))))))) low high = losing
    among (suc (suc (suc (suc (suc (suc (suc (suc (suc (suc zero)))))))))) low high = repeating
    among (suc (suc (suc (suc (suc (suc (suc (suc (suc (suc (suc n))))))))))) low high = absurd (omega arith)

-- A step with this effect at box b does one of these.
record EndsIn (l : Line) (s : Step) (b : ℕ) (e : Effect) : Type 0 where
  ends : Does l s (apply l s.train b e)

module _ (l : Line) (s : Step) where
  -- A refusal; an effect on the train alone; one chosen by a test, and one after a row of codes.
  refusal : {b : ℕ} (c : ℕ) → c ≢ 0 → c ≢ 23 → EndsIn l s b (Refused c)
  unfolding apply
  refusal c n other = record { ends = refuses n other }

  changed : (b c : ℕ) (r : Train) → Does l s (record { code = c; line = put_train l s.train r }) → EndsIn l s b (Changed c r (box_at l b))
  unfolding apply
  changed b c r h = record { ends = rw train-alone h }

  both : {b c : ℕ} {r : Train} {x : SwitchBox} → Does l s (record { code = c; line = put l s.train r b x }) → EndsIn l s b (Changed c r x)
  unfolding apply
  both h = record { ends = h }

  either : {b : ℕ} (c : Bool) (e f : Effect) → (c ≡ true → EndsIn l s b e) → (c ≡ false → EndsIn l s b f) → EndsIn l s b (cond c e f)
  either {b} = cond_each (EndsIn l s b)

  unstopped : {b : ℕ} (c : ℕ) (e : Effect) → c ≢ 23 → (c ≡ 0 → EndsIn l s b e) → EndsIn l s b (unless c e)
  unfolding unless
  unstopped c e other f = either (eqb c 0) _ _ (λ z. f (eqb-true c 0 z)) (λ n. refusal c (eqb-false c 0 n) other)

  module _ (train : TrainOf l.table s.train) where
    -- Kinds 1, 2, 7 and 8.
    send_ends : (b : ℕ) (q : Request) → s.kind ≡ request_kind q → s.box ≡ request_box q
        → EndsIn l s b (send (around l s.train) (train_at l s.train) (box_at l b) q)
    unfolding send
    send_ends b q kind box =
        unstopped _ _ (request_codes _ _ q) λ free. changed _ _ _ (sends (record { kind = kind; box = box; train = train; free = free }))

    -- Kind 3: a no leaves the box as it was.
    reply_ends : (q : Request) → s.kind ≡ 3 → (train_at l s.train).message ≡ Sent q
        → EndsIn l s (request_box q)
        (reply (around l s.train) (train_at l s.train) (plan_at l.table (request_box q)) (box_at l (request_box q)) q)
    unfolding reply
    reply_ends q kind asked = go (first (box_rows (around l s.train) p x q)) refl
      where
        p : BoxPlan
        p = plan_at l.table (request_box q)

        x : SwitchBox
        x = box_at l (request_box q)

        go
            : (c : ℕ) → first (box_rows (around l s.train) p x q) ≡ c
            → EndsIn l s (request_box q) (
            Changed c (with_message (train_at l s.train) (Answered q c)) (cond (eqb c 0) (granted (around l s.train) p x q) x))
        go zero code = both (grants (record { kind = kind; train = train; sent = asked; code = code }))
        go (suc c) code =
            rw eqb-suc-zero
            (changed _ _ _ (denies (record { kind = kind; train = train; sent = asked; code = code }) (omega arith)))

    answer_ends : (g : Message) → (train_at l s.train).message ≡ g → s.kind ≡ 3
        → EndsIn l s (message_box g)
        (box_answers (around l s.train) (train_at l s.train) (plan_at l.table (message_box g)) (box_at l (message_box g)) g)
    unfolding box_answers message_box
    answer_ends Idle e kind = refusal 21 (omega arith) (omega arith)
    answer_ends (Sent q) e kind = reply_ends q kind e
    answer_ends (Answered q c) e kind = refusal 21 (omega arith) (omega arith)
    answer_ends (Lost q) e kind = refusal 21 (omega arith) (omega arith)

    -- Kind 4.
    hear_ends : (b : ℕ) (g : Message) → (train_at l s.train).message ≡ g → s.kind ≡ 4
        → EndsIn l s b (train_hears (around l s.train) (train_at l s.train) (box_at l b) g)
    unfolding train_hears
    hear_ends b Idle e kind = refusal 21 (omega arith) (omega arith)
    hear_ends b (Sent q) e kind = refusal 21 (omega arith) (omega arith)
    hear_ends b (Answered q c) e kind = changed _ _ _ (hears (record { kind = kind; train = train; answer = e }))
    hear_ends b (Lost q) e kind = refusal 21 (omega arith) (omega arith)

    -- Kinds 9 and 10.
    retry_ends : (b : ℕ) {q : Request} {g : Message} → Open q (train_at l s.train).message → Unanswered q g → 9 ≤ s.kind → s.kind ≤ 10
        → EndsIn l s b (Changed 0 (with_message (train_at l s.train) g) (box_at l b))
    retry_ends b waiting next low high =
        changed _ _ _ (retries (record { low = low; high = high; train = train; waiting = waiting; next = next }))

    lose_ends : (b : ℕ) (g : Message) → (train_at l s.train).message ≡ g → s.kind ≡ 9
        → EndsIn l s b (lose (train_at l s.train) (box_at l b) g)
    unfolding lose
    lose_ends b Idle e kind = refusal 30 (omega arith) (omega arith)
    lose_ends b (Sent q) e kind = retry_ends b (rw e sent) now_lost (omega arith) (omega arith)
    lose_ends b (Answered q c) e kind = retry_ends b (rw e answered) now_lost (omega arith) (omega arith)
    lose_ends b (Lost q) e kind = refusal 30 (omega arith) (omega arith)

    again_ends : (b : ℕ) (g : Message) → (train_at l s.train).message ≡ g → s.kind ≡ 10
        → EndsIn l s b (send_again (train_at l s.train) (box_at l b) g)
    unfolding send_again
    again_ends b Idle e kind = refusal 30 (omega arith) (omega arith)
    again_ends b (Sent q) e kind = refusal 30 (omega arith) (omega arith)
    again_ends b (Answered q c) e kind = refusal 30 (omega arith) (omega arith)
    again_ends b (Lost q) e kind = retry_ends b (rw e lost) sent_again (omega arith) (omega arith)

    -- Kinds 5 and 6.
    enter_ends : s.kind ≡ 5
        → EndsIn l s (around l s.train).ahead (enter (around l s.train) (train_at l s.train) (box_at l (around l s.train).ahead))
    unfolding enter
    enter_ends kind = unstopped _ _ (enter_codes _ _) λ free. both (enters (record { kind = kind; train = train; free = free }))

    clear_ends : s.kind ≡ 6
        → EndsIn l s (around l s.train).passed
        (clear (around l s.train) (train_at l s.train) (plan_at l.table (around l s.train).passed) (box_at l (around l s.train).passed))
    unfolding clear
    clear_ends kind = unstopped _ _ (clear_codes _) λ free. both (clears (record { kind = kind; train = train; free = free }))

    -- A step that row Step does not stop, by its kind.
    effect_ends : (kind : ℕ) → s.kind ≡ kind → formed kind s.box ≡ true
        → let b = concerned_box kind (around l s.train) (train_at l s.train) in
        EndsIn l s b (effect kind s.box (around l s.train) (train_at l s.train) (plan_at l.table b) (box_at l b))
    unfolding effect alone concerned_box request_kind request_box holding holding_box
    effect_ends kind e h = by kind e (known kind s.box h)
      where
        by : (kind : ℕ) → s.kind ≡ kind → Known kind
            → let b = concerned_box kind (around l s.train) (train_at l s.train) in
            EndsIn l s b (effect kind s.box (around l s.train) (train_at l s.train) (plan_at l.table b) (box_at l b))
        by kind e reserving = send_ends 0 (Reserve s.box) e refl
        by kind e locking = send_ends 0 (Lock s.box) e refl
        by kind e answering = answer_ends _ refl e
        by kind e hearing = hear_ends 0 _ refl e
        by kind e entering = enter_ends e
        by kind e clearing = clear_ends e
        by kind e giving_back = send_ends 0 (GiveBack s.box) e refl
        by kind e unlocking = send_ends 0 (Unlock s.box) e refl
        by kind e losing = lose_ends 0 _ refl e
        by kind e repeating = again_ends 0 _ refl e

  -- Every step does one of these.
  pub does : Does l s (step l s)
  unfolding step
  does =
      (unstopped _ _ (step_codes l.table.k s)
      (λ free.
      let (form, inside) = (step_row_iff l.table.k s).0 free in
      let number = (outside-false_iff _ _).0 inside in
      effect_ends (omega arith) s.kind refl form)
      ).ends

-- Kind 3 with code 0 is a grant.
pub is_grant : {l : Line} {s : Step} {o : Outcome} → Does l s o → s.kind ≡ 3 → o.code ≡ 0
    → (q : Request) × (Answers l s q 0 × (o.line ≡ after_grant l s.train q))
is_grant (refuses n other) kind code = absurd (n code)
is_grant (sends {q} w) kind code = absurd (request_kind_lem q 3 (omega arith) (omega arith) (sym w.kind ∙ kind))
is_grant (denies w n) kind code = absurd (n code)
is_grant (grants {q} w) kind code = (q, (w, refl))
is_grant (hears w) kind code = absurd (omega (arith, w.kind))
is_grant (retries w) kind code = absurd (omega (arith, w.low))
is_grant (enters w) kind code = absurd (omega (arith, w.kind))
is_grant (clears w) kind code = absurd (omega (arith, w.kind))
