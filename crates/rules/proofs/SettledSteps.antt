-- What each step is on the line with messages taken away, the settled one and the atomic one.
use Prim.Native.Nat.{ℕ}
use mathlib.Core.Path.{◌≡◌, refl, sym, ◌∙◌, ap}
use mathlib.Core.Logic.{◌≢◌}
use mathlib.Core.Bool.{Bool, true, false, cond, not, ◌&&◌, ◌||◌, false≢true, and-true as and-all}
use mathlib.Core.List.{List}
use lib.Dec.{eqb}
use Rattle.rules.specs.declared.Table.{Table}
use Rattle.rules.specs.declared.Holding.{Holding}
use Rattle.rules.specs.declared.Holding.TheVariants.{NextAt, LockAt}
use Rattle.rules.specs.declared.Request.{Request}
use Rattle.rules.specs.declared.Message.{Message}
use Rattle.rules.specs.declared.Message.TheVariants.{Idle, Sent, Answered, Lost}
use Rattle.rules.specs.declared.Train.{Train}
use Rattle.rules.specs.declared.Line.{Line}
use Rattle.rules.specs.Rows.{first}
use Rattle.rules.specs.Track.{plan_at}
use Rattle.rules.specs.declared.Around.{Around}
use Rattle.rules.specs.Line.{around_on, around_train, around, box_at, train_at, request_box, holding, gives_back}
use Rattle.rules.specs.Steps.{Step, addressed, recorded, at_end, address_rows, request_rows, box_rows, enter_rows, clear_rows, with_message, granted, sending, heard, entered, cleared}
use Rattle.rules.specs.Safety.{TrainOf}
use Rattle.rules.specs.Invariant.{Granted, Counts, counted, quiet_train, quiet, settling, believing, Open, sent, answered, lost, Invariant}
use Rattle.rules.proofs.Tests.{or_left, and-true, and_right}
use Rattle.rules.proofs.Sound.{open_address}
use Rattle.rules.proofs.Frames.{put}
use Rattle.rules.proofs.StepKinds.{after_sending, after_request, after_message, after_grant, after_hearing, after_enter, after_clear, Sends, Answers, Enters}
use Rattle.rules.proofs.StepRows.{address_iff, request_iff, lock_address_iff, enter_iff}
use Rattle.rules.proofs.Settled.{line-sound, Alike, message_alike, heard-counted, heard_message, idle_quiet, open_quiet, clears_quiet, table-quiet, train-quiet, alike_quiet, around-quiet, box-quiet, put_quiet, same_quiet}

-- The request of an open message is one that 16 and 17 do not stop.
pub addressed_open : {g : Granted} {l : Line} → Invariant g l → (i : ℕ) → TrainOf l.table i → (q : Request) → Open q (train_at l i).message
    → first (address_rows (around l i) (train_at l i) q) ≡ 0
unfolding around
addressed_open h i k q m = open_address ((line-sound h).messages i k) m

-- A train that may enter has recorded all that it may ask for.
pub all_recorded : (v : Around) (r : Train) (h : Holding) → first (enter_rows v r) ≡ 0 → addressed v h ≡ true → recorded v r h ≡ true
unfolding addressed recorded
all_recorded v r h e may =
    let (_, (_, (near, (far, lock)))) = (enter_iff v r).0 e in
    by h near far lock may
  where
    either : (a b x y : Bool) → (a || b) ≡ true → x ≡ true → y ≡ true → ((a && x) || (b && y)) ≡ true
    either true b x y e f g = or_left x (b && y) f
    either false b x y e f g = and-true b y e g

    by : (h : Holding) → r.near ≡ true → r.far ≡ true → (v.point ≡ true → r.lock ≡ true) → addressed v h ≡ true
        → recorded v r h ≡ true
    by (NextAt b) near far lock may = either (eqb b v.near_end) (eqb b v.far_end) r.near r.far may near far
    by (LockAt b) near far lock may = lock ((lock_address_iff v b).0 may).1

-- So a train enters only where it has no message.
pub enter_idle : {g : Granted} {l : Line} {s : Step} → Invariant g l → Enters l s → (train_at l s.train).message ≡ Idle
enter_idle {l = l} {s} h e = go (train_at l s.train).message refl
  where
    closed : (q : Request) → Open q (train_at l s.train).message → ⊥
    closed q m =
        let (_, may) = (address_iff _ _ q).0 (addressed_open h s.train e.train q m) in
        false≢true (
        sym (h.unrecorded s.train e.train q m) ∙ all_recorded (around l s.train) _ (holding q) e.free may)

    go : (g : Message) → (train_at l s.train).message ≡ g → g ≡ Idle
    go Idle m = refl
    go (Sent q) m = absurd (closed q (rw m sent))
    go (Answered q c) m = absurd (closed q (rw m answered))
    go (Lost q) m = absurd (closed q (rw m lost))

-- A train with another message has that message, and the same records; without a message it is as it was if it had none.
pub message_now : (r : Train) (g : Message) → (with_message r g).message ≡ g
unfolding with_message
message_now r g = refl

pub message_recorded : (v : Around) (r : Train) (g : Message) (h : Holding) → recorded v (with_message r g) h ≡ recorded v r h
unfolding recorded with_message
message_recorded v r g (NextAt b) = refl
message_recorded v r g (LockAt b) = refl

pub message_gone : (r : Train) → r.message ≡ Idle → with_message r Idle ≡ r
unfolding with_message
message_gone r e = rw (sym e)

-- A request that is sent can be made again once its message is gone: one for what is not recorded, and a give-back of what is.
pub request-free
    : (t : Table) (routes : List ℕ) (i : ℕ) (r : Train) (q : Request) {x : Train}
    → first (address_rows (around_train t routes i r) r q) ≡ 0 → Alike x r → x.message ≡ Idle
    → recorded (around_train t routes i r) x (holding q) ≡ gives_back q
    → first (request_rows (around_train t routes i r) x q) ≡ 0
unfolding address_rows at_end
request-free t routes i r q {x} e same idle f =
    (request_iff (around_train t routes i r) x q).1 (idle, (rw (same.place, same.length) e, f))

-- With messages taken away, by what counts as recorded:
module _ (n : Counts) (l : Line) (i : ℕ) where
  abbrev r : Train
  r = train_at l i

  abbrev v : Around
  v = around l i

  -- A train without a message, and one with an open message.
  pub idle_train : r.message ≡ Idle → train_at (quiet n l) i ≡ r
  idle_train e = train-quiet n l i ∙ idle_quiet n v r e

  pub open_train : {q : Request} → Open q r.message → train_at (quiet n l) i ≡ counted v r q (n i (gives_back q))
  unfolding around around_on
  open_train o = train-quiet n l i ∙ open_quiet n v r o

  -- Another message with the same request changes nothing, nor does hearing an answer where what was asked for counts as it is heard.
  pub message_quiet : {q : Request} → Open q r.message → {g : Message} → Open q g → quiet n (after_message l i g) ≡ quiet n l
  unfolding counted with_message around around_on
  message_quiet o {g} z =
      same_quiet n n l i (λ _ _ _. refl) (with_message r g) (open_quiet n _ (with_message r g) z ∙ sym (open_quiet n v r o))

  pub hear_quiet : {q : Request} {c : ℕ} → r.message ≡ Answered q c → n i (gives_back q) ≡ (eqb c 0 && not (gives_back q))
      → quiet n (after_hearing l i q c) ≡ quiet n l
  unfolding around around_on
  hear_quiet {q} {c} m e =
      let o : Open q r.message = rw m answered in
      same_quiet n n l i (λ _ _ _. refl) (heard v r q c)
      (idle_quiet n _ _ (heard_message v r q c) ∙ heard-counted v r q c ∙ ap (counted v r q) (sym e) ∙ sym (open_quiet n v r o))

  -- Enter and Clear are there what they are as atomic steps, and no row stops them.
  cleared-train : quiet_train n (around_train l.table l.routes i (cleared r)) (cleared r) ≡ cleared (quiet_train n v r)
  unfolding around around_on cleared
  cleared-train = clears_quiet n v r _ refl refl refl

  pub clear-quiet : quiet n (after_clear l i) ≡ after_clear (quiet n l) i
  unfolding around
  clear-quiet = rw (put_quiet n n l i (λ _ _ _. refl), cleared-train, around-quiet, box-quiet, train-quiet, table-quiet)

  pub clear_free : first (clear_rows r) ≡ 0 → first (clear_rows (train_at (quiet n l) i)) ≡ 0
  unfolding clear_rows
  clear_free e = rw (alike_quiet n l i).covered e

  module _ (idle : r.message ≡ Idle) where
    pub enter-quiet : quiet n (after_enter l i) ≡ after_enter (quiet n l) i
    unfolding entered
    enter-quiet =
        rw (put_quiet n n l i (λ _ _ _. refl), idle_quiet n _ (entered r) idle, around-quiet, box-quiet, idle_train idle)

    pub enter_free : first (enter_rows v r) ≡ 0 → first (enter_rows (around (quiet n l) i) (train_at (quiet n l) i)) ≡ 0
    enter_free e = rw (around-quiet, idle_train idle) e

  -- A box answers as on the line.
  pub same_answer : (q : Request)
      → first (box_rows (around (quiet n l) i) (plan_at (quiet n l).table (request_box q)) (box_at (quiet n l) (request_box q)) q)
      ≡ first (box_rows v (plan_at l.table (request_box q)) (box_at l (request_box q)) q)
  same_answer q = rw (around-quiet, box-quiet, table-quiet)

-- Which requests have been granted is the same of all trains but train i.
abbrev pub SameBut : ℕ → Granted → Granted → Type 0
SameBut i g f = (j : ℕ) → j ≢ i → f j ≡ g j

-- What counts as recorded, by what has been granted: each train's own matters, and what is asked for counts where it is granted.
pub record Way (w : Granted → Counts) : Type 0 where
  pub own : (g f : Granted) (i : ℕ) → f i ≡ g i → (b : Bool) → w f i b ≡ w g i b
  pub asked : (g : Granted) (i : ℕ) → w g i false ≡ g i

pub settles : Way settling
settles = record { own = λ g f i e b. rw e; asked = λ g i. refl }

pub believes : Way believing
believes = record { own = λ g f i e b. rw e; asked = λ g i. refl }

-- So a yes counts as heard on the settled line, and on the atomic one where a give-back is answered with a yes.
pub heard_settles : (gives : Bool) {done c : Bool} → done ≡ c → cond gives false done ≡ (c && not gives)
heard_settles true {c = c} e = sym (and_right c false refl)
heard_settles false {c = c} e = e ∙ sym (and-all c)

pub heard_believes : (gives : Bool) {done c : Bool} → done ≡ c → (gives ≡ true → c ≡ true) → cond gives (not done) done ≡ (c && not gives)
heard_believes true {c = c} e yes_heard = rw (e, yes_heard refl)
heard_believes false {c = c} e yes_heard = e ∙ sym (and-all c)

pub others_count : {w : Granted → Counts} → Way w → {i : ℕ} {g f : Granted} → SameBut i g f → (j : ℕ) → j ≢ i → (b : Bool) → w f j b ≡ w g j b
others_count way {g = g} {f} same j n = way.own g f j (same j n)

-- After a grant, where what has been granted changes from g to f for train i alone, the train has what counts then, and its box has
-- granted it.
pub grant_line : {w : Granted → Counts} → Way w → (l : Line) (i : ℕ) {g f : Granted} → SameBut i g f → (q : Request)
    → quiet (w f) (after_grant l i q)
    ≡ put (quiet (w g) l) i (counted (around l i) (train_at l i) q (w f i (gives_back q))) (request_box q)
    (granted (around l i) (plan_at l.table (request_box q)) (box_at l (request_box q)) q)
unfolding counted with_message around around_on
grant_line {w} way l i {g} {f} same q =
    let r = with_message (train_at l i) (Answered q 0) in
    put_quiet (w g) (w f) l i (others_count way same) r (request_box q) _ ∙ rw (open_quiet (w f) _ r answered)

-- So for the train of a step:
module _ {w : Granted → Counts} (way : Way w) {g f : Granted} {l : Line} {s : Step} (same : SameBut s.train g f) {q : Request} where
  -- A request sent leaves the line as it is.
  pub send-quiet : Sends l s q → gives_back q ≡ false → f s.train ≡ false → quiet (w f) (after_sending l s.train q) ≡ quiet (w g) l
  unfolding sending counted with_message around around_on
  send-quiet z asks new =
      let i = s.train in
      let r = train_at l i in
      let idle = ((request_iff _ _ q).0 z.free).0 in
      rw asks
      (same_quiet (w g) (w f) l i (others_count way same) (with_message r (Sent q))
      (open_quiet (w f) _ (with_message r (Sent q)) sent ∙ rw (asks, way.asked, new) (message_gone r idle ∙ sym (idle_quiet (w g) _ r idle))))

  -- The first grant of what is asked for is there what it is as an atomic step, and no row stops it.
  module _ (z : Answers l s q 0) (asks : gives_back q ≡ false) (new : g s.train ≡ false) where
    pub grant_quiet : f s.train ≡ true → quiet (w f) (after_grant l s.train q) ≡ after_request (quiet (w g) l) s.train q
    unfolding counted
    grant_quiet done =
        rw (grant_line way l s.train same q, around-quiet, box-quiet, open_train (w g) l s.train {q = q} (rw z.sent sent), table-quiet, asks, way.asked f s.train, way.asked g s.train, new, done)

    pub grant_asks : Invariant g l → first (request_rows (around (quiet (w g) l) s.train) (train_at (quiet (w g) l) s.train) q) ≡ 0
    unfolding around counted
    grant_asks h =
        let i = s.train in
        let r = train_at l i in
        let waiting : Open q r.message = rw z.sent sent in
        rw (around-quiet, open_train (w g) l i waiting, asks, way.asked, new)
        (request-free l.table l.routes i r q (addressed_open h i z.train q waiting) (message_alike r Idle) (message_now r Idle)
        (message_recorded _ r Idle (holding q) ∙ h.unrecorded i z.train q waiting ∙ sym asks))
