-- Every step keeps the invariant.
use Prim.Native.Nat.{ℕ, ◌-◌}
use mathlib.Core.Path.{◌≡◌, refl, sym, ◌∙◌, ap}
use mathlib.Core.Logic.{◌≢◌}
use mathlib.Core.Bool.{Bool, true, false, false≢true}
use mathlib.Core.List.{List, [], ◌∷◌}
use mathlib.Core.Option.{Option, none, some}
use borrow.Author.Tests.{ne_eqb}
use lib.Dec.{eqb}
use native.Mathlib.Omega.{arith}
use Rattle.rules.specs.declared.Table.{Table}
use Rattle.rules.specs.declared.SwitchBox.{SwitchBox}
use Rattle.rules.specs.declared.Holding.{Holding}
use Rattle.rules.specs.declared.Request.{Request}
use Rattle.rules.specs.declared.Message.{Message}
use Rattle.rules.specs.declared.Message.TheVariants.{Idle, Sent, Answered, Lost}
use Rattle.rules.specs.declared.Train.{Train}
use Rattle.rules.specs.declared.Line.{Line}
use Rattle.rules.specs.declared.Outcome.{Outcome}
use Rattle.rules.specs.Rows.{first}
use Rattle.rules.specs.Track.{plan_at}
use Rattle.rules.specs.declared.Around.{Around}
use Rattle.rules.specs.Line.{around_on, around_train, around, box_at, train_at, put_train, put_box, request_box, holding, gives_back, holding_box}
use Rattle.rules.specs.Steps.{Step, stands, with_message, recorded, address_rows, sending, entered, cleared, step}
use Rattle.rules.specs.Record.{answer_code}
use Rattle.rules.specs.History.{◌answered◌, line_after, events}
use Rattle.rules.specs.Safety.{TrainOf}
use Rattle.rules.specs.Atomic.{Kept, keep, kept_by, is_granted}
use Rattle.rules.specs.Invariant.{Granted, counted, settling, settled, held_for, Fitting, Open, sent, answered as was_answered, Invariant}
use Rattle.rules.proofs.Accepted.{BoxOf}
use Rattle.rules.proofs.Frames.{put, set-length, each-train, each-box, every_box, box_put, train-alone}
use Rattle.rules.proofs.Sound.{Placed, BoxSound, MessageSound, silent, on_its_way, answering, missing, sound_iff, open_address}
use Rattle.rules.proofs.SoundBoxes.{answer-code, granted-sound, sensed-sound, released-sound}
use Rattle.rules.proofs.StepKinds.{after_sending, after_message, after_grant, after_hearing, after_enter, after_clear, Sends, Answers, Hears, Unanswered, sent_again, now_lost, unanswered_open, Retries, Enters, Clears, Does, refuses, sends, denies, grants, hears, retries, enters, clears, does}
use Rattle.rules.proofs.StepRows.{showing, address_same, recorded_same, not_open, not-answered, answered-not-lost, same_code, open_same, request_iff, enter_iff, clear_iff}
use Rattle.rules.proofs.Settled.{line-sound, sized, around_alike, address_alike, message_alike, sending_alike, heard_alike, heard_message, table-quiet, alike_quiet, around-quiet}
use Rattle.rules.proofs.Kept.{keep_refused, keep_plain, keep-sent, keep-granted, keep_again, granted-none, granted_some, granted_other}
use Rattle.rules.proofs.SettledSteps.{addressed_open, enter_idle, message_recorded, open_train, message_quiet, hear_quiet, clear-quiet, clear_free, enter-quiet, enter_free, same_answer, SameBut, settles, heard_settles, send-quiet, grant_quiet}
use Rattle.rules.proofs.GivingSteps.{sending_unrecorded, sending_message, send-settled, grant_settled}
use Rattle.rules.proofs.Again.{placed_alike, steady, again_line, denied_new}
use Rattle.rules.proofs.Unheld.{stands_same, returned_off, granted_off, sensed_off, released_off}
use Rattle.rules.proofs.Change.{ahead-box, passed_box}
use Rattle.rules.proofs.Requesting.{request_box_lem, request-fits}
use Rattle.rules.proofs.Giving.{drop-fits, give-fits}
use Rattle.rules.proofs.Entering.{enter-fits}
use Rattle.rules.proofs.Clearing.{clear-fits}

-- Train i's own part of the invariant, by its record r and by whether its request has been granted.
record Own (t : Table) (routes : List ℕ) (done : Bool) (i : ℕ) (r : Train) : Type 0 where
  placed : Placed t routes i r
  message : MessageSound (around_train t routes i r) r r.message
  unrecorded : (q : Request) → Open q r.message → recorded (around_train t routes i r) r (holding q) ≡ false
  answers : (q : Request) (c : ℕ) → r.message ≡ Answered q c → done ≡ eqb c 0

-- What train i with record r has given back, where that is granted, is not its own on a line with these boxes.
abbrev Returned : Line → (ℕ → SwitchBox) → Bool → ℕ → Train → Type 0
Returned l boxes done i r =
    (q : Request) → Open q r.message → gives_back q ≡ true → done ≡ true
    → stands (around_train l.table l.routes i r) (plan_at l.table (request_box q)) (boxes (request_box q)) (holding q) ≡ false

unheld_at : (l : Line) (i : ℕ) (q : Request) → held_for l i (holding q) ≡ false → (b : ℕ) → b ≡ request_box q
    → stands (around l i) (plan_at l.table b) (box_at l b) (holding q) ≡ false
unfolding held_for request_box
unheld_at l i q off b e = rw e off

-- A train and a box put back keep the invariant where each is sound, they fit, and the box has nothing for another train that it did not
-- have before. What has been granted changes from g to f, for that train alone.
module _ {g f : Granted} {l : Line} (h : Invariant g l) {i : ℕ} (k : TrainOf l.table i) (same : SameBut i g f) {r : Train}
    (own : Own l.table l.routes (f i) i r) where
  put_keeps : {b : ℕ} → BoxOf l.table.m b → {x : SwitchBox} → BoxSound l.table.k (plan_at l.table b) x
      → Fitting (settled f (put l i r b x)) → Returned l (box_at (put l i r b x)) (f i) i r
      → ((j : ℕ) → TrainOf l.table j → j ≢ i → (z : Holding) → b ≡ holding_box z
      → stands (around l j) (plan_at l.table b) (box_at l b) z ≡ false → stands (around l j) (plan_at l.table b) x z ≡ false)
      → Invariant f (put l i r b x)
  unfolding put_train put_box around held_for request_box
  put_keeps {b} kb {x} box fits gone off =
      let good = line-sound h in
      let owns =
      each-train l i r b x (λ j. Own l.table l.routes (f j) j) (sized h) k own
      (λ j kj n. record {
        placed = good.trains j kj;
        message = good.messages j kj;
        unrecorded = h.unrecorded j kj;
        answers = λ q c e. same j n ∙ h.answers j kj q c e;
      }) in
      let sounds =
      each-box l i r b x (λ c y. BoxOf l.table.m c → BoxSound l.table.k (plan_at l.table c) y) (sized h) kb (λ _. box)
      (λ c n. good.boxes c) in
      record {
        boxes = set-length l.boxes b x ∙ h.boxes;
        trains = set-length l.trains i r ∙ h.trains;
        sound = (sound_iff (put l i r b x)).1 (record {
          table = good.table;
          trains = λ j kj. (owns j kj).placed;
          messages = λ j kj. (owns j kj).message;
          boxes = sounds;
        });
        unrecorded = λ j kj. (owns j kj).unrecorded;
        answers = λ j kj. (owns j kj).answers;
        returned = each-train l i r b x (λ j y. Returned l (box_at (put l i r b x)) (f j) j y) (sized h) k gone
            (λ j kj n q o gives done.
            let before = unheld_at l j q (h.returned j kj q o gives (sym (same j n) ∙ done)) in
            every_box l i r b x (λ c y. c ≡ request_box q → stands (around l j) (plan_at l.table c) y (holding q) ≡ false)
            (λ e. off j kj n (holding q) e (before b e)) before (request_box q) refl);
        fitting = fits;
      }

  train_keeps : Fitting (settled f (put_train l i r)) → Returned l (box_at l) (f i) i r → Invariant f (put_train l i r)
  unfolding put_train box_at
  train_keeps fits gone =
      let limits = (line-sound h).table.limits in
      let box : BoxOf l.table.m 1 = omega arith in
      rw (train-alone l i r 1) at
      (put_keeps box ((line-sound h).boxes 1 box) (rw (train-alone l i r 1) fits) (rw (train-alone l i r 1) gone) (λ j kj n z e unheld. unheld))

-- A train's own part by its message: nothing is asked of one without.
own_idle : (t : Table) (routes : List ℕ) (done : Bool) (i : ℕ) {r : Train} → Placed t routes i r → r.message ≡ Idle → Own t routes done i r
own_idle t routes done i {r} h e =
    record {
      placed = h;
      message = rw e silent;
      unrecorded = λ q w. absurd (not_open e w);
      answers = λ q c f. absurd (not_open {q = q} e (rw f was_answered));
    }

-- Where the train asks for what it asked for before, in a message that is sound.
own-showing
    : (t : Table) (routes : List ℕ) (done : Bool) (i : ℕ) (r : Train) (covered : ℕ) (g : Message)
    → Placed t routes i (showing t routes i r covered g) → MessageSound (around_train t routes i r) r g
    → ((q : Request) → Open q g → recorded (around_train t routes i r) r (holding q) ≡ false)
    → ((q : Request) (c : ℕ) → g ≡ Answered q c → done ≡ eqb c 0)
    → Own t routes done i (showing t routes i r covered g)
own-showing t routes done i r covered g h m n e =
    record {
      placed = h;
      message = again g m;
      unrecorded = λ q w. recorded_same t routes i r covered g (holding q) ∙ n q w;
      answers = e;
    }
  where
    address : (q : Request) → first (address_rows (around_train t routes i r) r q) ≡ 0
        → first (address_rows (around_train t routes i (showing t routes i r covered g)) (showing t routes i r covered g) q) ≡ 0
    address q e = ap first (address_same t routes i r covered g q) ∙ e

    again : (m : Message) → MessageSound (around_train t routes i r) r m
        → MessageSound (around_train t routes i (showing t routes i r covered g)) (showing t routes i r covered g) m
    again Idle silent = silent
    again (Sent q) (on_its_way e) = on_its_way (address q e)
    again (Answered q c) (answering e f) = answering (address q e) f
    again (Lost q) (missing e) = missing (address q e)

-- A message that is sent, with a request that 16 and 17 do not stop.
sent-sound : {v : Around} {r : Train} {q : Request} (g : Message) → g ≡ Sent q → first (address_rows v r q) ≡ 0 → MessageSound v r g
sent-sound g e address = rw e (on_its_way address)

-- One without an answer, with the same.
retried_sound : {v : Around} {r : Train} {q : Request} {m : Message} → Unanswered q m → first (address_rows v r q) ≡ 0 → MessageSound v r m
retried_sound sent_again address = on_its_way address
retried_sound now_lost address = missing address

retried_answer : {q z : Request} {m : Message} {c : ℕ} → Unanswered q m → m ≡ Answered z c → ⊥
retried_answer sent_again e = not-answered (sym e)
retried_answer now_lost e = answered-not-lost (sym e)

module _ {g : Granted} {l : Line} (h : Invariant g l) (s : Step) where
  abbrev i : ℕ
  i = s.train

  abbrev r : Train
  r = train_at l i

  abbrev v : Around
  v = around l i

  -- A request that is sent may be made, and what it is about is not recorded any more.
  own_sending : {q : Request} → Sends l s q → (done : Bool) → Own l.table l.routes done i (sending v r q)
  unfolding around
  own_sending {q} w done =
      let (closed, (address, known)) = (request_iff v r q).0 w.free in
      let alike = sending_alike v r q in
      record {
        placed = placed_alike _ _ i alike ((line-sound h).trains i w.train);
        message = sent-sound _ (sending_message v r q) (address_alike _ _ i alike q address);
        unrecorded = λ z o. rw (around_alike _ _ i alike) (only z (rw (sending_message v r q) at o) (sending_unrecorded v r q known));
        answers = λ z c e. absurd (not-answered (sym e ∙ sending_message v r q));
      }
    where
      only : (z : Request) → Open z (Sent q) → recorded v (sending v r q) (holding q) ≡ false
          → recorded v (sending v r q) (holding z) ≡ false
      only z sent e = e

  sends_keeps : {f : Granted} → SameBut i g f → f i ≡ false → {q : Request} → Sends l s q → Invariant f (after_sending l i q)
  sends_keeps {f} same new {q} w =
      train_keeps h w.train same (own_sending w (f i)) (by (gives_back q) refl) (λ z o gives done. absurd (false≢true (sym new ∙ done)))
    where
      by : (b : Bool) → gives_back q ≡ b → Fitting (settled f (after_sending l i q))
      by true gives = rw (send-settled gives same w) (drop-fits (steady h) (rw (table-quiet (settling g) l) w.train) (holding q))
      by false asks = rw (send-quiet settles same w asks new) h.fitting

  -- A train's request stays open, in another message that is sound.
  module _ {q : Request} (k : TrainOf l.table i) (o : Open q r.message) {m : Message} (p : Open q m) (sound : MessageSound v r m) where
    own_message : (done : Bool) → ((z : Request) (c : ℕ) → m ≡ Answered z c → done ≡ eqb c 0)
        → Own l.table l.routes done i (with_message r m)
    unfolding with_message around
    own_message done e =
        own-showing l.table l.routes done i r r.covered m
        (placed_alike _ _ i (message_alike r m) ((line-sound h).trains i k))
        sound
        (λ z w. rw (open_same w p) (h.unrecorded i k q o))
        e

    message_keeps : ((z : Request) (c : ℕ) → m ≡ Answered z c → g i ≡ eqb c 0) → Invariant g (after_message l i m)
    unfolding with_message around around_on held_for request_box
    message_keeps e =
        train_keeps h k (λ _ _. refl) (own_message (g i) e)
        (rw (message_quiet (settling g) l i o p) h.fitting)
        (λ z w gives done. let same = open_same w p in rw same (h.returned i k q o (rw same at gives) done))

  -- An answer that the box asked may give.
  answer-sound : {q : Request} {c : ℕ} → Answers l s q c → MessageSound v r (Answered q c)
  unfolding around
  answer-sound {q} w =
      answering (open_address {q = q} ((line-sound h).messages i w.train) (rw w.sent sent)) (ap (answer_code q) (sym w.code) ∙ answer-code v _ _ q)

  answers_keeps : {q : Request} {c : ℕ} → Answers l s q c → g i ≡ eqb c 0 → Invariant g (after_message l i (Answered q c))
  answers_keeps {q} {c} w e =
      message_keeps {q = q} w.train (rw w.sent sent) was_answered (answer-sound w) (λ z d f. e ∙ ap (λ (c : ℕ). eqb c 0) (same_code f))

  denies_keeps : {q : Request} {c : ℕ} → Answers l s q c → c ≢ 0 → Invariant g (after_message l i (Answered q c))
  denies_keeps {q} {c} w n = answers_keeps w (denied_new h w n ∙ sym (ne_eqb c 0 n))

  again_keeps : {q : Request} → Answers l s q 0 → g i ≡ true → Invariant g (after_grant l i q)
  again_keeps {q} w done = rw (again_line h w.train {q = q} (rw w.sent sent) done) (answers_keeps w done)

  retries_keeps : {q : Request} {m : Message} → Retries l s q m → Invariant g (after_message l i m)
  unfolding around
  retries_keeps w =
      message_keeps w.train w.waiting (unanswered_open w.next)
      (retried_sound w.next (open_address ((line-sound h).messages i w.train) w.waiting))
      (λ z c e. absurd (retried_answer w.next e))

  -- A train's number is not that of nobody.
  somebody : {j : ℕ} → TrainOf l.table j → eqb 0 j ≡ false
  somebody {j} k = ne_eqb 0 j (λ e. omega (arith, k.low, e))

  grants_keeps : {f : Granted} → SameBut i g f → g i ≡ false → f i ≡ true → {q : Request} → Answers l s q 0 → Invariant f (after_grant l i q)
  unfolding around around_on counted with_message
  grants_keeps {f} same new done {q} w =
      put_keeps h w.train same (own_message w.train waiting was_answered (answer-sound w) (f i) (λ z c e. done ∙ ap (λ (c : ℕ). eqb c 0) (same_code e)))
      box (granted-sound _ _ i r w.train.high q ((line-sound h).boxes _ box) address)
      (by (gives_back q) refl)
      (λ z p gives _.
      let one = open_same p was_answered in
      rw (one, box_put l i _ (request_box q) _ (sized h) box) (returned_off v (somebody w.train) _ _ q (rw one at gives)))
      (λ j kj n z here unheld. granted_off (around l j) (somebody kj) _ _ v q z here (λ e _. absurd (n (sym e))) unheld)
    where
      waiting : Open q r.message
      waiting = rw w.sent sent

      address : first (address_rows v r q) ≡ 0
      address = addressed_open h i w.train q waiting

      box : BoxOf l.table.m (request_box q)
      box = request_box_lem (line-sound h).table ((line-sound h).trains i w.train) q address

      train : TrainOf (settled g l).table i
      train = rw (table-quiet (settling g) l) w.train

      may : first (address_rows (around (settled g l) i) (train_at (settled g l) i) q) ≡ 0
      may =
          let alike = alike_quiet (settling g) l i in
          rw (around-quiet (settling g) l i) (rw (around_alike _ _ i alike) at (address_alike _ _ i alike q address))

      unrecorded : gives_back q ≡ true → recorded (around (settled g l) i) (train_at (settled g l) i) (holding q) ≡ false
      unrecorded gives =
          rw (around-quiet, open_train (settling g) l i waiting, gives)
          (message_recorded _ r Idle (holding q) ∙ h.unrecorded i w.train q waiting)

      by : (b : Bool) → gives_back q ≡ b → Fitting (settled f (after_grant l i q))
      by true gives = rw (grant_settled gives same w) (give-fits (steady h) train q gives may (unrecorded gives))
      by false asks =
          rw (grant_quiet settles same w asks new done) (request-fits (steady h) train q asks may (same_answer (settling g) l i q ∙ w.code))

  hears_keeps : {q : Request} {c : ℕ} → Hears l s q c → Invariant g (after_hearing l i q c)
  unfolding around
  hears_keeps {q} {c} w =
      train_keeps h w.train (λ _ _. refl)
      (own_idle _ _ _ i (placed_alike _ _ i (heard_alike v r q c) ((line-sound h).trains i w.train)) (heard_message v r q c))
      (rw (hear_quiet (settling g) l i w.answer (heard_settles (gives_back q) (h.answers i w.train q c w.answer))) h.fitting)
      (λ z o. absurd (not_open (heard_message v r q c) o))

  enters_keeps : Enters l s → Invariant g (after_enter l i)
  unfolding around around_on entered
  enters_keeps w =
      let box = ahead-box (line-sound h).table ((line-sound h).trains i w.train) in
      let idle = enter_idle h w in
      put_keeps h w.train (λ _ _. refl) (own_idle _ _ _ i entering idle) box (sensed-sound ((line-sound h).boxes _ box))
      (rw (enter-quiet (settling g) l i idle) (enter-fits (steady h) (rw (table-quiet (settling g) l) w.train) (enter_free (settling g) l i idle w.free)))
      (λ z o. absurd (not_open idle o))
      (λ j kj n z here. sensed_off (around l j) (somebody kj) _ _ z)
    where
      entering : Placed l.table l.routes i (entered r)
      entering =
          let place = (line-sound h).trains i w.train in
          let (single, (next, _)) = (enter_iff v r).0 w.free in
          record { route = place.route; some = omega arith; most = omega arith; tail = omega (arith, place.tail); front = omega arith }

  clears_keeps : Clears l s → Invariant g (after_clear l i)
  unfolding around around_on cleared held_for request_box
  clears_keeps w =
      let box = passed_box (line-sound h).table ((line-sound h).trains i w.train) in
      put_keeps h w.train (λ _ _. refl) clearing box (released-sound ((line-sound h).boxes _ box) _ _)
      (rw (clear-quiet (settling g) l i) (clear-fits (steady h) (rw (table-quiet (settling g) l) w.train) (clear_free (settling g) l i w.free)))
      (λ q o gives done.
      let before = unheld_at l i q (h.returned i w.train q o gives done) in
      stands_same v _ refl refl _ _ (holding q)
      ∙ every_box l i _ _ _ (λ c y. c ≡ request_box q → stands v (plan_at l.table c) y (holding q) ≡ false)
      (λ e. released_off v (somebody w.train) _ _ _ _ (holding q) (before _ e)) before (request_box q) refl)
      (λ j kj n z here. released_off (around l j) (somebody kj) _ _ _ _ z)
    where
      clearing : Own l.table l.routes (g i) i (cleared r)
      clearing =
          let place = (line-sound h).trains i w.train in
          let two = (clear_iff r).0 w.free in
          own-showing l.table l.routes (g i) i r (r.covered - 1) r.message
          (record {
            route = place.route;
            some = omega arith;
            most = omega (arith, place.most);
            tail = omega (arith, place.tail);
            front = place.front;
          })
          ((line-sound h).messages i w.train)
          (h.unrecorded i w.train)
          (h.answers i w.train)

pub keeps : (kept : Kept) (l : Line) → Invariant (is_granted kept) l → (s : Step) (o : Outcome) → Does l s o
    → Invariant (is_granted (keep kept (s answered o.code))) o.line
keeps kept l h s o (refuses {c} n other) = rw (keep_refused kept s c n) h
keeps kept l h s o (sends {q} w) =
    sends_keeps h s (granted_other kept s 0) (granted_some _ s.train (keep-sent kept s q w.kind)) w
keeps kept l h s o (denies {q} {c} w n) = rw (keep_refused kept s c n) (denies_keeps h s w n)
keeps kept l h s o (grants {q} w) = by (kept s.train) refl
  where
    by : (z : Option Step) → kept s.train ≡ z → Invariant (is_granted (keep kept (s answered 0))) (after_grant l s.train q)
    by none e = rw (keep_again kept s w.kind e) (again_keeps h s w (granted-none kept s.train e))
    by (some z) e =
        grants_keeps h s (granted_other kept s 0) (granted_some kept s.train e) (granted-none _ s.train (keep-granted kept s w.kind)) w
keeps kept l h s o (hears {q} {c} w) =
    let kind = w.kind in
    rw (keep_plain kept s c (omega arith) (omega arith) (omega arith)) (hears_keeps h s w)
keeps kept l h s o (retries w) =
    let low = w.low in
    rw (keep_plain kept s 0 (omega arith) (omega arith) (omega arith)) (retries_keeps h s w)
keeps kept l h s o (enters w) =
    let kind = w.kind in
    rw (keep_plain kept s 0 (omega arith) (omega arith) (omega arith)) (enters_keeps h s w)
keeps kept l h s o (clears w) =
    let kind = w.kind in
    rw (keep_plain kept s 0 (omega arith) (omega arith) (omega arith)) (clears_keeps h s w)

-- So does every list of steps.
pub keeps_all : (kept : Kept) (l : Line) → Invariant (is_granted kept) l → (steps : List Step)
    → Invariant (is_granted (kept_by kept (events step l steps))) (line_after step l steps)
unfolding line_after events kept_by
keeps_all kept l h [] = h
keeps_all kept l h (s ∷ rest) = keeps_all (keep kept (s answered (step l s).code)) (step l s).line (keeps kept l h s _ (does l s)) rest
