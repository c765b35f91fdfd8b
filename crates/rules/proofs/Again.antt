-- What was granted stands: a box that is asked for it again says yes, and changes nothing.
use Prim.Native.Nat.{ℕ}
use mathlib.Core.Path.{◌≡◌, refl, sym, ◌∙◌}
use mathlib.Core.Logic.Iff
use mathlib.Core.Logic.{◌≢◌, ⊎_elim}
use mathlib.Core.Bool.{Bool, true, false, false≢true}
use mathlib.Core.List.{List}
use borrow.Author.Tests.{eq-eqb, eqb-true}
use lib.Dec.{eqb}
use Rattle.rules.specs.declared.Table.{Table}
use Rattle.rules.specs.declared.Holding.{Holding}
use Rattle.rules.specs.declared.Holding.TheVariants.{NextAt, LockAt}
use Rattle.rules.specs.declared.Request.{Request}
use Rattle.rules.specs.declared.Request.TheVariants.{Reserve, Lock, GiveBack, Unlock}
use Rattle.rules.specs.declared.Message.{Message}
use Rattle.rules.specs.declared.Message.TheVariants.{Answered}
use Rattle.rules.specs.declared.Train.{Train}
use Rattle.rules.specs.declared.Line.{Line}
use Rattle.rules.specs.declared.Around.{Around}
use Rattle.rules.specs.Rows.{first}
use Rattle.rules.specs.Track.{plan_at}
use Rattle.rules.specs.Line.{around_on, around, box_at, train_at, request_box, holding, gives_back, holding_box}
use Rattle.rules.specs.Steps.{Step, addressed, recorded, box_rows, stands, granted}
use Rattle.rules.specs.Record.{answer_code}
use Rattle.rules.specs.Safety.{TrainOf}
use Rattle.rules.specs.Invariant.{Granted, Counts, counted, quiet, settling, settled, held_for, near_recorded, far_recorded, lock_recorded, Open, sent, Invariant}
use Rattle.rules.proofs.Tests.{or-true_iff, and-true_iff, not_passed, first-none}
use Rattle.rules.proofs.Rows.{list_length}
use Rattle.rules.proofs.Frames.{train-alone}
use Rattle.rules.proofs.Sound.{Placed, MessageSound, answering}
use Rattle.rules.proofs.StepKinds.{after_message, after_grant, Answers}
use Rattle.rules.proofs.StepRows.{address_iff, lock_address_iff}
use Rattle.rules.proofs.Holdings.{recorded_now}
use Rattle.rules.proofs.Settled.{line-sound, sized, Alike, table-quiet, alike_quiet, around-quiet, box-quiet}
use Rattle.rules.proofs.SettledSteps.{addressed_open, open_train}
use Rattle.rules.proofs.Change.{Steady, fits}

-- Two records of a train that stand alike have the same place on the route.
pub placed_alike : (t : Table) (routes : List ℕ) (i : ℕ) {r x : Train} → Alike r x → Placed t routes i x → Placed t routes i r
placed_alike t routes i e h =
    record {
      route = rw (e.direction, e.length) h.route;
      some = rw e.covered h.some;
      most = rw e.covered h.most;
      tail = rw (e.covered, e.place) h.tail;
      front = rw (e.place, e.length) h.front;
    }

-- On the settled line trains and boxes fit together.
pub steady : {g : Granted} {l : Line} → Invariant g l → Steady (settled g l)
unfolding quiet
steady {g} {l} h =
    record {
      accepted = (line-sound h).table;
      sized = record { trains = rw list_length (sized h).trains; boxes = (sized h).boxes };
      placed = λ i k. placed_alike _ _ i (alike_quiet (settling g) l i) ((line-sound h).trains i k);
      fitting = h.fitting;
    }

-- What a train has recorded is its own at the box.
pub recorded-held : {a : Line} → Steady a → {i : ℕ} → TrainOf a.table i → (z : Holding) → addressed (around a i) z ≡ true
    → recorded (around a i) (train_at a i) z ≡ true → held_for a i z ≡ true
unfolding held_for holding_box stands recorded around around_on
recorded-held {a} h {i} k (NextAt b) may known =
    eq-eqb _ _
    (⊎_elim
    (λ both.
    let (e, near) = (and-true_iff (eqb b (around a i).near_end) (train_at a i).near).0 both in
    (fits h k b).reserved _ (rw (eqb-true b (around a i).near_end e) (near_recorded near)))
    (λ both.
    let (e, far) = (and-true_iff (eqb b (around a i).far_end) (train_at a i).far).0 both in
    (fits h k b).reserved _ (rw (eqb-true b (around a i).far_end e) (far_recorded far)))
    ((or-true_iff _ _ Iff.rfl Iff.rfl).0 known))
recorded-held {a} h {i} k (LockAt b) may known =
    let (there, point) = (lock_address_iff (around a i) b).0 may in
    eq-eqb _ _ ((fits h k b).locked (rw there (lock_recorded known)))

-- Boxes have for a train what they have for it on the line with messages taken away.
pub held-quiet : (n : Counts) (l : Line) (i : ℕ) (z : Holding) → held_for (quiet n l) i z ≡ held_for l i z
unfolding held_for
held-quiet n l i z = rw (around-quiet, box-quiet, table-quiet)

-- A request of an open message that has been granted.
module _ {g : Granted} {l : Line} (h : Invariant g l) {i : ℕ} (k : TrainOf l.table i) {q : Request} (o : Open q (train_at l i).message)
    (done : g i ≡ true) where
  -- What it asks for is the train's.
  pub granted-held : gives_back q ≡ false → held_for l i (holding q) ≡ true
  unfolding counted
  granted-held asks =
      let may = ((address_iff _ _ q).0 (addressed_open h i k q o)).1 in
      sym (held-quiet (settling g) l i (holding q))
      ∙ recorded-held (steady h) (rw (table-quiet (settling g) l) k) (holding q) (rw around-quiet may)
      (rw (around-quiet, open_train (settling g) l i o, asks, done) (recorded_now (around l i) _ (holding q) may))

  -- Its box says yes again, and stays as it is.
  pub again_yes : first (box_rows (around l i) (plan_at l.table (request_box q)) (box_at l (request_box q)) q) ≡ 0
  unfolding box_rows held_for request_box
  again_yes = by (gives_back q) refl
    where
      by : (b : Bool) → gives_back q ≡ b → first (box_rows (around l i) (plan_at l.table (request_box q)) (box_at l (request_box q)) q) ≡ 0
      by true gives = rw gives first-none
      by false asks = rw (asks, granted-held asks) first-none

  again_same : granted (around l i) (plan_at l.table (request_box q)) (box_at l (request_box q)) q ≡ box_at l (request_box q)
  unfolding granted held_for request_box
  again_same = by (gives_back q) refl
    where
      by : (b : Bool) → gives_back q ≡ b
          → granted (around l i) (plan_at l.table (request_box q)) (box_at l (request_box q)) q ≡ box_at l (request_box q)
      by true gives = rw (gives, h.returned i k q o gives done)
      by false asks = rw (asks, granted-held asks)

  pub again_line : after_grant l i q ≡ after_message l i (Answered q 0)
  again_line = rw again_same (train-alone l i _ (request_box q))

-- So what is denied has not been granted.
pub denied_new : {g : Granted} {l : Line} → Invariant g l → {s : Step} {q : Request} {c : ℕ} → Answers l s q c → c ≢ 0 → g s.train ≡ false
denied_new {g} h {s} w n = not_passed (g s.train) λ done. n (sym w.code ∙ again_yes h w.train (rw w.sent sent) done)

-- A give-back is heard with 0.
zero_answer : (q : Request) (c : ℕ) → gives_back q ≡ true → answer_code q c ≡ true → c ≡ 0
unfolding gives_back answer_code
zero_answer (Reserve b) c gives e = absurd (false≢true gives)
zero_answer (Lock b) c gives e = absurd (false≢true gives)
zero_answer (GiveBack b) c gives e = eqb-true c 0 e
zero_answer (Unlock b) c gives e = eqb-true c 0 e

pub yes_heard : {g : Granted} {l : Line} → Invariant g l → {i : ℕ} → TrainOf l.table i → {q : Request} {c : ℕ}
    → (train_at l i).message ≡ Answered q c → gives_back q ≡ true → c ≡ 0
yes_heard {l = l} h {i} k {q} {c} e gives = zero_answer q c gives (by (train_at l i).message e ((line-sound h).messages i k))
  where
    told : {v : Around} {r : Train} → MessageSound v r (Answered q c) → answer_code q c ≡ true
    told (answering _ code) = code

    by : {v : Around} {r : Train} (m : Message) → m ≡ Answered q c → MessageSound v r m → answer_code q c ≡ true
    by m e sound = told (rw e at sound)
