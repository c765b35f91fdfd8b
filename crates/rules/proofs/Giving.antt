-- Giving back leaves trains and boxes fitting together: the train drops a record, and the box frees what is the train's.
use Prim.Native.Nat.{ℕ, ◌+◌, ◌<◌}
use mathlib.Core.Path.{◌≡◌, refl, sym, ◌∙◌}
use mathlib.Core.Logic.{inr, ◌≢◌}
use mathlib.Core.Bool.{Bool, true, false, not, ◌&&◌, ◌||◌, false≢true}
use mathlib.Core.List.{List}
use native.Mathlib.Omega.{arith}
use borrow.Author.Tests.{eq-eqb, eqb-true}
use lib.Dec.{eqb}
use Rattle.rules.specs.declared.Holding.{Holding}
use Rattle.rules.specs.declared.Holding.TheVariants.{NextAt, LockAt}
use Rattle.rules.specs.declared.Request.{Request}
use Rattle.rules.specs.declared.Request.TheVariants.{Reserve, Lock, GiveBack, Unlock}
use Rattle.rules.specs.declared.SwitchBox.{SwitchBox}
use Rattle.rules.specs.declared.Table.{Table}
use Rattle.rules.specs.declared.Train.{Train}
use Rattle.rules.specs.declared.Line.{Line}
use Rattle.rules.specs.Rows.{first}
use Rattle.rules.specs.Track.{plan_at, route_at}
use Rattle.rules.specs.Line.{request_box, around_on, around, box_at, train_at, put_train, holder_of, set_holder, holding, gives_back, holding_box}
use Rattle.rules.specs.Steps.{addressed, recorded, address_rows, with_records, without_holding, lock_freed, stands, freed, granted}
use Rattle.rules.specs.Safety.{TrainOf}
use Rattle.rules.specs.Invariant.{box_beyond, Needs, ahead, crossed, near_recorded, far_recorded, NeedsLock, crossed_point, lock_recorded, Fits, Fitting}
use Rattle.rules.proofs.Routes.{segment_once}
use Rattle.rules.proofs.Tests.{and-true, and-true_iff, or_left, or_right, or-false-left, or-false_right}
use Rattle.rules.proofs.Frames.{put, holder_other, train-alone, train_back}
use Rattle.rules.proofs.StepRows.{address_iff, lock_address_iff, granted_each}
use Rattle.rules.proofs.Change.{ahead-box, ahead_uncrossed, Steady, no_more, uses_by, change_fits, fits, apart_still}
use Rattle.rules.proofs.Requesting.{next-box}

or_implied : (a b c d : Bool) → (a ≡ true → c ≡ true) → (b ≡ true → d ≡ true) → (a || b) ≡ true → (c || d) ≡ true
or_implied true b c d h k e = or_left c d (h refl)
or_implied false b c d h k e = or_right c d (k e)

-- Train i of a line without messages gives back.
module _ {a : Line} (h : Steady a) {i : ℕ} (k : TrainOf a.table i) where
  abbrev t : Table
  t = a.table

  abbrev routes : List ℕ
  routes = a.routes

  abbrev r : Train
  r = train_at a i

  -- Its next segment, where it has one.
  abbrev asked : ℕ
  asked = route_at routes i (r.place + 1)

  -- The train has less recorded than before, so it needs no more.
  module _ (near far lock : Bool) (n : near ≡ true → r.near ≡ true) (f : far ≡ true → r.far ≡ true) (m : lock ≡ true → r.lock ≡ true) where
    abbrev lesser : Train
    lesser = with_records r near far lock

    needs_lesser : {c s : ℕ} → Needs t routes i lesser c s → Needs t routes i r c s
    needs_lesser (ahead w) = ahead w
    needs_lesser (crossed w) = crossed w
    needs_lesser (near_recorded e) = near_recorded (n e)
    needs_lesser (far_recorded e) = far_recorded (f e)

    locks_lesser : {c : ℕ} → NeedsLock t routes i lesser c → NeedsLock t routes i r c
    locks_lesser (crossed_point w p) = crossed_point w p
    locks_lesser (lock_recorded e) = lock_recorded (m e)

    some_recorded : (near || far || lock) ≡ true → (r.near || r.far || r.lock) ≡ true
    some_recorded = or_implied (near || far) lock _ _ (or_implied near far _ _ n f) m

    lesser_fits : Fitting (put_train a i lesser)
    lesser_fits =
        rw train-alone at
        (change_fits h k {r = lesser} (ahead-box h.accepted (h.placed i k)) {x = box_at a (box_beyond t routes i r r.place)} record {
          apart = apart_still h k;
          here = less _;
          elsewhere = λ c n. less c;
          others = λ j kj n f. f;
          with_next = λ e. h.fitting.with_next i k (some_recorded e);
          crossed_here = λ e. inr (e, λ q w. w);
          crossed_elsewhere = λ c n q w. w;
        })
      where
        less : (c : ℕ) → Fits t routes i lesser c (box_at a c)
        less c = no_more (record {
          needs = λ s. needs_lesser;
          locks = locks_lesser;
          uses = λ y u. uses_by refl refl u u.covered;
          crosses = λ q w. w;
        }) (fits h k c)

  -- It drops the record of what it gives back.
  pub drop-fits : (z : Holding) → Fitting (put_train a i (without_holding (around a i) r z))
  unfolding without_holding
  drop-fits (NextAt b) =
      lesser_fits _ _ _ (λ e. ((and-true_iff (not (eqb b (around a i).near_end)) _).0 e).1)
      (λ e. ((and-true_iff (not (eqb b (around a i).far_end)) _).0 e).1) (λ e. e)
  drop-fits (LockAt b) = lesser_fits _ _ _ (λ e. e) (λ e. e) (λ e. absurd (false≢true e))

  -- Box b frees next, which was reserved for the train there, and which it has not recorded there.
  module _ (b : ℕ) (next : r.place < r.length) (at : addressed (around a i) (NextAt b) ≡ true)
      (unrecorded : recorded (around a i) r (NextAt b) ≡ false) (own : holder_of (plan_at t b) (box_at a b) asked ≡ i) where
    abbrev freeing : SwitchBox
    freeing = set_holder (plan_at t b) (box_at a b) asked 0

    -- What the train needs here is not next.
    needs_other : {c s : ℕ} → Needs t routes i r c s → c ≡ b → s ≢ asked
    unfolding recorded around around_on
    needs_other (ahead {q} w) e f =
        let place = h.placed i k in
        let same = segment_once h.accepted.no_loop place.route q (r.place + 1) (omega (arith, w.behind, place.tail)) (omega (arith, w.ahead)) (omega arith) (omega arith) f in
        omega (arith, same, w.ahead)
    needs_other (crossed {q} w) e f =
        let same = segment_once h.accepted.no_loop (h.placed i k).route (q + 1) (r.place + 1) (omega arith) (omega (arith, w.to.ahead)) (omega arith) (omega arith) f in
        omega (arith, same, w.to.ahead)
    needs_other (near_recorded e) here f =
        false≢true (sym (or-false-left _ _ unrecorded) ∙ and-true _ _ (eq-eqb b _ (sym here)) e)
    needs_other (far_recorded e) here f =
        false≢true (sym (or-false_right (eqb b (around a i).near_end && r.near) _ unrecorded) ∙ and-true _ _ (eq-eqb b _ (sym here)) e)

    freed-fits : Fitting (put a i r b freeing)
    unfolding set_holder around
    freed-fits =
        change_fits h k (next-box h.accepted (h.placed i k) b next at).0 {x = freeing} record {
          apart = apart_still h k;
          here = record {
            reserved = λ s w. holder_other (plan_at t b) (box_at a b) asked 0 (needs_other w refl) ∙ (fits h k b).reserved s w;
            locked = (fits h k b).locked;
            used = (fits h k b).used;
            sensed = (fits h k b).sensed;
          };
          elsewhere = λ c n. fits h k c;
          others = λ j kj n f. record {
            reserved = λ s w.
                let e = f.reserved s w in
                holder_other (plan_at t b) (box_at a b) asked 0 (λ z. n (sym e ∙ rw z own)) ∙ e;
            locked = f.locked;
            used = f.used;
            sensed = f.sensed;
          };
          with_next = λ _. next;
          crossed_here = λ e. inr (e, λ q w. w);
          crossed_elsewhere = λ c n q w. w;
        }

  -- The point ahead frees its lock, which was the train's, and which it has not recorded.
  module _ (unrecorded : r.lock ≡ false) (own : (box_at a (box_beyond t routes i r r.place)).lock ≡ i) where
    abbrev point-ahead : ℕ
    point-ahead = box_beyond t routes i r r.place

    no_lock : {c : ℕ} → NeedsLock t routes i r c → c ≢ point-ahead
    no_lock (crossed_point w p) e = ahead_uncrossed h k w e
    no_lock (lock_recorded f) e = false≢true (sym unrecorded ∙ f)

    unlocked_fits : Fitting (put a i r point-ahead (lock_freed (box_at a point-ahead)))
    unfolding holder_of
    unlocked_fits =
        change_fits h k (ahead-box h.accepted (h.placed i k)) {x = lock_freed (box_at a point-ahead)} record {
          apart = apart_still h k;
          here = record {
            reserved = (fits h k point-ahead).reserved;
            locked = λ w. absurd (no_lock w refl);
            used = λ e. absurd (omega (arith, k.low, e));
            sensed = (fits h k point-ahead).sensed;
          };
          elsewhere = λ c n. fits h k c;
          others = λ j kj n f. record {
            reserved = f.reserved;
            locked = λ w. absurd (n (sym (f.locked w) ∙ own));
            used = λ e. absurd (omega (arith, kj.low, e));
            sensed = f.sensed;
          };
          with_next = h.fitting.with_next i k;
          crossed_here = λ e. inr (e, λ q w. w);
          crossed_elsewhere = λ c n q w. w;
        }

  -- The box answers a give-back of what is not recorded.
  pub give-fits
      : (q : Request) → gives_back q ≡ true → first (address_rows (around a i) r q) ≡ 0 → recorded (around a i) r (holding q) ≡ false
      → Fitting (put a i r (request_box q) (granted (around a i) (plan_at t (request_box q)) (box_at a (request_box q)) q))
  unfolding request_box holding_box holding gives_back recorded stands freed around around_on
  give-fits q gives e new =
      let (next, at) = (address_iff (around a i) r q).0 e in
      granted_each (λ x. Fitting (put a i r (request_box q) x)) _ _ _ q (λ n _. absurd (false≢true (sym n ∙ gives))) (λ _. by q next at new)
      (rw (train-alone, train_back) h.fitting)
    where
      lock : (b : ℕ) → addressed (around a i) (LockAt b) ≡ true → r.lock ≡ false → (box_at a b).lock ≡ i
          → Fitting (put a i r b (lock_freed (box_at a b)))
      lock b at new own = let (here, point) = (lock_address_iff (around a i) b).0 at in rw here (unlocked_fits new (rw here at own))

      by : (q : Request) → r.place < r.length → addressed (around a i) (holding q) ≡ true → recorded (around a i) r (holding q) ≡ false
          → stands (around a i) (plan_at t (request_box q)) (box_at a (request_box q)) (holding q) ≡ true
          → Fitting (put a i r (request_box q) (freed (around a i) (plan_at t (request_box q)) (box_at a (request_box q)) (holding q)))
      by (Reserve b) next at new own = freed-fits b next at new (eqb-true _ _ own)
      by (GiveBack b) next at new own = freed-fits b next at new (eqb-true _ _ own)
      by (Lock b) next at new own = lock b at new (eqb-true _ _ own)
      by (Unlock b) next at new own = lock b at new (eqb-true _ _ own)
