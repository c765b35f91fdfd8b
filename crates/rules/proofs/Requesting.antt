-- A granted request leaves trains and boxes fitting together.
use Prim.Native.Nat.{ℕ, ◌+◌, ◌<◌}
use mathlib.Core.Path.{◌≡◌, refl, sym, ◌∙◌}
use mathlib.Core.Logic.Iff
use mathlib.Core.Logic.{◌⊎◌, inl, inr, ⊎_elim, ◌≢◌}
use mathlib.Core.Bool.{Bool, true, false, cond, false≢true}
use mathlib.Core.List.{List, []}
use native.Mathlib.Decide.{ℕ_discrete}
use native.Mathlib.Omega.{arith}
use borrow.Author.Tests.{eqb-true}
use Rattle.rules.specs.declared.Holding.TheVariants.{NextAt, LockAt}
use Rattle.rules.specs.declared.Request.{Request}
use Rattle.rules.specs.declared.Request.TheVariants.{Reserve, Lock, GiveBack, Unlock}
use Rattle.rules.specs.declared.SwitchBox.{SwitchBox}
use Rattle.rules.specs.declared.Table.{Table}
use Rattle.rules.specs.declared.Train.{Train}
use Rattle.rules.specs.declared.Line.{Line}
use Rattle.rules.specs.Rows.{first}
use Rattle.rules.specs.Track.{plan_at, route_at, is_point}
use Rattle.rules.specs.Network.{lists}
use Rattle.rules.specs.Line.{request_box, around_on, around_train, around, box_at, train_at, holder_of, set_holder, holding, gives_back, holding_box}
use Rattle.rules.specs.Steps.{addressed, address_rows, grant_rows, box_rows, another, position_for, with_holding, lock_given, stands, given, granted}
use Rattle.rules.specs.Safety.{TrainOf}
use Rattle.rules.specs.Invariant.{box_beyond, Needs, ahead, crossed, near_recorded, far_recorded, NeedsLock, crossed_point, lock_recorded, UsesLock, Fitting}
use Rattle.rules.proofs.Accepted.{Accepted, BoxOf}
use Rattle.rules.proofs.Boxes.{far_box_lem, far_listed, position_joins}
use Rattle.rules.proofs.Routes.{between}
use Rattle.rules.proofs.Tests.{or-true_iff, eqb-true_iff}
use Rattle.rules.proofs.Frames.{put, holder_set, holder_other}
use Rattle.rules.proofs.Sound.{Placed}
use Rattle.rules.proofs.StepKinds.{after_request}
use Rattle.rules.proofs.StepRows.{another-false_iff, address_iff, lock_address_iff, next_grant_iff, lock_grant_iff}
use Rattle.rules.proofs.Change.{ahead-box, Steady, no_more, uses_by, change_fits, fits, on_route_lem, front_low, apart_still}

-- The box of a request is one of the table. A reservation's box lists next.
module _ {t : Table} (a : Accepted t) {routes : List ℕ} {i : ℕ} {r : Train} (h : Placed t routes i r) where
  pub next-box : (b : ℕ) → r.place < r.length → addressed (around_train t routes i r) (NextAt b) ≡ true
      → BoxOf t.m b × (lists (plan_at t b) (route_at routes i (r.place + 1)) ≡ true)
  unfolding addressed around_on
  next-box b next at =
      let segment = h.route.segment (r.place + 1) (omega arith) (omega arith) in
      ⊎_elim
      (λ e. rw e ((a.ends _ segment).box r.direction, a.listed r.direction _ segment))
      (λ e. rw e (far_box_lem a r.direction _ segment, far_listed a r.direction _ segment))
      ((or-true_iff _ _ (eqb-true_iff b _) (eqb-true_iff b _)).0 at)

  pub request_box_lem : (q : Request) → first (address_rows (around_train t routes i r) r q) ≡ 0 → BoxOf t.m (request_box q)
  unfolding request_box holding_box holding around_on
  request_box_lem q e = let (next, at) = (address_iff (around_train t routes i r) r q).0 e in by q next at
    where
      lock_box : (b : ℕ) → addressed (around_train t routes i r) (LockAt b) ≡ true → BoxOf t.m b
      lock_box b at = let (here, point) = (lock_address_iff (around_train t routes i r) b).0 at in rw here (ahead-box a h)

      by : (q : Request) → r.place < r.length → addressed (around_train t routes i r) (holding q) ≡ true → BoxOf t.m (request_box q)
      by (Reserve b) next at = (next-box b next at).0
      by (Lock b) next at = lock_box b at
      by (GiveBack b) next at = (next-box b next at).0
      by (Unlock b) next at = lock_box b at

-- Train i of a line without messages asks.
module _ {a : Line} (h : Steady a) {i : ℕ} (k : TrainOf a.table i) where
  abbrev t : Table
  t = a.table

  abbrev routes : List ℕ
  routes = a.routes

  abbrev r : Train
  r = train_at a i

  -- Its next segment, where it has one.
  abbrev asked : ℕ
  asked = route_at routes i (r.place + 1)

  -- A reservation. Box b has become x, in which next is the train's; it was nobody's or the train's own, and nothing else has changed.
  module _ (b : ℕ) (next : r.place < r.length) (at : addressed (around a i) (NextAt b) ≡ true)
      (free : another i (holder_of (plan_at t b) (box_at a b) asked) ≡ false) (x : SwitchBox) (own : holder_of (plan_at t b) x asked ≡ i)
      (rest : (s : ℕ) → s ≢ asked → holder_of (plan_at t b) x s ≡ holder_of (plan_at t b) (box_at a b) s)
      (sensor : x.sensor ≡ (box_at a b).sensor) (position : x.position ≡ (box_at a b).position) (lock : x.lock ≡ (box_at a b).lock) where
    abbrev reserver : Train
    reserver = with_holding (around a i) r (NextAt b)

    -- What is held by train j stays so, unless it is next here and j another train.
    held_still : (j s : ℕ) → (s ≡ asked → j ≡ i) → holder_of (plan_at t b) (box_at a b) s ≡ j → holder_of (plan_at t b) x s ≡ j
    held_still j s same e =
        elim (ℕ_discrete s asked) [
          | yes f ↦ rw (f, same f) own
          | no n ↦ rest s n ∙ e
        ]

    -- What the train needs now is next here, or it needed it before.
    needs_reserver : {c s : ℕ} → Needs t routes i reserver c s → ((c ≡ b) × (s ≡ asked)) ⊎ Needs t routes i r c s
    unfolding with_holding around around_on
    needs_reserver (ahead w) = inr (ahead w)
    needs_reserver (crossed w) = inr (crossed w)
    needs_reserver (near_recorded e) =
        ⊎_elim (λ f. inl (sym f, refl)) (λ f. inr (near_recorded f)) ((or-true_iff _ _ (eqb-true_iff b _) Iff.rfl).0 e)
    needs_reserver (far_recorded e) =
        ⊎_elim (λ f. inl (sym f, refl)) (λ f. inr (far_recorded f)) ((or-true_iff _ _ (eqb-true_iff b _) Iff.rfl).0 e)

    locks_reserver : {c : ℕ} → NeedsLock t routes i reserver c → NeedsLock t routes i r c
    unfolding with_holding
    locks_reserver (crossed_point w p) = crossed_point w p
    locks_reserver (lock_recorded e) = lock_recorded e

    reserve_fits : Fitting (put a i reserver b x)
    unfolding with_holding around
    reserve_fits =
        change_fits h k (next-box h.accepted (h.placed i k) b next at).0 {x = x} record {
          apart = apart_still h k;
          here = record {
            reserved = λ s w. ⊎_elim
                (λ (e, f). rw f own)
                (λ u. held_still i s (λ _. refl) ((fits h k b).reserved s u))
                (needs_reserver w);
            locked = λ w. lock ∙ (fits h k b).locked (locks_reserver w);
            used = λ e. let u = (fits h k b).used (sym lock ∙ e) in rw position (uses_by refl refl u u.covered);
            sensed = λ q w. sensor ∙ (fits h k b).sensed q w;
          };
          elsewhere = λ c n. no_more (record {
            needs = λ s w. ⊎_elim (λ (e, f). absurd (n e)) (λ u. u) (needs_reserver w);
            locks = locks_reserver;
            uses = λ y u. uses_by refl refl u u.covered;
            crosses = λ q w. w;
          }) (fits h k c);
          others = λ j kj n f. record {
            reserved = λ s w.
                let e = f.reserved s w in
                held_still j s (λ here. absurd (n (sym e ∙ (another-false_iff i _).0 (rw here free) (λ z. omega (arith, kj.low, e, z))))) e;
            locked = λ w. lock ∙ f.locked w;
            used = λ e. rw position (f.used (sym lock ∙ e));
            sensed = λ q w. sensor ∙ f.sensed q w;
          };
          with_next = λ _. next;
          crossed_here = λ e. inr (sym sensor ∙ e, λ q w. w);
          crossed_elsewhere = λ c n q w. w;
        }

  -- A lock. The box ahead has become x, in which the lock is the train's, which has a use for it; it was nobody's or the train's own, and
  -- but for the position nothing else has changed.
  module _ (next : r.place < r.length) (free : another i (box_at a (box_beyond t routes i r r.place)).lock ≡ false) (x : SwitchBox)
      (own : x.lock ≡ i) (useful : UsesLock t routes i r (box_beyond t routes i r r.place) x.position)
      (sensor : x.sensor ≡ (box_at a (box_beyond t routes i r r.place)).sensor)
      (rest
      : (s : ℕ) → let b = box_beyond t routes i r r.place in holder_of (plan_at t b) x s ≡ holder_of (plan_at t b) (box_at a b) s) where
    abbrev point-ahead : ℕ
    point-ahead = box_beyond t routes i r r.place

    abbrev locker : Train
    locker = with_holding (around a i) r (LockAt point-ahead)

    needs_locker : {c s : ℕ} → Needs t routes i locker c s → Needs t routes i r c s
    unfolding with_holding
    needs_locker (ahead w) = ahead w
    needs_locker (crossed w) = crossed w
    needs_locker (near_recorded e) = near_recorded e
    needs_locker (far_recorded e) = far_recorded e

    locks_locker : {c : ℕ} → c ≢ point-ahead → NeedsLock t routes i locker c → NeedsLock t routes i r c
    unfolding with_holding
    locks_locker n (crossed_point w p) = crossed_point w p
    locks_locker n (lock_recorded e) = absurd (n refl)

    lock_fits : Fitting (put a i locker point-ahead x)
    unfolding with_holding around around_on
    lock_fits =
        change_fits h k (ahead-box h.accepted (h.placed i k)) {x = x} record {
          apart = apart_still h k;
          here = record {
            reserved = λ s w. rest s ∙ (fits h k point-ahead).reserved s (needs_locker w);
            locked = λ _. own;
            used = λ _. uses_by refl refl useful useful.covered;
            sensed = λ q w. sensor ∙ (fits h k point-ahead).sensed q w;
          };
          elsewhere = λ c n. no_more (record {
            needs = λ s. needs_locker;
            locks = locks_locker n;
            uses = λ y u. uses_by refl refl u u.covered;
            crosses = λ q w. w;
          }) (fits h k c);
          others = λ j kj n f. record {
            reserved = λ s w. rest s ∙ f.reserved s w;
            locked = λ w.
                let e = f.locked w in
                absurd (n (sym e ∙ (another-false_iff i _).0 free (λ z. omega (arith, kj.low, e, z))));
            used = λ e. absurd (n (sym e ∙ own));
            sensed = λ q w. sensor ∙ f.sensed q w;
          };
          with_next = λ _. next;
          crossed_here = λ e. inr (sym sensor ∙ e, λ q w. w);
          crossed_elsewhere = λ c n q w. w;
        }

  -- The position that a point gets with its lock joins front and next.
  uses_new : r.place < r.length → let b = box_beyond t routes i r r.place in is_point (plan_at t b) ≡ true
      → UsesLock t routes i r b (position_for (plan_at t b) (route_at routes i r.place) asked)
  uses_new next point =
      let place = h.placed i k in
      let front = on_route_lem h k r.place (front_low h k) place.front in
      let after = on_route_lem h k (r.place + 1) (omega arith) (omega arith) in
      record {
        place = r.place;
        covered = record { behind = omega (arith, place.some); ahead = omega arith };
        next = next;
        there = refl;
        point = point;
        joined =
            position_joins h.accepted (far_box_lem h.accepted r.direction _ front) r.direction _ _ front after refl
            (sym (between place.route r.place (front_low h k) next));
      }

  -- Nobody else has what is the train's.
  own_free : (n : ℕ) → n ≡ i → another i n ≡ false
  own_free n e = (another-false_iff i n).1 (λ _. e)

  -- Where the rows of codes stop nothing: the box has given what is asked for, or had it for the train already.
  pub request-fits
      : (q : Request) → gives_back q ≡ false → first (address_rows (around a i) r q) ≡ 0
      → first (box_rows (around a i) (plan_at t (request_box q)) (box_at a (request_box q)) q) ≡ 0
      → Fitting (after_request a i q)
  unfolding box_rows grant_rows request_box holding_box holding gives_back stands given granted around around_on set_holder holder_of
  request-fits (Reserve b) n e f =
      let (next, at) = (address_iff (around a i) r (Reserve b)).0 e in
      by (stands (around a i) (plan_at t b) (box_at a b) (NextAt b)) refl next at f
    where
      by : (held : Bool) → stands (around a i) (plan_at t b) (box_at a b) (NextAt b) ≡ held → r.place < r.length
          → addressed (around a i) (NextAt b) ≡ true
          → first (cond held [] (grant_rows (around a i) (plan_at t b) (box_at a b) (NextAt b))) ≡ 0
          → Fitting (put a i (with_holding (around a i) r (NextAt b)) b (cond held (box_at a b) (given (around a i) (plan_at t b) (box_at a b) (NextAt b))))
      by true held next at f =
          let own = eqb-true _ _ held in
          reserve_fits b next at (own_free _ own) (box_at a b) own (λ s m. refl) refl refl refl
      by false held next at f =
          let (_, free) = (next_grant_iff (around a i) (plan_at t b) (box_at a b) b).0 f in
          let (there, listed) = next-box h.accepted (h.placed i k) b next at in
          reserve_fits b next at free _ (holder_set (plan_at t b) (box_at a b) asked i listed)
          (λ s m. holder_other (plan_at t b) (box_at a b) asked i m) refl refl refl
  request-fits (Lock b) n e f =
      let (next, at) = (address_iff (around a i) r (Lock b)).0 e in
      let (here, point) = (lock_address_iff (around a i) b).0 at in
      by (stands (around a i) (plan_at t b) (box_at a b) (LockAt b)) refl next here point f
    where
      by : (held : Bool) → stands (around a i) (plan_at t b) (box_at a b) (LockAt b) ≡ held → r.place < r.length
          → b ≡ box_beyond t routes i r r.place → is_point (plan_at t (box_beyond t routes i r r.place)) ≡ true
          → first (cond held [] (grant_rows (around a i) (plan_at t b) (box_at a b) (LockAt b))) ≡ 0
          → Fitting (put a i (with_holding (around a i) r (LockAt b)) b (cond held (box_at a b) (given (around a i) (plan_at t b) (box_at a b) (LockAt b))))
      by true held next here point f =
          let own = rw here at (eqb-true (box_at a b).lock i held) in
          rw here (lock_fits next (own_free _ own) _ own ((fits h k _).used own) refl (λ s. refl))
      by false held next here point f =
          let (free, _) = (lock_grant_iff (around a i) (plan_at t b) (box_at a b) b).0 f in
          rw here
          (lock_fits next (rw here at free) (lock_given (around a i) (plan_at t (around a i).ahead) (box_at a (around a i).ahead)) refl (uses_new next point) refl (λ s. refl))
  request-fits (GiveBack b) n e f = absurd (false≢true (sym n))
  request-fits (Unlock b) n e f = absurd (false≢true (sym n))
