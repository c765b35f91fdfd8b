-- The invariant holds on the start line of every accepted table.
use Prim.Native.Nat.{ℕ, zero, suc, ◌≤◌}
use mathlib.Core.Path.{◌≡◌, refl, ◌∙◌}
use mathlib.Core.Bool.{Bool, true, false, false≢true}
use mathlib.Core.List.{List}
use native.Mathlib.Decide.{ℕ_discrete}
use native.Mathlib.Omega.{arith}
use Rattle.rules.specs.declared.TrainPlan.{TrainPlan}
use Rattle.rules.specs.declared.Table.{Table}
use Rattle.rules.specs.declared.SwitchBox.{SwitchBox}
use Rattle.rules.specs.declared.Message.TheVariants.{Idle}
use Rattle.rules.specs.declared.Train.{Train}
use Rattle.rules.specs.Track.{plan_at, train_plan_at, Track, track_of, far_box}
use Rattle.rules.specs.Network.{lists}
use Rattle.rules.specs.Line.{no_box, no_train, box_at, train_at, holder_of, start_train, starts_on, start_holder, start_box_with, start_box, start_line}
use Rattle.rules.specs.Record.{message_fault, record_fault}
use Rattle.rules.specs.History.{start_place}
use Rattle.rules.specs.Safety.{TrainOf, Covers, Crosses, on_route}
use Rattle.rules.specs.Invariant.{Granted, Counts, quiet, settling, answered, Needs, ahead, crossed, near_recorded, far_recorded, NeedsLock, crossed_point, lock_recorded, Fitting, Invariant}
use Rattle.rules.proofs.Tests.{facts, not_passed, cond_each}
use Rattle.rules.proofs.Rows.{filled-length, filled_record, filled_each}
use Rattle.rules.proofs.Accepted.{Accepted, BoxOf}
use Rattle.rules.proofs.Boxes.{far_box_lem, far_listed}
use Rattle.rules.proofs.Frames.{holder-read}
use Rattle.rules.proofs.Sound.{silent, sound_iff}
use Rattle.rules.proofs.StepRows.{not_open}
use Rattle.rules.proofs.Settled.{line_quiet}

-- The train that a segment is reserved for at the start: one of the trains looked at, or nobody; and the only one of them that
-- starts there.
module _ (track : Track) (trains : List TrainPlan) (routes : List ℕ) (b s : ℕ) where
  abbrev starts : ℕ → Bool
  starts = starts_on track trains routes b s

  abbrev holder : ℕ → ℕ
  holder = start_holder track trains routes b s

  start_holder_low : (j : ℕ) → holder j ≤ j
  unfolding start_holder
  start_holder_low zero = omega arith
  start_holder_low (suc j) =
      cond_each (λ n. n ≤ suc j) (starts (suc j)) (suc j) (holder j) (λ _. omega arith) (λ _. omega (arith, start_holder_low j))

  start-holder
      : (i j : ℕ) → starts i ≡ true → 1 ≤ i → i ≤ j → ((p : ℕ) → 1 ≤ p → p ≤ j → starts p ≡ true → p ≡ i) → holder j ≡ i
  unfolding start_holder
  start-holder i zero e low high only = absurd (omega arith)
  start-holder i (suc j) e low high only =
      elim (ℕ_discrete (suc j) i) [
        | yes f ↦ rw (f, e)
        | no n ↦ rw (not_passed (starts (suc j)) (λ h. n (only (suc j) (omega arith) (omega arith) h)))
            (start-holder i j e low (omega arith) (λ p l h. only p l (omega arith)))
      ]

-- It is what the box reads for a segment that it lists.
start-reads
    : (t : Table) (b s : ℕ) → lists (plan_at t b) s ≡ true
    → holder_of (plan_at t b) (start_box t b) s ≡ holder (track_of t) t.trains t.routes b s t.k
unfolding start_box start_box_with plan_at
start-reads t b s h =
    holder-read (plan_at t b) (start_box t b) s (λ z. z ≡ holder (track_of t) t.trains t.routes b s t.k) h (λ e. rw e)
    (λ e. rw e) (λ e. rw e)

-- A train at the start covers its first place only, so it crosses no box; and it needs no lock.
start_covers : {q : ℕ} → Covers start_place q → q ≡ 1
start_covers c = omega arith

start_crosses : {t : Table} {routes : List ℕ} {i d q b : ℕ} → Crosses t routes i d start_place q b → ⊥
start_crosses c = omega arith

start_needs_no_lock : {t : Table} {i b : ℕ} → NeedsLock t t.routes i (start_train t.trains i) b → ⊥
unfolding start_train
start_needs_no_lock (crossed_point c e) = start_crosses c
start_needs_no_lock (lock_recorded e) = false≢true e

module _ (t : Table) (a : Accepted t) where
  -- The trains and boxes of the start line.
  pub start_train_lem : (i : ℕ) → TrainOf t i → train_at (start_line t) i ≡ start_train t.trains i
  unfolding start_line train_at
  start_train_lem i h = filled_record (start_train t.trains) no_train 16 t.k i a.limits.trains_high h.low h.high

  start_box_lem : (b : ℕ) → BoxOf t.m b → box_at (start_line t) b ≡ start_box t b
  unfolding start_line box_at
  start_box_lem b h = filled_record (start_box t) no_box 96 t.m b a.limits.boxes_high h.low h.high

  -- What holds of each of them, and where there is none, holds of every number.
  each-start-train
      : (P : Train → Type 0) → ((i : ℕ) → TrainOf t i → P (start_train t.trains i)) → P no_train → (i : ℕ) → P (train_at (start_line t) i)
  unfolding start_line train_at
  each-start-train P these none =
      filled_each (start_train t.trains) no_train 16 t.k (λ _. P) a.limits.trains_high
      (λ i l h. these i (record { low = l; high = h })) (λ _. none)

  pub each-start-box
      : (P : ℕ → SwitchBox → Type 0) → ((b : ℕ) → P b (start_box t b)) → ((b : ℕ) → P b no_box) → (b : ℕ) → P b (box_at (start_line t) b)
  unfolding start_line box_at
  each-start-box P these none =
      filled_each (start_box t) no_box 96 t.m P a.limits.boxes_high
      (λ b l h. these b) none

  -- No train has a message, so there is none to take away. No sensor is active, and no lock is held.
  pub start_message : (i : ℕ) → (train_at (start_line t) i).message ≡ Idle
  unfolding start_train
  start_message = each-start-train (λ r. r.message ≡ Idle) (λ i h. refl) refl

  pub quiet_start : (n : Counts) → quiet n (start_line t) ≡ start_line t
  quiet_start n = line_quiet n (start_line t) start_message

  start_sensor : (b : ℕ) → (box_at (start_line t) b).sensor ≡ false
  unfolding start_box start_box_with
  start_sensor = each-start-box (λ _ x. x.sensor ≡ false) (λ b. refl) (λ b. refl)

  start_lock : (b : ℕ) → (box_at (start_line t) b).lock ≡ 0
  unfolding start_box start_box_with
  start_lock = each-start-box (λ _ x. x.lock ≡ 0) (λ b. refl) (λ b. refl)

  -- The first segment of a train is reserved for it at the box ahead.
  start_reserved : (i : ℕ) → TrainOf t i
      → let s = on_route t i 1 in
      let b = far_box (track_of t) (train_plan_at t i).direction s in
      holder_of (plan_at t b) (box_at (start_line t) b) s ≡ i
  unfolding starts_on train_plan_at
  start_reserved i h =
      let route = a.routes i h in
      let d = (train_plan_at t i).direction in
      let s = on_route t i 1 in
      let b = far_box (track_of t) d s in
      let segment = route.segment 1 (omega arith) route.low in
      rw (start_box_lem b (far_box_lem a d s segment))
      (start-reads t b s (far_listed a d s segment)
      ∙ start-holder (track_of t) t.trains t.routes b s i t.k (simp facts (refl, refl)) h.low h.high
      (λ p low high e. a.starts p i (record { low = low; high = high }) h (simp facts at e).0))

  -- So what a train needs at the start is reserved for it.
  start-needs
      : (i : ℕ) → TrainOf t i → {b s : ℕ} → Needs t t.routes i (start_train t.trains i) b s
      → holder_of (plan_at t b) (box_at (start_line t) b) s ≡ i
  unfolding start_train train_plan_at
  start-needs i h (ahead c) = rw (start_covers c) (start_reserved i h)
  start-needs i h (crossed c) = absurd (start_crosses c)
  start-needs i h (near_recorded e) = absurd (false≢true e)
  start-needs i h (far_recorded e) = absurd (false≢true e)

  -- The record check finds nothing, and trains and boxes fit together: so the invariant holds.
  start_sound : record_fault (start_line t) ≡ false
  unfolding start_line start_train start_box start_box_with message_fault plan_at train_plan_at
  start_sound =
      (sound_iff (start_line t)).1 (
      record {
        table = a;
        trains = λ i h.
            let route = a.routes i h in
            rw (start_train_lem i h)
            (record { route = route; some = omega arith; most = omega arith; tail = omega arith; front = route.low });
        messages = λ i h. rw (start_train_lem i h) silent;
        boxes = λ b h.
            rw (start_box_lem b h) (
            record {
              position = (a.plans b h).position;
              lock = omega arith;
              stem = start_holder_low _ _ _ b _ t.k;
              left = start_holder_low _ _ _ b _ t.k;
              right = start_holder_low _ _ _ b _ t.k;
            });
      })

  start_fitting : Fitting (start_line t)
  unfolding start_line start_train
  start_fitting =
      record {
        apart = λ i j hi hj p q c d e.
            let first : p ≡ 1 = start_covers (rw (start_train_lem i hi) at c) in
            let other : q ≡ 1 = start_covers (rw (start_train_lem j hj) at d) in
            a.starts i j hi hj (rw (first, other) at e);
        fits = λ i h b.
            rw (start_train_lem i h) (
            record {
              reserved = λ s n. start-needs i h n;
              locked = λ n. absurd (start_needs_no_lock n);
              used = λ e. absurd (omega (arith, start_lock b));
              sensed = λ q c. absurd (start_crosses c);
            });
        with_next = λ i h e. absurd (false≢true (rw (start_train_lem i h) at e));
        sensed_crossed = λ b e. absurd (false≢true (rw (start_sensor b) at e));
      }

  pub start_invariant : (g : Granted) → Invariant g (start_line t)
  unfolding start_line
  start_invariant g =
      record {
        boxes = filled-length 96 no_box _;
        trains = filled-length 16 no_train _;
        sound = start_sound;
        unrecorded = λ i h q o. absurd (not_open (start_message i) o);
        answers = λ i h q c e. absurd (not_open {q = q} (start_message i) (rw e answered));
        returned = λ i h q o. absurd (not_open (start_message i) o);
        fitting = rw (quiet_start (settling g)) start_fitting;
      }
