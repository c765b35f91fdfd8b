-- Enter leaves trains and boxes fitting together.
use Prim.Native.Nat.{ℕ, ◌+◌, ◌<◌}
use mathlib.Core.Path.{◌≡◌, refl, sym, ◌∙◌, ap}
use mathlib.Core.Logic.{◌⊎◌, inl, inr, ⊎_elim}
use mathlib.Core.Bool.{true, false≢true}
use mathlib.Core.List.{List}
use native.Mathlib.Decide.{ℕ_discrete}
use native.Mathlib.Omega.{arith}
use Rattle.rules.specs.declared.Table.{Table}
use Rattle.rules.specs.declared.Train.{Train}
use Rattle.rules.specs.declared.Line.{Line}
use Rattle.rules.specs.Rows.{first}
use Rattle.rules.specs.Track.{plan_at, route_at, far_box, is_point, track_of}
use Rattle.rules.specs.Line.{around_on, around, box_at, train_at, holder_of}
use Rattle.rules.specs.Steps.{enter_rows, entered, sensed}
use Rattle.rules.specs.Safety.{TrainOf, Covers, place_in, place_of}
use Rattle.rules.specs.Invariant.{box_beyond, CrossesAt, Needs, ahead, crossed, near_recorded, far_recorded, NeedsLock, crossed_point, lock_recorded, UsesLock, Fitting}
use Rattle.rules.proofs.Accepted.{back, far_back, either_end}
use Rattle.rules.proofs.Routes.{between}
use Rattle.rules.proofs.Frames.{put}
use Rattle.rules.proofs.StepKinds.{after_enter}
use Rattle.rules.proofs.StepRows.{enter_iff}
use Rattle.rules.proofs.Change.{ahead-box, Steady, no_more, uses_by, change_fits, fits, front_low, apart_still}

-- Train i of a line without messages enters next.
module _ {a : Line} (h : Steady a) {i : ℕ} (k : TrainOf a.table i) where
  abbrev t : Table
  t = a.table

  abbrev routes : List ℕ
  routes = a.routes

  abbrev r : Train
  r = train_at a i

  -- Its next segment, where it has one.
  abbrev asked : ℕ
  asked = route_at routes i (r.place + 1)

  -- Enter: what the train needs from now on it needed before, as its next segment with both ends and the lock.
  module _ (next : r.place < r.length) (near_held : r.near ≡ true) (far_held : r.far ≡ true)
      (lock_held : is_point (plan_at t (box_beyond t routes i r r.place)) ≡ true → r.lock ≡ true) where
    abbrev box-entered : ℕ
    box-entered = box_beyond t routes i r r.place

    covers_entered : {q : ℕ} → Covers (place_in (entered r)) q → (q ≡ r.place + 1) ⊎ Covers (place_in r) q
    unfolding entered
    covers_entered {q} w =
        elim (ℕ_discrete q (r.place + 1)) [
          | yes e ↦ inl e
          | no n ↦ inr (record { behind = omega (arith, w.behind); ahead = omega (arith, w.ahead) })
        ]

    covers_on : {q : ℕ} → Covers (place_in r) q → Covers (place_in (entered r)) q
    unfolding entered
    covers_on w = record { behind = omega (arith, w.behind); ahead = omega (arith, w.ahead) }

    crosses-entered : {q c : ℕ} → CrossesAt t routes i (entered r) q c
        → ((q ≡ r.place) × (c ≡ box-entered)) ⊎ CrossesAt t routes i r q c
    unfolding entered
    crosses-entered {q} w =
        elim (ℕ_discrete q r.place) [
          | yes e ↦ inl (e, rw e at (sym w.between))
          | no n ↦ inr (
              record {
                from = record { behind = omega (arith, w.from.behind); ahead = omega (arith, w.to.ahead) };
                to = record { behind = omega (arith, w.from.behind); ahead = omega (arith, w.to.ahead) };
                between = w.between;
              })
        ]

    needs_entered : {c s : ℕ} → Needs t routes i (entered r) c s → Needs t routes i r c s
    unfolding entered
    needs_entered (ahead w) = ⊎_elim (λ e. rw e (far_recorded far_held)) ahead (covers_entered w)
    needs_entered (crossed w) =
        ⊎_elim
        (λ (e, f). rw (e, f, between (h.placed i k).route r.place (front_low h k) next) (near_recorded near_held))
        crossed
        (crosses-entered w)
    needs_entered (near_recorded e) = absurd (false≢true e)
    needs_entered (far_recorded e) = absurd (false≢true e)

    locks-entered : {c : ℕ} → NeedsLock t routes i (entered r) c → NeedsLock t routes i r c
    unfolding entered
    locks-entered (crossed_point w p) =
        ⊎_elim (λ (e, f). rw f (lock_recorded (lock_held (rw f at p)))) (λ u. crossed_point u p) (crosses-entered w)
    locks-entered (lock_recorded e) = absurd (false≢true e)

    uses_entered : (c y : ℕ) → UsesLock t routes i r c y → UsesLock t routes i (entered r) c y
    unfolding entered
    uses_entered c y u = uses_by refl refl u (covers_on u.covered)

    -- Nobody else is on next: at whichever end another on it has ahead, next is reserved for this train.
    next_empty : (j : ℕ) → TrainOf t j → (q : ℕ) → Covers (place_of a j) q → asked ≡ route_at routes j q → i ≡ j
    next_empty j kj q w e =
        let d = (train_at a j).direction in
        let holder : ℕ → ℕ = λ b. holder_of (plan_at t b) (box_at a b) asked in
        let theirs : holder (far_box (track_of t) d asked) ≡ j = rw e ((h.fitting.fits j kj _).reserved _ (ahead w)) in
        ⊎_elim
        (λ f. sym ((fits h k _).reserved _ (near_recorded near_held)) ∙ ap holder (f ∙ sym (far_back (track_of t) d asked)) ∙ theirs)
        (λ f. sym ((fits h k _).reserved _ (far_recorded far_held)) ∙ ap holder (f ∙ sym (far_back (track_of t) d asked)) ∙ theirs)
        (either_end (track_of t) asked r.direction (back d))

    entering : CrossesAt t routes i (entered r) r.place box-entered
    unfolding entered
    entering =
        let some = (h.placed i k).some in
        record {
          from = record { behind = omega arith; ahead = omega arith };
          to = record { behind = omega arith; ahead = omega arith };
          between = refl;
        }

    entered-fits : Fitting (put a i (entered r) box-entered (sensed (box_at a box-entered)))
    unfolding entered sensed holder_of
    entered-fits =
        change_fits h k (ahead-box h.accepted (h.placed i k))
        {x = sensed (box_at a box-entered)} record {
          apart = λ j kj n p q cp cq e.
              ⊎_elim
              (λ f. n (sym (next_empty j kj q cq (rw f at e))))
              (λ w. apart_still h k j kj n p q w cq e)
              (covers_entered cp);
          here = record {
            reserved = λ s w. (fits h k box-entered).reserved s (needs_entered w);
            locked = λ w. (fits h k box-entered).locked (locks-entered w);
            used = λ e. uses_entered _ _ ((fits h k box-entered).used e);
            sensed = λ q w. refl;
          };
          elsewhere = λ c n. no_more (record {
            needs = λ s. needs_entered;
            locks = locks-entered;
            uses = uses_entered c;
            crosses = λ q w. ⊎_elim (λ (e, f). absurd (n f)) (λ u. u) (crosses-entered w);
          }) (fits h k c);
          others = λ j kj n f. record { reserved = f.reserved; locked = f.locked; used = f.used; sensed = λ q w. refl };
          with_next = λ e. absurd (false≢true e);
          crossed_here = λ _. inl (r.place, entering);
          crossed_elsewhere = λ c n q w. record { from = covers_on w.from; to = covers_on w.to; between = w.between };
        }

  -- Where the row of codes stops nothing.
  pub enter-fits : first (enter_rows (around a i) r) ≡ 0 → Fitting (after_enter a i)
  unfolding around around_on
  enter-fits e =
      let (single, (next, (near, (far, lock)))) = (enter_iff (around a i) r).0 e in
      entered-fits next near far lock
