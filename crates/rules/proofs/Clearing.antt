-- Clear leaves trains and boxes fitting together.
use Prim.Native.Nat.{ℕ, ◌+◌, ◌-◌, ◌≤◌, ◌<◌}
use mathlib.Core.Path.{◌≡◌, refl, sym, ◌∙◌}
use mathlib.Core.Logic.{◌≢◌}
use mathlib.Core.Bool.{◌||◌, false≢true}
use mathlib.Core.List.{List}
use native.Mathlib.Decide.{ℕ_discrete}
use native.Mathlib.Omega.{arith}
use Rattle.rules.specs.declared.SwitchBox.{SwitchBox}
use Rattle.rules.specs.declared.Table.{Table}
use Rattle.rules.specs.declared.Train.{Train}
use Rattle.rules.specs.declared.Line.{Line}
use Rattle.rules.specs.Rows.{first}
use Rattle.rules.specs.Track.{plan_at, route_at}
use Rattle.rules.specs.Line.{around_on, around, box_at, train_at, holder_of, set_holder}
use Rattle.rules.specs.Steps.{clear_rows, cleared, released}
use Rattle.rules.specs.Safety.{TrainOf, Covers, place_in}
use Rattle.rules.specs.Invariant.{box_beyond, CrossesAt, Needs, ahead, crossed, near_recorded, far_recorded, NeedsLock, crossed_point, lock_recorded, UsesLock, Fitting}
use Rattle.rules.proofs.Routes.{between, far_once}
use Rattle.rules.proofs.Tests.{or_left, or_right}
use Rattle.rules.proofs.Frames.{put, holder_other}
use Rattle.rules.proofs.StepKinds.{after_clear}
use Rattle.rules.proofs.StepRows.{clear_iff}
use Rattle.rules.proofs.Change.{passed_box, Steady, no_more, uses_by, change_fits, crossed_once, fits, front_low, apart_still}

-- Train i of a line without messages clears its tail.
module _ {a : Line} (h : Steady a) {i : ℕ} (k : TrainOf a.table i) where
  abbrev t : Table
  t = a.table

  abbrev routes : List ℕ
  routes = a.routes

  abbrev r : Train
  r = train_at a i

  -- Clear: the train gives up the last place that it covers; what it needs from now on lies at boxes further on.
  module _ (two : 2 ≤ r.covered) where
    abbrev last : ℕ
    last = r.place + 1 - r.covered

    abbrev box_passed : ℕ
    box_passed = box_beyond t routes i r last

    abbrev freed : SwitchBox
    freed = released (plan_at t box_passed) (box_at a box_passed) (route_at routes i last) (route_at routes i (last + 1))

    passing : CrossesAt t routes i r last box_passed
    passing =
        let tail = (h.placed i k).tail in
        record {
          from = record { behind = omega arith; ahead = omega arith };
          to = record { behind = omega arith; ahead = omega arith };
          between = refl;
        }

    -- Box c lies beyond a place after the last. So it is not the box passed: a route comes to no box twice.
    record Further (c : ℕ) : Type 0 where
      place : ℕ
      after : last < place
      within : place ≤ r.length
      there : box_beyond t routes i r place ≡ c

    further : {c : ℕ} → Further c → c ≢ box_passed
    further f e =
        let place = h.placed i k in
        let same =
        far_once h.accepted.no_loop place.route f.place last (omega (arith, f.after)) f.within
        (omega (arith, place.tail)) (omega (arith, place.front, place.some)) (f.there ∙ e) in
        omega (arith, f.after, same)

    covers_cleared : {q : ℕ} → Covers (place_in (cleared r)) q → Covers (place_in r) q × Further (box_beyond t routes i r q)
    unfolding cleared
    covers_cleared {q} w =
        let place = h.placed i k in (
          record { behind = omega (arith, w.behind); ahead = w.ahead },
          record { place = q; after = omega (arith, w.behind, place.tail); within = omega (arith, w.ahead, place.front); there = refl },
        )

    crosses-cleared : {q c : ℕ} → CrossesAt t routes i (cleared r) q c → CrossesAt t routes i r q c × Further c
    unfolding cleared
    crosses-cleared w =
        let (from, beyond) = covers_cleared w.from in
        (record { from = from; to = (covers_cleared w.to).0; between = w.between }, rw w.between at beyond)

    needs_cleared : {c s : ℕ} → Needs t routes i (cleared r) c s → Needs t routes i r c s × Further c
    unfolding cleared
    needs_cleared (ahead w) = let (u, beyond) = covers_cleared w in (ahead u, beyond)
    needs_cleared (crossed w) = let (u, beyond) = crosses-cleared w in (crossed u, beyond)
    needs_cleared (near_recorded e) =
        let next = h.fitting.with_next i k (or_left (r.near || r.far) r.lock (or_left r.near r.far e)) in (
          near_recorded e,
          record {
            place = r.place;
            after = omega (arith, (front_low h k));
            within = omega arith;
            there = between (h.placed i k).route r.place (front_low h k) next;
          },
        )
    needs_cleared (far_recorded e) =
        let next = h.fitting.with_next i k (or_left (r.near || r.far) r.lock (or_right r.near r.far e)) in
        (far_recorded e, record { place = r.place + 1; after = omega arith; within = omega arith; there = refl })

    locks-cleared : {c : ℕ} → NeedsLock t routes i (cleared r) c → NeedsLock t routes i r c × Further c
    unfolding cleared
    locks-cleared (crossed_point w p) = let (u, beyond) = crosses-cleared w in (crossed_point u p, beyond)
    locks-cleared (lock_recorded e) =
        (lock_recorded e, record { place = r.place; after = omega (arith, (front_low h k)); within = (h.placed i k).front; there = refl })

    -- What it covers and crosses at other boxes it still does.
    covers_on_cleared : {q : ℕ} → Covers (place_in r) q → box_beyond t routes i r q ≢ box_passed → Covers (place_in (cleared r)) q
    unfolding cleared
    covers_on_cleared {q} w n =
        elim (ℕ_discrete q last) [
          | yes e ↦ absurd (n (rw e))
          | no m ↦ record { behind = omega (arith, w.behind, (h.placed i k).tail); ahead = w.ahead }
        ]

    crosses_on : {q c : ℕ} → c ≢ box_passed → CrossesAt t routes i r q c → CrossesAt t routes i (cleared r) q c
    unfolding cleared
    crosses_on n w =
        let from = covers_on_cleared w.from (λ f. n (sym w.between ∙ f)) in
        record { from = from; to = record { behind = omega (arith, from.behind); ahead = w.to.ahead }; between = w.between }

    uses_cleared : (c : ℕ) → c ≢ box_passed → (y : ℕ) → UsesLock t routes i r c y → UsesLock t routes i (cleared r) c y
    unfolding cleared
    uses_cleared c n y u = uses_by refl refl u (covers_on_cleared u.covered (λ f. n (sym u.there ∙ f)))

    -- What it frees was its own.
    others_spared : (j s : ℕ) → j ≢ i → holder_of (plan_at t box_passed) (box_at a box_passed) s ≡ j
        → holder_of (plan_at t box_passed) freed s ≡ j
    unfolding released holder_of
    others_spared j s n e =
        holder_other (plan_at t box_passed) _ _ 0 (λ f. n (sym e ∙ rw f ((fits h k _).reserved _ (crossed passing))))
        ∙ holder_other (plan_at t box_passed) _ _ 0 (λ f. n (sym e ∙ rw f ((fits h k _).reserved _ (ahead passing.from))))
        ∙ e

    cleared-fits : Fitting (put a i (cleared r) box_passed freed)
    unfolding cleared released set_holder
    cleared-fits =
        change_fits h k (passed_box h.accepted (h.placed i k)) {x = freed} record {
          apart = λ j kj n p q cp. apart_still h k j kj n p q (covers_cleared cp).0;
          here = record {
            reserved = λ s w. absurd (further (needs_cleared w).1 refl);
            locked = λ w. absurd (further (locks-cleared w).1 refl);
            used = λ e. absurd (omega (arith, k.low, e));
            sensed = λ q w. absurd (further (crosses-cleared w).1 refl);
          };
          elsewhere = λ c n. no_more (record {
            needs = λ s w. (needs_cleared w).0;
            locks = λ w. (locks-cleared w).0;
            uses = uses_cleared c n;
            crosses = λ q w. (crosses-cleared w).0;
          }) (fits h k c);
          others = λ j kj n f. record {
            reserved = λ s w. others_spared j s n (f.reserved s w);
            locked = λ w.
                let e = f.locked w in
                absurd (n (sym e ∙ (fits h k _).locked (crossed_point passing (f.used e).point)));
            used = λ e. absurd (omega (arith, kj.low, e));
            sensed = λ q w. absurd (n (crossed_once h kj k w passing));
          };
          with_next = h.fitting.with_next i k;
          crossed_here = λ e. absurd (false≢true e);
          crossed_elsewhere = λ c n q w. crosses_on n w;
        }

  -- Where the row of codes stops nothing.
  pub clear-fits : first (clear_rows r) ≡ 0 → Fitting (after_clear a i)
  unfolding around around_on
  clear-fits e =
      let two = (clear_iff r).0 e in
      let second : r.place + 2 - r.covered ≡ r.place + 1 - r.covered + 1 = omega (arith, (h.placed i k).tail) in
      rw second (cleared-fits two)
