-- Demand 3: what each step keeps holds after every list of steps.
use Prim.Native.Nat.{ℕ, ◌+◌}
use mathlib.Core.Path.{◌≡◌, refl, sym, ◌∙◌, ap}
use mathlib.Core.Bool.{true, false}
use mathlib.Core.List.{List, [], ◌∷◌, ◌++◌}
use native.Mathlib.Omega.{arith}
use Rattle.rules.specs.declared.Table.{Table}
use Rattle.rules.specs.declared.SwitchBox.{SwitchBox}
use Rattle.rules.specs.declared.Train.{Train}
use Rattle.rules.specs.declared.Line.{Line}
use Rattle.rules.specs.Track.{plan_at, train_plan_at, route_at, track_of, far_box, is_point, joins}
use Rattle.rules.specs.Line.{start_train, start_line, box_at, train_at, holder_of}
use Rattle.rules.specs.Steps.{Step, step}
use Rattle.rules.specs.History.{Call, ◌answered◌, Place, start_place, line_after, events, moved_by, place_after}
use Rattle.rules.specs.Atomic.{Kept, keep, kept_by, none_kept, is_granted, added, order_from, order, atomic_step, stopped}
use Rattle.rules.specs.Safety.{TrainOf, on_route, Covers, Fixed, place_of, reached, where_is, ordered, atomic, CrossesBox, Safe, Demand3}
use Rattle.rules.specs.Consequences.{granted_after}
use Rattle.rules.specs.Invariant.{Counts, quiet, settling, believing, believed, CrossesAt, ahead, crossed_point, Invariant}
use Rattle.rules.proofs.Tests.{or-false_iff}
use Rattle.rules.proofs.Accepted.{Accepted}
use Rattle.rules.proofs.Routes.{far_once}
use Rattle.rules.proofs.Files.{file_iff}
use Rattle.rules.proofs.StepKinds.{does}
use Rattle.rules.proofs.Change.{Steady}
use Rattle.rules.proofs.Start.{start_train_lem, start_message, quiet_start, start_invariant}
use Rattle.rules.proofs.Settled.{sized, alike_quiet, box-quiet}
use Rattle.rules.proofs.Simulates.{Remembers, simulates}
use Rattle.rules.proofs.StepRows.{not_open}
use Rattle.rules.proofs.Again.{steady}
use Rattle.rules.proofs.Keeps.{keeps, keeps_all}
use Rattle.rules.proofs.Moves.{place_alike, table_stays, fixed_stays, places_move, boxes_still}

-- Two lists of steps, one after the other: the line after them, and whether one of them is stopped.
line-append : (call : Call) (l : Line) (a b : List Step)
    → line_after call l (a ++ b) ≡ line_after call (line_after call l a) b
unfolding line_after
line-append call l [] b = refl
line-append call l (s ∷ a) b = line-append call (call l s).line a b

unstopped-append : (call : Call) (l : Line) (a b : List Step)
    → stopped (events call l a) ≡ false → stopped (events call (line_after call l a) b) ≡ false
    → stopped (events call l (a ++ b)) ≡ false
unfolding line_after events stopped
unstopped-append call l [] b h k = k
unstopped-append call l (s ∷ a) b h k =
    let (this, rest) = simp or-false_iff at h in
    simp or-false_iff (this, unstopped-append call (call l s).line a b rest k)

-- The settled line and the atomic line have the line's places, table, routes, directions and route lengths.
quiet-fixed : (n : Counts) {t : Table} {l : Line} → Fixed t l → Fixed t (quiet n l)
unfolding quiet
quiet-fixed n {t} {l} f =
    record {
      table = f.table;
      routes = f.routes;
      directions = λ i k. (alike_quiet n l i).direction ∙ f.directions i k;
      lengths = λ i k. (alike_quiet n l i).length ∙ f.lengths i k;
    }

-- A line has the table, the routes and the directions of t, and train i is at this place: what t says of its crossing, the line
-- says.
crosses_on : {t : Table} {l : Line} → Fixed t l → {i : ℕ} → TrainOf t i → {at : Place} → place_of l i ≡ at → {q b : ℕ}
    → CrossesBox t i at q b → CrossesAt l.table l.routes i (train_at l i) q b
crosses_on f {i} k p c = rw (p, f.directions i k, f.table, f.routes) c

-- Where trains and boxes fit together, the position of a crossed point joins the two segments covered there.
crossed-joined
    : {a : Line} → Steady a → {i : ℕ} → TrainOf a.table i → {q b : ℕ}
    → CrossesAt a.table a.routes i (train_at a i) q b → is_point (plan_at a.table b) ≡ true
    → joins (plan_at a.table b) (box_at a b).position (route_at a.routes i q) (route_at a.routes i (q + 1)) ≡ true
crossed-joined h {i} k {q} {b} c e =
    let place = h.placed i k in
    let fits = h.fitting.fits i k b in
    let u = fits.used (fits.locked (crossed_point c e)) in
    let once = far_once h.accepted.no_loop place.route in
    let same = once u.place q (omega arith) (omega arith) (omega arith) (omega arith) (u.there ∙ sym c.between) in
    rw same at u.joined

-- A list of steps from a line on which the invariant holds, with the requests kept before it.
pub record Ran (kept : Kept) (l : Line) (steps : List Step) : Type 0 where
  pub atomic
      : line_after atomic_step (believed (is_granted kept) l) (order_from kept (events step l steps))
      ≡ believed (is_granted (kept_by kept (events step l steps))) (line_after step l steps)
  pub unstopped : stopped (events atomic_step (believed (is_granted kept) l) (order_from kept (events step l steps))) ≡ false
  pub fixed : (t : Table) → Fixed t l → Fixed t (line_after step l steps)
  pub places
      : (i : ℕ) → TrainOf l.table i → place_of (line_after step l steps) i ≡ moved_by i (place_of l i) (events step l steps)

pub ran : (kept : Kept) (l : Line) → Invariant (is_granted kept) l → Remembers kept l → (steps : List Step) → Ran kept l steps
unfolding line_after events order_from kept_by moved_by stopped
ran kept l h k [] =
    record {
      atomic = refl;
      unstopped = refl;
      fixed = λ t f. f;
      places = λ i t. refl;
    }
ran kept l h k (s ∷ rest) =
    let o = step l s in
    let e = s answered o.code in
    let d = does l s in
    let now = simulates kept l h k s o d in
    let later = ran (keep kept e) o.line (keeps kept l h s o d) now.remembers rest in
    record {
      atomic = rw (line-append, now.line) later.atomic;
      unstopped = unstopped-append atomic_step (believed (is_granted kept) l) (added kept e) (order_from (keep kept e) (events step o.line rest))
          now.unstopped (rw now.line later.unstopped);
      fixed = λ t f. later.fixed t (fixed_stays d f);
      places = λ i t. rw (places_move d (sized h) i t) at (later.places i (rw (table_stays d) t));
    }

-- After a list of steps from the start line of an accepted table.
module _ {t : Table} (a : Accepted t) where
  from_start : (steps : List Step) → Ran none_kept (start_line t) steps
  from_start =
      ran none_kept (start_line t) (start_invariant t a (is_granted none_kept))
      (record { request = λ i k q o. absurd (not_open (start_message t a i) o) })

  pub start_fixed : Fixed t (start_line t)
  unfolding start_line start_train train_plan_at
  start_fixed =
      record {
        table = refl;
        routes = refl;
        directions = λ i k. ap (λ (r : Train). r.direction) (start_train_lem t a i k);
        lengths = λ i k. ap (λ (r : Train). r.length) (start_train_lem t a i k);
      }

  start_place_lem : (i : ℕ) → TrainOf t i → place_of (start_line t) i ≡ start_place
  unfolding start_train
  start_place_lem i k = rw (start_train_lem t a i k)

  module _ (steps : List Step) where
    -- The invariant holds; the atomic line is the line as its trains believe it, and nothing was stopped; the table, the routes and the
    -- places of the accepted moves are the line's.
    pub invariant_after : Invariant (granted_after t steps) (reached t steps)
    invariant_after = keeps_all none_kept (start_line t) (start_invariant t a (is_granted none_kept)) steps

    pub same_atomic : atomic t steps ≡ believed (granted_after t steps) (reached t steps)
    unfolding order
    same_atomic = rw (quiet_start t a (believing (is_granted none_kept))) at (from_start steps).atomic

    nothing_stopped : stopped (events atomic_step (start_line t) (ordered t steps)) ≡ false
    unfolding order
    nothing_stopped = rw (quiet_start t a (believing (is_granted none_kept))) at (from_start steps).unstopped

    pub line-fixed : Fixed t (reached t steps)
    line-fixed = (from_start steps).fixed t start_fixed

    pub line-place : (i : ℕ) → TrainOf t i → place_of (reached t steps) i ≡ where_is t steps i
    unfolding place_after
    line-place i k = rw (start_place_lem i k) at ((from_start steps).places i (rw start_fixed.table k))

    -- So are they the settled line's and the atomic line's; and the settled line crosses the same boxes.
    quiet_placed : (n : Counts) (i : ℕ) → TrainOf t i → place_of (quiet n (reached t steps)) i ≡ where_is t steps i
    quiet_placed n i k = place_alike (alike_quiet n (reached t steps) i) ∙ line-place i k

    abbrev settles : Counts
    settles = settling (granted_after t steps)

    abbrev settled_line : Line
    settled_line = quiet settles (reached t steps)

    known : {i : ℕ} → TrainOf t i → TrainOf settled_line.table i
    known k = rw (quiet-fixed settles line-fixed).table k

    crosses : {i : ℕ} → TrainOf t i → {q b : ℕ} → CrossesBox t i (where_is t steps i) q b
        → CrossesAt settled_line.table settled_line.routes i (train_at settled_line i) q b
    crosses {i} k c = crosses_on (quiet-fixed settles line-fixed) k (quiet_placed settles i k) c

    -- Crossed boxes are sensed, and the atomic line has the same boxes.
    pub sensed-there : {i : ℕ} → TrainOf t i → {q b : ℕ} → CrossesBox t i (where_is t steps i) q b
        → (box_at (reached t steps) b).sensor ≡ true
    sensed-there {i} k {q} {b} c =
        rw (box-quiet settles) at ((invariant_after.fitting.fits i (known k) b).sensed q (crosses k c))

    -- Each covered segment is reserved for its train at the box ahead of it.
    pub covered-held : {i : ℕ} → TrainOf t i → {q : ℕ} → Covers (where_is t steps i) q
        → let b = far_box (track_of t) (train_plan_at t i).direction (on_route t i q) in
        holder_of (plan_at t b) (box_at (reached t steps) b) (on_route t i q) ≡ i
    covered-held {i} k {q} c =
        let f = quiet-fixed settles line-fixed in
        rw (box-quiet settles, f.directions i k, f.routes, f.table) at
        ((invariant_after.fitting.fits i (known k) _).reserved _ (ahead {q = q} (rw (quiet_placed settles i k) c)))

    same_box : (b : ℕ) → box_at (reached t steps) b ≡ box_at (atomic t steps) b
    same_box b = rw (same_atomic, box-quiet)

  reached-next : (steps : List Step) (s : Step) → reached t (steps ++ (s ∷ [])) ≡ (step (reached t steps) s).line
  unfolding line_after
  reached-next steps s = line-append step (start_line t) steps (s ∷ [])

  safe : (steps : List Step) → Safe t steps
  safe steps =
      record {
        apart = λ i j k m p q c d e. (invariant_after steps).fitting.apart i j (known steps k) (known steps m) p q
            (rw (quiet_placed steps (settles steps) i k) c) (rw (quiet_placed steps (settles steps) j m) d)
            (rw (quiet-fixed (settles steps) (line-fixed steps)).routes e);
        within = λ i k.
            let front = ((steady (invariant_after steps)).placed i (known steps k)).front in
            let place = ap (λ (p : Place). p.place) (quiet_placed steps (settles steps) i k) in
            let length = (quiet-fixed (settles steps) (line-fixed steps)).lengths i k in
            omega arith;
        joined = λ i k q b c e.
            let f = quiet-fixed (settles steps) (line-fixed steps) in
            rw (box-quiet (settles steps), f.table, f.routes) at
            (crossed-joined (steady (invariant_after steps)) (known steps k) (crosses steps k c) (rw f.table e));
        still = λ s i k q b c. (boxes_still (does (reached t steps) s) b).before (sensed-there steps k c);
        still_after = λ s i k q b c.
            (boxes_still (does (reached t steps) s) b).after (rw (reached-next steps s) at (sensed-there (steps ++ (s ∷ [])) k c));
        sound = (invariant_after steps).sound;
        fixed = line-fixed steps;
        atomic_fixed = rw (same_atomic steps) (quiet-fixed (believing (granted_after t steps)) (line-fixed steps));
        unstopped = nothing_stopped steps;
        places = line-place steps;
        atomic_places = rw (same_atomic steps) (quiet_placed steps (believing (granted_after t steps)));
        sensors = λ b. ap (λ (x : SwitchBox). x.sensor) (same_box steps b);
        positions = λ b. ap (λ (x : SwitchBox). x.position) (same_box steps b);
        locks = λ b. ap (λ (x : SwitchBox). x.lock) (same_box steps b);
        stems = λ b. ap (λ (x : SwitchBox). x.stem) (same_box steps b);
        lefts = λ b. ap (λ (x : SwitchBox). x.left) (same_box steps b);
        rights = λ b. ap (λ (x : SwitchBox). x.right) (same_box steps b);
      }

pub demand_3 : Demand3
demand_3 bytes e = safe ((file_iff bytes).0 e).table
