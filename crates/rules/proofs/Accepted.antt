-- What holds of an accepted table: the conditions of codes 3, 4, 6 to 12, 28 and 32 as facts with names.
-- An end of a segment is named by a direction: the near end for a train of that direction.
use Prim.Native.Nat.{ℕ, zero, suc, ◌+◌, ◌-◌, ◌≤◌, ◌<◌}
use mathlib.Core.Path.{◌≡◌, refl, sym}
use mathlib.Core.Logic.Iff
use mathlib.Core.Logic.{◌⊎◌, inl, inr, ⊎_elim, ◌↔◌, ◌≢◌, Ne-symm}
use mathlib.Core.Bool.{Bool, true, false, ◌||◌, false≢true}
use mathlib.Core.List.{List}
use lib.Dec.{eqb, leb, eqb-suc-zero}
use native.Mathlib.Omega.{arith}
use Rattle.rules.specs.declared.Table.{Table}
use Rattle.rules.specs.declared.BoxPlan.{BoxPlan}
use Rattle.rules.specs.Ends.{Refusal}
use Rattle.rules.specs.Rows.{any_of, nth, outside}
use Rattle.rules.specs.Track.{no_box_plan, plan_at, train_plan_at, route_at, Track, track_of, way_of, runs_against, near_box, far_box, follows, is_point, position_fits}
use Rattle.rules.specs.Loop.{SegmentOf, Loop}
use Rattle.rules.specs.Network.{known_version, has_ways, some_one_way, ways_fault, limits_fault, ends_fault, segment_fault, place_fault, branches_fault, plan_fault, lists, has_end_a, has_end_b, listed_fault, side_fault, box_fault, plan_fault_at, box_fault_at, unlisted_fault, head_rows, network_rows}
use Rattle.rules.specs.Placing.{first_of, route_shape_fault, place_rows, route_place_fault, route_fault, start_fault, start_against_at, shape_fault_at, route_fault_at, routes_fault, placing_rows, parts_code, table_code}
use Rattle.rules.specs.Safety.{TrainOf, on_route}
use Rattle.rules.proofs.Tests.{facts, or-true_iff, eqb-true_iff, leb-true_iff, outside-false_iff, first-none, first_zero_iff, first-code_iff}
use Rattle.rules.proofs.Rows.{any_false_iff, once}
use Rattle.rules.proofs.Loop.{no_loop_iff}
use Rattle.rules.proofs.RouteFault.{first_of_zero_iff}

-- A number of one of m boxes.
pub record BoxOf (m : ℕ) (b : ℕ) : Type 0 where
  pub low : 1 ≤ b
  pub high : b ≤ m

-- Code 4: the numbers of segments, boxes and trains are within their limits.
pub record Limits (n m k : ℕ) : Type 0 where
  pub segments_low : 1 ≤ n
  pub segments_high : n ≤ 96
  pub boxes_low : 2 ≤ m
  pub boxes_high : m ≤ 96
  pub trains_high : k ≤ 16

-- Code 6: each end of segment s is at one of m boxes, and the two are not at one box.
pub record Ends (m : ℕ) (track : Track) (s : ℕ) : Type 0 where
  pub box : (d : ℕ) → BoxOf m (near_box track d s)
  pub differ : (d : ℕ) → near_box track d s ≢ far_box track d s

-- Code 7: what stands at a place of a box that is used in this case only.
pub record UsedIf (n : ℕ) (case : Type 0) (s : ℕ) : Type 0 where
  pub used : case → SegmentOf n s
  pub unused : ¬ case → s ≡ 0

-- Code 7: the kind of a box, what stands at its places, and its position at the start.
pub record Planned (n : ℕ) (p : BoxPlan) : Type 0 where
  pub kind : p.kind ≤ 2
  pub stem : SegmentOf n p.stem
  pub left : UsedIf n (1 ≤ p.kind) p.left
  pub right : UsedIf n (p.kind ≡ 2) p.right
  pub differ : p.kind ≡ 2 → p.left ≢ p.right
  pub position : position_fits p p.position ≡ true

-- Segment s is the branch of the box to which its position y leads: left at 1, right at 2.
pub data Branch (p : BoxPlan) (y s : ℕ) : Type 0 where
  on_left : y ≡ 1 → p.left ≡ s → Branch p y s
  on_right : y ≡ 2 → p.right ≡ s → Branch p y s

-- Segment s stands at one of the places of the box.
abbrev pub Stands : BoxPlan → ℕ → Type 0
Stands p s = (p.stem ≡ s) ⊎ ((y : ℕ) × Branch p y s)

-- Segment s has an end at box b.
pub record EndAt (track : Track) (s b : ℕ) : Type 0 where
  pub direction : ℕ
  pub there : near_box track direction s ≡ b

-- Code 8 at box b with plan p: each segment that it lists has an end there, and no branch comes to it by the same end as the stem.
pub record Sides (track : Track) (b : ℕ) (p : BoxPlan) : Type 0 where
  pub ends : (s : ℕ) → lists p s ≡ true → s ≢ 0 → EndAt track s b
  pub opposite
      : (y s : ℕ) → Branch p y s → s ≢ 0 → (d : ℕ) → near_box track d p.stem ≡ b → near_box track d s ≢ b

-- Codes 10, 11 and 28 for train i's route, of direction d and length r, as it stands in routes: its shape, and each of its places
-- is a segment that follows the one before.
pub record Routed (n : ℕ) (track : Track) (routes : List ℕ) (i d r : ℕ) : Type 0 where
  pub direction : d ≤ 1
  pub low : 1 ≤ r
  pub high : r ≤ 64
  pub segment : (p : ℕ) → 1 ≤ p → p ≤ r → SegmentOf n (route_at routes i p)
  pub next : (p : ℕ) → 1 ≤ p → p < r → follows track d (route_at routes i p) (route_at routes i (p + 1)) ≡ true

-- An accepted table.
pub record Accepted (t : Table) : Type 0 where
  -- Its version is one that is read.
  pub version : known_version t.version ≡ true
  -- Its version can hold the ways of its segments.
  pub held : has_ways t.version ≡ false → (s : ℕ) → SegmentOf t.n s → way_of t s ≡ 0
  -- Its numbers of segments, boxes and trains are within the limits.
  pub limits : Limits t.n t.m t.k
  -- Each segment runs between two boxes, both ways or one way.
  pub ends : (s : ℕ) → SegmentOf t.n s → Ends t.m (track_of t) s
  pub ways : (s : ℕ) → SegmentOf t.n s → way_of t s ≤ 2
  -- Each box has the segments that its kind asks for.
  pub plans : (b : ℕ) → BoxOf t.m b → Planned t.n (plan_at t b)
  -- Each box lists segments with an end there, the branches opposite to the stem.
  pub sides : (b : ℕ) → BoxOf t.m b → Sides (track_of t) b (plan_at t b)
  -- Each end of a segment is listed by its box.
  pub listed : (d s : ℕ) → SegmentOf t.n s → lists (plan_at t (near_box (track_of t) d s)) s ≡ true
  -- No segments follow one another in a circle.
  pub no_loop : ¬ Loop t.n (track_of t)
  -- Each train has a route.
  pub routes
      : (i : ℕ) → TrainOf t i
      → Routed t.n (track_of t) t.routes i (train_plan_at t i).direction (train_plan_at t i).length
  -- No two trains start on one segment.
  pub starts : (i j : ℕ) → TrainOf t i → TrainOf t j → on_route t i 1 ≡ on_route t j 1 → i ≡ j
  -- No train starts against the way of its segment.
  pub along : (i : ℕ) → TrainOf t i → runs_against (train_plan_at t i).direction (way_of t (on_route t i 1)) ≡ false

-- The tests of a number of a segment or box; and those over all segments, boxes and trains of a table, by which `simp` tells the
-- three numbers apart.
segment_iff : (n s : ℕ) → (outside n s ≡ false) ↔ SegmentOf n s
segment_iff n s = simp outside-false_iff (omega arith)

box_iff : (m b : ℕ) → (outside m b ≡ false) ↔ BoxOf m b
box_iff m b = simp outside-false_iff (omega arith)

any_segment_iff : (t : Table) (f : ℕ → Bool) → (any_of t.n f ≡ false) ↔ ((s : ℕ) → SegmentOf t.n s → f s ≡ false)
any_segment_iff t f = simp any_false_iff (λ e s h. e s h.low h.high, λ e s l h. e s (omega arith))

pub any_box_iff : (t : Table) (f : ℕ → Bool) → (any_of t.m f ≡ false) ↔ ((b : ℕ) → BoxOf t.m b → f b ≡ false)
any_box_iff t f = simp any_false_iff (λ e b h. e b h.low h.high, λ e b l h. e b (omega arith))

pub any_train_iff : (t : Table) (f : ℕ → Bool) → (any_of t.k f ≡ false) ↔ ((i : ℕ) → TrainOf t i → f i ≡ false)
any_train_iff t f = simp any_false_iff (λ e i h. e i h.low h.high, λ e i l h. e i (omega arith))

first-train_iff : (t : Table) (f : ℕ → Refusal) → ((first_of t.k f).code ≡ 0) ↔ ((i : ℕ) → TrainOf t i → (f i).code ≡ 0)
first-train_iff t f = simp first_of_zero_iff (λ e i h. e i h.low h.high, λ e i l h. e i (omega arith))

-- What holds of A ends and of B ends holds of the ends of every direction.
each_end : (track : Track) (P : (ℕ → ℕ) → Type 0) → P track.end_a → P track.end_b → (d : ℕ) → P (λ s. near_box track d s)
unfolding near_box
each_end track P a b zero = a
each_end track P a b (suc d) = rw eqb-suc-zero b

-- The far end for one direction is the near end for the other.
abbrev pub back : ℕ → ℕ
back zero = 1
back (suc d) = 0

pub far_back : (track : Track) (d s : ℕ) → far_box track d s ≡ near_box track (back d) s
unfolding far_box near_box
far_back track zero s = refl
far_back track (suc d) s = rw eqb-suc-zero

pub near_back : (track : Track) (d s : ℕ) → near_box track d s ≡ far_box track (back d) s
unfolding far_box near_box
near_back track zero s = refl
near_back track (suc d) s = rw eqb-suc-zero

-- Each end of a segment is its near or its far end for a train of direction d.
pub either_end : (track : Track) (s d e : ℕ) → (near_box track d s ≡ near_box track e s) ⊎ (far_box track d s ≡ near_box track e s)
unfolding near_box far_box
either_end track s zero zero = inl refl
either_end track s zero (suc e) = inr (simp eqb-suc-zero)
either_end track s (suc d) zero = inr (simp eqb-suc-zero)
either_end track s (suc d) (suc e) = inl (simp eqb-suc-zero)

-- Each condition on the records: its test finds nothing exactly where the fact holds. Code 4.
pub limits_iff : (n m k : ℕ) → (limits_fault n m k ≡ false) ↔ Limits n m k
unfolding limits_fault
limits_iff n m k = simp (facts, outside-false_iff) (omega arith)

-- Code 6.
pub ends_iff : (m : ℕ) (track : Track) (s : ℕ) → (ends_fault m track s ≡ false) ↔ Ends m track s
unfolding ends_fault near_box far_box
ends_iff m track s =
    simp (facts, box_iff) (
      λ e. record { box = each_end track (λ f. BoxOf m (f s)) e.0.0 e.0.1; differ = differ e.1 },
      λ h. ((h.box 0, h.box 1), h.differ 0),
    )
  where
    differ : track.end_a s ≢ track.end_b s → (d : ℕ) → near_box track d s ≢ far_box track d s
    differ h zero = h
    differ h (suc d) = rw eqb-suc-zero (Ne-symm h)

segment_fault_iff : (m : ℕ) (track : Track) (way : ℕ → ℕ) (s : ℕ) → (segment_fault m track way s ≡ false) ↔ (Ends m track s × (way s ≤ 2))
unfolding segment_fault
segment_fault_iff m track way s = simp (facts, ends_iff) (λ (ends, low). (ends, omega arith), λ (ends, low). (ends, omega arith))

-- Code 3 of a record: what its version cannot hold.
held_iff : (t : Table) → (ways_fault t.version t.n (way_of t) ≡ false)
    ↔ (has_ways t.version ≡ false → (s : ℕ) → SegmentOf t.n s → way_of t s ≡ 0)
unfolding ways_fault some_one_way
held_iff t = simp (facts, any_segment_iff) Iff.rfl

-- Code 7: a place of a box.
use_iff : (n : ℕ) (case : Type 0) (needed : Bool) (s : ℕ) → ((needed ≡ true) ↔ case)
    → (place_fault n needed s ≡ false) ↔ UsedIf n case s
unfolding place_fault
use_iff n case true s h =
    simp segment_iff
    (λ e. record { used = λ _. e; unused = λ c. absurd (c (h.0 refl)) }, λ u. u.used (h.0 refl))
use_iff n case false s h =
    simp facts (
      λ e. record { used = λ c. absurd (false≢true (h.1 c)); unused = λ _. e },
      λ u. u.unused (λ c. false≢true (h.1 c)),
    )

-- Code 7: a box.
pub plan_iff : (n : ℕ) (p : BoxPlan) → (plan_fault n p ≡ false) ↔ Planned n p
unfolding plan_fault branches_fault is_point
plan_iff n p =
    simp (
      facts,
      segment_iff,
      use_iff n (1 ≤ p.kind) (leb 1 p.kind) p.left (leb-true_iff 1 p.kind),
      use_iff n (p.kind ≡ 2) (eqb p.kind 2) p.right (eqb-true_iff p.kind 2),
    ) (
      λ e. record { kind = omega arith; stem = e.0.0.0.0.1; left = e.0.0.0.1; right = e.0.0.1; differ = e.0.1; position = e.1 },
      λ h. (((((omega arith, h.stem), h.left), h.right), h.differ), h.position),
    )

-- A box lists what stands at its places.
pub lists_iff : (p : BoxPlan) (s : ℕ) → (lists p s ≡ true) ↔ Stands p s
unfolding lists
lists_iff p s =
    let one : (x : ℕ) → (eqb x s ≡ true) ↔ (x ≡ s) = λ x. eqb-true_iff x s in
    let two = or-true_iff (eqb p.stem s) (eqb p.left s) (one _) (one _) in
    Iff.trans (or-true_iff (eqb p.stem s || eqb p.left s) (eqb p.right s) two (one _)) (
      ⊎_elim (⊎_elim inl (λ e. inr (1, on_left refl e))) (λ e. inr (2, on_right refl e)),
      ⊎_elim (λ e. inl (inl e)) (λ b. branch b.1),
    )
  where
    branch : {y : ℕ} → Branch p y s → ((p.stem ≡ s) ⊎ (p.left ≡ s)) ⊎ (p.right ≡ s)
    branch (on_left f e) = inl (inr e)
    branch (on_right f e) = inr e

-- What holds of the left and of the right holds of each branch.
each_branch : (p : BoxPlan) (P : ℕ → Type 0) → P p.left → P p.right → (y s : ℕ) → Branch p y s → P s
each_branch p P l r y s (on_left f e) = rw e at l
each_branch p P l r y s (on_right f e) = rw e at r

-- Code 8: a segment with an end at a box, a listed segment, a branch, and all that a box lists.
end_iff : (track : Track) (s b : ℕ) → ((has_end_a track s b || has_end_b track s b) ≡ true) ↔ EndAt track s b
unfolding has_end_a has_end_b near_box
end_iff track s b =
    Iff.trans
    (or-true_iff (has_end_a track s b) (has_end_b track s b) (eqb-true_iff (track.end_a s) b) (eqb-true_iff (track.end_b s) b))
    (⊎_elim (λ e. record { direction = 0; there = e }) (λ e. record { direction = 1; there = e }), λ h. from h.direction h.there)
  where
    from : (d : ℕ) → near_box track d s ≡ b → (track.end_a s ≡ b) ⊎ (track.end_b s ≡ b)
    from zero e = inl e
    from (suc d) e = inr (rw eqb-suc-zero at e)

listed_iff : (track : Track) (b s : ℕ) → (listed_fault track b s ≡ false) ↔ (s ≢ 0 → EndAt track s b)
unfolding listed_fault
listed_iff track b s = simp (facts, end_iff) Iff.rfl

side_iff : (track : Track) (b stem s : ℕ) → (side_fault track b stem s ≡ false) ↔ (s ≢ 0 → (d : ℕ) → near_box track d stem ≡ b → near_box track d s ≢ b)
unfolding side_fault has_end_a has_end_b near_box
side_iff track b stem s =
    simp facts
    (λ e n. each_end track (λ f. f stem ≡ b → f s ≢ b) (e n).0 (e n).1, λ h n. (h n 0, h n 1))

pub sides_iff : (track : Track) (b : ℕ) (p : BoxPlan) → (box_fault track b p ≡ false) ↔ Sides track b p
unfolding box_fault
sides_iff track b p =
    simp (facts, listed_iff, side_iff) (
      λ ((((stem, left), right), left_side), right_side).
          record {
            ends = λ s l. ⊎_elim (λ e. rw e at stem) (λ (y, e). each_branch p (λ s. s ≢ 0 → EndAt track s b) left right y s e) ((lists_iff p s).0 l);
            opposite = each_branch p (λ s. s ≢ 0 → (d : ℕ) → near_box track d p.stem ≡ b → near_box track d s ≢ b) left_side right_side;
          },
      λ h.
          let ends : (s : ℕ) → Stands p s → s ≢ 0 → EndAt track s b = λ s l. h.ends s ((lists_iff p s).1 l) in
          let left : Branch p 1 p.left = on_left refl refl in
          let right : Branch p 2 p.right = on_right refl refl in
          ((((ends _ (inl refl), ends _ (inr (1, left))), ends _ (inr (2, right))), h.opposite 1 _ left), h.opposite 2 _ right),
    )

-- Code 8: the ends of a segment.
listing_iff : (track : Track) (plans : List BoxPlan) (s : ℕ)
    → (unlisted_fault track plans s ≡ false) ↔ ((d : ℕ) → lists (nth plans (near_box track d s) no_box_plan) s ≡ true)
unfolding unlisted_fault near_box
listing_iff track plans s = simp facts
    (λ e. each_end track (λ f. lists (nth plans (f s) no_box_plan) s ≡ true) e.0 e.1, λ h. (h 0, h 1))

-- Codes 10, 11 and 28: the shape and the places of a route.
pub routed_iff : (n : ℕ) (track : Track) (routes : List ℕ) (i d r : ℕ)
    → ((route_shape_fault d r ≡ false) × ((route_fault n track routes i d r).code ≡ 0)) ↔ Routed n track routes i d r
unfolding route_shape_fault route_fault route_place_fault place_rows
routed_iff n track routes i d r =
    simp (facts, first_of_zero_iff, first_zero_iff, first-none, outside-false_iff 64, segment_iff n) (
      λ ((direction, (low, high)), places).
          record {
            direction = omega arith;
            low = low;
            high = high;
            segment = λ p l h. (places p l h).0;
            next = λ p l h.
                let e : p + 1 - 1 ≡ p = omega arith in
                rw e at ((places (p + 1) (omega arith) (omega arith)).1.0 (omega arith));
          },
      λ h. (
        (omega arith, (h.low, h.high)),
        λ p l g. (
          h.segment p l g,
          (λ later. let e : p - 1 + 1 ≡ p = omega arith in rw e at (h.next (p - 1) (omega arith) (omega arith)), refl),
        ),
      ),
    )

-- Code 12: a train and those before it.
start_iff : (routes : List ℕ) (i : ℕ)
    → (start_fault routes i ≡ false) ↔ ((j : ℕ) → 1 ≤ j → j < i → route_at routes i 1 ≢ route_at routes j 1)
unfolding start_fault
start_iff routes i = simp (facts, any_false_iff) (λ e j l h. e j l (omega arith), λ e j l h. e j l (omega arith))

-- Code 12: where each train starts on another segment than those before it, any two do.
starts_iff : (t : Table)
    → ((i : ℕ) → TrainOf t i → start_fault t.routes i ≡ false)
    ↔ ((i j : ℕ) → TrainOf t i → TrainOf t j → on_route t i 1 ≡ on_route t j 1 → i ≡ j)
starts_iff t =
    simp start_iff (
      λ e i j hi hj.
          once (λ i. on_route t i 1) t.k (λ p q l g h f. e q (omega arith) p l g (sym f)) i j hi.low hi.high hj.low hj.high,
      λ e i hi j l h q. let same = e i j hi (omega arith) q in omega arith,
    )

-- The route of a train of an accepted table passes the tests of codes 10, 11 and 28.
faultless
    : (t : Table) → Accepted t → (i : ℕ) → TrainOf t i
    → (route_shape_fault (train_plan_at t i).direction (train_plan_at t i).length ≡ false)
    × ((route_fault t.n (track_of t) t.routes i (train_plan_at t i).direction (train_plan_at t i).length).code ≡ 0)
faultless t a i h = (routed_iff t.n (track_of t) t.routes i _ _).1 (a.routes i h)

-- A table is accepted exactly where its code is 0.
pub accepted_iff : (t : Table) → (table_code t ≡ 0) ↔ Accepted t
unfolding table_code parts_code head_rows network_rows placing_rows routes_fault plan_fault_at box_fault_at start_against_at shape_fault_at route_fault_at plan_at train_plan_at
accepted_iff t =
    simp
    (facts, first_zero_iff, first-code_iff, first-none, held_iff, any_segment_iff, any_box_iff, any_train_iff, first-train_iff, limits_iff, segment_fault_iff, plan_iff, sides_iff, listing_iff, no_loop_iff) (
      λ (held, (version, (limits, (ends, (plans, ((sides, listed), (no_loop, (shapes, (routes, (starts, (along, none))))))))))).
          record {
            version = version;
            held = held;
            limits = limits;
            ends = λ s h. (ends s h).0;
            ways = λ s h. (ends s h).1;
            plans = plans;
            sides = sides;
            listed = λ d s h. listed s h d;
            no_loop = no_loop;
            routes = λ i h. (routed_iff t.n (track_of t) t.routes i _ _).0 (shapes i h, routes i h);
            starts = (starts_iff t).0 starts;
            along = along;
          },
      λ a.
          (a.held, (a.version, (a.limits, (λ s h. (a.ends s h, a.ways s h), (a.plans, ((a.sides, λ s h d. a.listed d s h), (a.no_loop, (λ i h. (faultless t a i h).0, (λ i h. (faultless t a i h).1, ((starts_iff t).1 a.starts, (a.along, refl))))))))))),
    )

pub accepted : (t : Table) → table_code t ≡ 0 → Accepted t
accepted t = (accepted_iff t).0

pub accepted-code : (t : Table) → Accepted t → table_code t ≡ 0
accepted-code t = (accepted_iff t).1
