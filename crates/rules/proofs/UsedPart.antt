-- The conditions on a table look only at its used part: where a table's code is 0, so is that of its used part.
use Prim.Native.Nat.{ℕ, zero, suc, ◌+◌, ◌-◌, ◌*◌, ◌≤◌, ◌<◌}
use mathlib.Core.Path.{◌≡◌, refl, ◌∙◌, ap}
use mathlib.Core.Bool.{Bool, not}
use mathlib.Core.List.{List}
use native.Mathlib.Decide.{ℕ_discrete, dec_le}
use native.Mathlib.Numerals.{add-one}
use native.Mathlib.Omega.{arith}
use lib.Dec.{eqb}
use lib.ListN.{get_or}
use borrow.Author.Tests.{lt-ltb}
use Rattle.rules.specs.declared.Segment.{Segment}
use Rattle.rules.specs.declared.Table.{Table}
use Rattle.rules.specs.Ends.{Refusal}
use Rattle.rules.specs.Rows.{any_of, nth, list_of, join_of, filled}
use Rattle.rules.specs.Track.{no_segment, no_box_plan, no_train_plan, segment_at, plan_at, train_plan_at, route_at, track_of, track_by, way_of, way_by, far_box, near_box, follows}
use Rattle.rules.specs.Loop.{has_loop}
use Rattle.rules.specs.Network.{some_one_way, ways_fault, ends_fault, segment_fault, plan_fault, has_end_a, has_end_b, listed_fault, side_fault, box_fault, plan_fault_at, box_fault_at, unlisted_fault, head_rows, network_rows}
use Rattle.rules.specs.Placing.{first_of, route_shape_fault, place_rows, route_place_fault, route_fault, start_fault, start_against_at, shape_fault_at, route_fault_at, routes_fault, placing_rows, parts_code, table_code}
use Rattle.rules.specs.File.{used_part}
use Rattle.rules.proofs.Rows.{any_same, filled-length, filled_same, join_at, list_at, filled-nth}
use Rattle.rules.proofs.Loop.{loop_same}
use Rattle.rules.proofs.RouteFault.{first_same}
use Rattle.rules.proofs.Accepted.{UsedIf, Accepted, accepted}

-- A test over all records finds the same in two tables with as many records, where it finds the same at each.
test_same : {f g : ℕ → Bool} {m n : ℕ} → m ≡ n → ((s : ℕ) → 1 ≤ s → s ≤ n → f s ≡ g s) → any_of m f ≡ any_of n g
test_same {f} {g} {n} e h = rw e (any_same f g n h)

-- So does a search for the first.
search_same : {f g : ℕ → Refusal} {m n : ℕ} → m ≡ n → ((s : ℕ) → 1 ≤ s → s ≤ n → f s ≡ g s) → first_of m f ≡ first_of n g
search_same {f} {g} {n} e h = rw e (first_same f g n h)

-- What stands at a place of a box is a segment of the table, or 0.
place-high : {n : ℕ} {case : Type 0} {s : ℕ} → Dec case → UsedIf n case s → s ≤ n
place-high (yes c) h = (h.used c).high
place-high (no c) h = omega (arith, h.unused c)

-- So is what stands at a place of a route of an accepted table, or before the first place.
route_high : (t : Table) → Accepted t → (i p : ℕ) → 1 ≤ i → i ≤ t.k → p ≤ (train_plan_at t i).length → route_at t.routes i p ≤ t.n
route_high t ok zero zero l h q = absurd (omega arith)
route_high t ok (suc i) zero l h q = unfold route_at in omega arith
route_high t ok i (suc p) l h q = ((ok.routes i (omega arith)).segment (suc p) (omega arith) q).high

-- Two tables with the same numbers of segments, boxes and trains, and the same records and routes up to these numbers.
pub record SameUse (t u : Table) : Type 0 where
  pub version : u.version ≡ t.version
  pub n : u.n ≡ t.n
  pub m : u.m ≡ t.m
  pub k : u.k ≡ t.k
  pub segments : (s : ℕ) → s ≤ t.n → segment_at u s ≡ segment_at t s
  pub boxes : (b : ℕ) → b ≤ t.m → plan_at u b ≡ plan_at t b
  pub trains : (i : ℕ) → i ≤ t.k → train_plan_at u i ≡ train_plan_at t i
  pub routes : (i p : ℕ) → i ≤ t.k → p ≤ (train_plan_at t i).length → route_at u.routes i p ≡ route_at t.routes i p

-- If one of them is accepted, every test finds the same in both.
module _ (t u : Table) (same : SameUse t u) (ok : Accepted t) where
  -- A segment's ends, and what is asked of them at it, at a box that lists it and at the segments beside it.
  a_same : (s : ℕ) → s ≤ t.n → (track_of u).end_a s ≡ (track_of t).end_a s
  unfolding track_by segment_at
  a_same s h = ap (λ (x : Segment). x.a) (same.segments s h)

  b_same : (s : ℕ) → s ≤ t.n → (track_of u).end_b s ≡ (track_of t).end_b s
  unfolding track_by segment_at
  b_same s h = ap (λ (x : Segment). x.b) (same.segments s h)

  way_same : (s : ℕ) → s ≤ t.n → way_of u s ≡ way_of t s
  unfolding way_by segment_at
  way_same s h = ap (λ (x : Segment). x.way) (same.segments s h)

  segment_same : (s : ℕ) → 1 ≤ s → s ≤ t.n → segment_fault u.m (track_of u) (way_of u) s ≡ segment_fault t.m (track_of t) (way_of t) s
  unfolding segment_fault ends_fault
  segment_same s l h = rw (a_same s h, b_same s h, way_same s h, same.m)

  -- Code 3 of a record.
  held_same : ways_fault u.version u.n (way_of u) ≡ ways_fault t.version t.n (way_of t)
  unfolding ways_fault some_one_way
  held_same = rw (same.version, test_same {f = λ s. not (eqb (way_of u s) 0)} {g = λ s. not (eqb (way_of t s) 0)} same.n (λ s l h. rw (way_same s h)))

  follows_same : (d s x : ℕ) → s ≤ t.n → x ≤ t.n → follows (track_of u) d s x ≡ follows (track_of t) d s x
  unfolding follows far_box near_box
  follows_same d s x h k = rw (a_same s h, a_same x k, b_same s h, b_same x k)

  listed_same : (b s : ℕ) → s ≤ t.n → listed_fault (track_of u) b s ≡ listed_fault (track_of t) b s
  unfolding listed_fault has_end_a has_end_b
  listed_same b s h = rw (a_same s h, b_same s h)

  side_same : (b s x : ℕ) → s ≤ t.n → x ≤ t.n → side_fault (track_of u) b s x ≡ side_fault (track_of t) b s x
  unfolding side_fault has_end_a has_end_b
  side_same b s x h k = rw (a_same s h, a_same x k, b_same s h, b_same x k)

  -- Codes 7 and 8 at a box, and code 8 at a segment.
  plan_same : (b : ℕ) → 1 ≤ b → b ≤ t.m → plan_fault u.n (plan_at u b) ≡ plan_fault t.n (plan_at t b)
  plan_same b l h = rw (same.boxes b h, same.n)

  box_same : (b : ℕ) → 1 ≤ b → b ≤ t.m → box_fault (track_of u) b (plan_at u b) ≡ box_fault (track_of t) b (plan_at t b)
  unfolding box_fault
  box_same b l h =
      let plan = ok.plans b (omega arith) in
      let stem = plan.stem.high in
      let left = place-high (dec_le 1 _) plan.left in
      let right = place-high (ℕ_discrete _ 2) plan.right in
      rw (same.boxes b h, listed_same b _ stem, listed_same b _ left, listed_same b _ right, side_same b _ _ stem left, side_same b _ _ stem right)

  unlisted_same : (s : ℕ) → 1 ≤ s → s ≤ t.n → unlisted_fault (track_of u) u.boxes s ≡ unlisted_fault (track_of t) t.boxes s
  unfolding unlisted_fault near_box plan_at
  unlisted_same s l h =
      let box = (ok.ends s (omega arith)).box in
      rw (a_same s h, b_same s h, same.boxes ((track_of t).end_a s) (box 0).high, same.boxes ((track_of t).end_b s) (box 1).high)

  -- Code 9.
  loops_same : has_loop u.n (track_of u) ≡ has_loop t.n (track_of t)
  loops_same =
      ap (λ (n : ℕ). has_loop n (track_of u)) same.n
      ∙ loop_same t.n (track_of t) (track_of u) (λ s x h k. follows_same 0 s x h.high k.high)

  -- Codes 10 to 12, 28 and 32 at a train.
  shape_same : (i : ℕ) → 1 ≤ i → i ≤ t.k
      → route_shape_fault (train_plan_at u i).direction (train_plan_at u i).length ≡ route_shape_fault (train_plan_at t i).direction (train_plan_at t i).length
  shape_same i l h = rw (same.trains i h)

  route_same : (i : ℕ) → 1 ≤ i → i ≤ t.k
      → route_fault u.n (track_of u) u.routes i (train_plan_at u i).direction (train_plan_at u i).length
      ≡ route_fault t.n (track_of t) t.routes i (train_plan_at t i).direction (train_plan_at t i).length
  unfolding route_fault route_place_fault place_rows
  route_same i l h =
      rw (same.trains i h)
      (search_same refl λ p low high.
      let before : p - 1 ≤ (train_plan_at t i).length = omega arith in
      rw (
        same.routes i p h high,
        same.routes i (p - 1) h before,
        follows_same _ _ _ (route_high t ok i (p - 1) l h before) (route_high t ok i p l h high),
        same.n,
      ))

  start_same : (i : ℕ) → 1 ≤ i → i ≤ t.k → start_fault u.routes i ≡ start_fault t.routes i
  unfolding start_fault
  start_same i l h =
      test_same refl λ j low high.
      rw (same.routes i 1 h (ok.routes i (omega arith)).low, same.routes j 1 (omega arith) (ok.routes j (omega arith)).low)

  against_same : (i : ℕ) → 1 ≤ i → i ≤ t.k
      → start_against_at (way_of u) u.trains u.routes i ≡ start_against_at (way_of t) t.trains t.routes i
  unfolding start_against_at train_plan_at
  against_same i l h =
      let one = (ok.routes i (omega arith)).low in
      rw (same.trains i h, same.routes i 1 h one, way_same _ (route_high t ok i 1 l h one))

  -- So the other has the same code.
  same_code : table_code u ≡ table_code t
  unfolding table_code parts_code head_rows network_rows placing_rows routes_fault plan_fault_at box_fault_at shape_fault_at route_fault_at plan_at train_plan_at
  same_code =
      rw (
        held_same,
        test_same same.n segment_same,
        test_same same.m plan_same,
        test_same same.m box_same,
        test_same same.n unlisted_same,
        loops_same,
        test_same same.k shape_same,
        search_same same.k route_same,
        test_same same.k start_same,
        test_same same.k against_same,
        same.version,
        same.n,
        same.m,
        same.k,
      )

-- Routes of 64 places each, filled up: place p + 1 of train i + 1's.
pub route_filled : (route : ℕ → List ℕ) (k i p : ℕ) → k ≤ 16 → i < k → p < 64
    → route_at (filled 1024 0 (join_of k (λ i. filled 64 0 (route i)))) (i + 1) (p + 1) ≡ get_or (route (i + 1)) p 0
unfolding route_at
route_filled route k i p few l short =
    let pieces : ℕ → List ℕ = λ i. filled 64 0 (route i) in
    rw (
      add-one i,
      add-one p,
      lt-ltb p 64 short,
      filled_same 1024 0 (join_of k pieces) (64 * i + p) (omega arith),
      join_at pieces 64 (λ i. filled-length 64 0 (route i)) k i p 0 l short,
      filled_same 64 0 (route (i + 1)) p short,
      add-one i,
    )

-- The segments of train i's route.
abbrev pub route_of : Table → ℕ → List ℕ
route_of t i = list_of (train_plan_at t i).length (route_at t.routes i)

-- An accepted table and its used part have the same where the conditions look.
module _ (t : Table) (ok : Accepted t) where
  route_used : (i p : ℕ) → i ≤ t.k → p ≤ (train_plan_at t i).length → route_at (used_part t).routes i p ≡ route_at t.routes i p
  unfolding used_part
  route_used zero p l h = unfold route_at in refl
  route_used (suc i) zero l h = unfold route_at in refl
  route_used (suc i) (suc p) l h =
      let short : p < 64 = omega (arith, (ok.routes (suc i) (omega arith)).high) in
      rw (
        ← add-one i,
        ← add-one p,
        route_filled (route_of t) t.k i p ok.limits.trains_high l short,
        list_at (route_at t.routes (i + 1)) (train_plan_at t (i + 1)).length p 0 (rw add-one h),
      )

  used_same : SameUse t (used_part t)
  unfolding used_part segment_at plan_at train_plan_at nth
  used_same =
      record {
        version = refl;
        n = refl;
        m = refl;
        k = refl;
        segments = λ s. filled-nth (segment_at t) no_segment 96 t.n s refl ok.limits.segments_high;
        boxes = λ b. filled-nth (plan_at t) no_box_plan 96 t.m b refl ok.limits.boxes_high;
        trains = λ i. filled-nth (train_plan_at t) no_train_plan 16 t.k i refl ok.limits.trains_high;
        routes = route_used;
      }

-- The used part of a table with code 0 has code 0.
pub used-code : (t : Table) → table_code t ≡ 0 → table_code (used_part t) ≡ 0
used-code t e =
    let ok = accepted t e in
    same_code t (used_part t) (used_same t ok) ok ∙ e
