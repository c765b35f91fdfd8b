-- The conditions on a table's network (01, codes 3, 4 and 6 to 9; 02, ticket 6). A row applies where some record of the table breaks the
-- condition, so a code is looked for in all records before the next code.
use Rattle.std.specs.Prelude.{ℕ, Bool, cond, not, ◌&&◌, ◌||◌, List, [], ◌∷◌, eqb, leb, ltb}
use Rattle.rules.specs.declared.BoxPlan.{BoxPlan}
use Rattle.rules.specs.Rows.{Row, ◌if◌, nth, any_of, outside}
use Rattle.rules.specs.Track.{no_box_plan, Track, position_fits, is_point}
use Rattle.rules.specs.Loop.{has_loop}

-- Code 3: the versions that are read.
unfoldable pub known_version : ℕ → Bool
known_version v = eqb v 1 || eqb v 2

-- The segments of a table of this version have a way, from version 2 on; those of version 1 run both ways.
unfoldable pub has_ways : ℕ → Bool
has_ways v = leb 2 v

-- Some of n segments has a way other than 0: it runs one way only, or its way is none (code 6).
unfoldable pub some_one_way : ℕ → (ℕ → ℕ) → Bool
some_one_way n way = any_of n (λ s. not (eqb (way s) 0))

-- Code 3 of a table record: some of n segments has a way that the version cannot hold.
unfoldable pub ways_fault : ℕ → ℕ → (ℕ → ℕ) → Bool
ways_fault v n way = not (has_ways v) && some_one_way n way

-- Code 4: n, m or k outside its limits.
unfoldable pub limits_fault : ℕ → ℕ → ℕ → Bool
limits_fault n m k = outside 96 n || (ltb m 2 || ltb 96 m) || ltb 16 k

-- Code 6 at the ends of segment s: an end box 0 or above m, or both ends one box.
unfoldable pub ends_fault : ℕ → Track → ℕ → Bool
ends_fault m track s = outside m (track.end_a s) || outside m (track.end_b s) || eqb (track.end_a s) (track.end_b s)

-- Code 6 at segment s: its ends, or a way above 2.
unfoldable pub segment_fault : ℕ → Track → (ℕ → ℕ) → ℕ → Bool
segment_fault m track way s = ends_fault m track s || ltb 2 (way s)

-- Code 7, a place that a box needs, and one that it does not use.
unfoldable pub place_fault : ℕ → Bool → ℕ → Bool
place_fault n needed s = cond needed (outside n s) (not (eqb s 0))

-- Code 7: a point with one segment at both branches.
unfoldable pub branches_fault : BoxPlan → Bool
branches_fault p = is_point p && eqb p.left p.right

-- Code 7: a kind above 2, a needed segment 0 or above n, an unused place not 0, left = right at a point, a position that
-- does not fit. The stem is needed at every box, left at links and points, right at points.
unfoldable pub plan_fault : ℕ → BoxPlan → Bool
plan_fault n p =
    ltb 2 p.kind
    || outside n p.stem
    || place_fault n (leb 1 p.kind) p.left
    || place_fault n (is_point p) p.right
    || branches_fault p
    || not (position_fits p p.position)

-- The box lists the segment at one of its places.
unfoldable pub lists : BoxPlan → ℕ → Bool
lists p s = eqb p.stem s || eqb p.left s || eqb p.right s

-- Segment s has its A end, or its B end, at box b.
unfoldable pub has_end_a : Track → ℕ → ℕ → Bool
has_end_a track s b = eqb (track.end_a s) b

unfoldable pub has_end_b : Track → ℕ → ℕ → Bool
has_end_b track s b = eqb (track.end_b s) b

-- Code 8 at a listed segment: it has no end at the box. An unused place, 0, lists nothing.
unfoldable pub listed_fault : Track → ℕ → ℕ → Bool
listed_fault track b s = not (eqb s 0) && not (has_end_a track s b || has_end_b track s b)

-- Code 8 at a branch: it is on the stem's side of the box, both by their A ends or both by their B ends.
unfoldable pub side_fault : Track → ℕ → ℕ → ℕ → Bool
side_fault track b stem s =
    not (eqb s 0) && ((has_end_a track stem b && has_end_a track s b) || (has_end_b track stem b && has_end_b track s b))

-- Code 8 at box b with plan p: a segment listed without an end there, or a branch on the stem's side.
unfoldable pub box_fault : Track → ℕ → BoxPlan → Bool
box_fault track b p =
    listed_fault track b p.stem
    || listed_fault track b p.left
    || listed_fault track b p.right
    || side_fault track b p.stem p.left
    || side_fault track b p.stem p.right

-- Codes 7 and 8 at box b, by its plan among those of all boxes.
unfoldable pub plan_fault_at : ℕ → List BoxPlan → ℕ → Bool
plan_fault_at n plans b = plan_fault n (nth plans b no_box_plan)

unfoldable pub box_fault_at : Track → List BoxPlan → ℕ → Bool
box_fault_at track plans b = box_fault track b (nth plans b no_box_plan)

-- Code 8 at a segment: the box at one of its ends does not list it.
unfoldable pub unlisted_fault : Track → List BoxPlan → ℕ → Bool
unlisted_fault track plans s =
    not (lists (nth plans (track.end_a s) no_box_plan) s) || not (lists (nth plans (track.end_b s) no_box_plan) s)

-- The head of the table, its version and the numbers of segments, boxes and trains: codes 3 and 4.
unfoldable pub head_rows : ℕ → ℕ → ℕ → ℕ → List Row
head_rows version n m k = 3 if not (known_version version) ∷ 4 if limits_fault n m k ∷ []

-- The network of n segments and m boxes, by its track, the ways of its segments and the plans of its boxes: codes 6 to 9.
unfoldable pub network_rows : ℕ → ℕ → Track → (ℕ → ℕ) → List BoxPlan → List Row
network_rows n m track way plans =
    6 if any_of n (segment_fault m track way)
    ∷ 7 if any_of m (plan_fault_at n plans)
    ∷ 8 if (any_of m (box_fault_at track plans) || any_of n (unlisted_fault track plans))
    ∷ 9 if has_loop n track
    ∷ []
