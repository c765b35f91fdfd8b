-- The track of a table (01, "The line"; 02, ticket 6): what stands at a number, the ends of a segment, the direction of travel, the way of
-- a segment, and the segments that a box joins.
use Rattle.std.specs.Prelude.{ℕ, zero, suc, ◌+◌, ◌*◌, Bool, cond, ◌&&◌, ◌||◌, List, eqb, ltb, get_or}
use Rattle.rules.specs.declared.Segment.{Segment}
use Rattle.rules.specs.declared.BoxPlan.{BoxPlan}
use Rattle.rules.specs.declared.TrainPlan.{TrainPlan}
use Rattle.rules.specs.declared.Table.{Table}
use Rattle.rules.specs.Rows.{nth}

-- What is read where a table has no such record.
abbrev pub no_segment : Segment
no_segment = record { a = 0; b = 0; way = 0 }

abbrev pub no_box_plan : BoxPlan
no_box_plan = record { kind = 0; stem = 0; left = 0; right = 0; position = 0 }

abbrev pub no_train_plan : TrainPlan
no_train_plan = record { direction = 0; length = 0 }

-- Segment s, box b and train i of the table.
unfoldable pub segment_at : Table → ℕ → Segment
segment_at t s = nth t.segments s no_segment

unfoldable pub plan_at : Table → ℕ → BoxPlan
plan_at t b = nth t.boxes b no_box_plan

unfoldable pub train_plan_at : Table → ℕ → TrainPlan
train_plan_at t i = nth t.trains i no_train_plan

-- The segment at place p, counted from 1, of train i's route: 64 places a train, and 0 elsewhere.
unfoldable pub route_at : List ℕ → ℕ → ℕ → ℕ
route_at routes zero p = 0
route_at routes (suc i) zero = 0
route_at routes (suc i) (suc p) = cond (ltb p 64) (get_or routes (64 * i + p) 0) 0

-- The boxes at the A end and at the B end of each segment, by its number. The conditions on a table, the start of a line, what
-- stands around a train and the record check are stated over these two functions and over the ways of segments below, so that they hold
-- for a table and for any other form in which a program keeps them.
pub record Track : Type 0 where
  pub end_a : ℕ → ℕ
  pub end_b : ℕ → ℕ

-- The track of a list of segments, and of a table.
unfoldable pub track_by : List Segment → Track
track_by l = record { end_a = λ s. (nth l s no_segment).a; end_b = λ s. (nth l s no_segment).b }

abbrev pub track_of : Table → Track
track_of t = track_by t.segments

-- The track of two lists, which have at index s the boxes of segment s.
abbrev pub track_in : List ℕ → List ℕ → Track
track_in a b = record { end_a = λ s. get_or a s 0; end_b = λ s. get_or b s 0 }

-- Of the boxes a and b at the A end and the B end of a segment, the one at its far end for a train of direction d: b for 0, a for 1
-- and any other.
abbrev pub far_of : ℕ → ℕ → ℕ → ℕ
far_of d a b = cond (eqb d 0) b a

-- The box at the far end of segment s for a train of direction d, and the box at its near end, which is the far end with the two
-- ends exchanged.
unfoldable pub far_box : Track → ℕ → ℕ → ℕ
far_box track d s = far_of d (track.end_a s) (track.end_b s)

unfoldable pub near_box : Track → ℕ → ℕ → ℕ
near_box track d s = far_of d (track.end_b s) (track.end_a s)

-- Segment x follows segment s in direction d: the far end of s and the near end of x are at one box.
unfoldable pub follows : Track → ℕ → ℕ → ℕ → Bool
follows track d s x = eqb (far_box track d s) (near_box track d x)

-- The way of each segment, by its number: 0 both ways, 1 from A to B only, 2 from B to A only; of a list of segments, of a table, and of a
-- list that has at index s the way of segment s.
unfoldable pub way_by : List Segment → ℕ → ℕ
way_by l s = (nth l s no_segment).way

abbrev pub way_of : Table → ℕ → ℕ
way_of t = way_by t.segments

abbrev pub way_in : List ℕ → ℕ → ℕ
way_in l s = get_or l s 0

-- A train of direction d runs against a segment of this way: direction 0, from A to B, where the way is 2; 1 and any other where it is 1.
unfoldable pub runs_against : ℕ → ℕ → Bool
runs_against d way = cond (eqb d 0) (eqb way 2) (eqb way 1)

-- The kind of a point, and a box that is one.
abbrev pub point_kind : ℕ → Bool
point_kind kind = eqb kind 2

unfoldable pub is_point : BoxPlan → Bool
is_point p = point_kind p.kind

-- Box b is a point: of a table, and by a list that has at index b the kind of box b.
abbrev pub point_at : Table → ℕ → Bool
point_at t b = is_point (plan_at t b)

abbrev pub point_in : List ℕ → ℕ → Bool
point_in kinds b = point_kind (get_or kinds b 0)

-- A position (01: lie) that a box of this kind can have: 1 or 2 at a point, 0 elsewhere.
unfoldable pub position_fits : BoxPlan → ℕ → Bool
position_fits p x = cond (is_point p) (eqb x 1 || eqb x 2) (eqb x 0)

-- The pair s, x is the pair y, z, either way round.
unfoldable pub same_pair : ℕ → ℕ → ℕ → ℕ → Bool
same_pair s x y z = (eqb s y && eqb x z) || (eqb s z && eqb x y)

-- Position x of a point joins segments s and z: stem and left at 1, stem and right at 2.
unfoldable pub joins : BoxPlan → ℕ → ℕ → ℕ → Bool
joins p x s z = (eqb x 1 && same_pair s z p.stem p.left) || (eqb x 2 && same_pair s z p.stem p.right)
