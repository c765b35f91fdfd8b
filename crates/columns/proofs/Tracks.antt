-- A table's columns are its track, the ways of its segments and its points, so that what is decided on them is decided on the table.
use Rattle.std.proofs.Common.{◌≡◌, ℕ, List, arith, length, get_or}
use Rattle.rules.specs.declared.BoxPlan.{BoxPlan}
use Rattle.rules.specs.declared.Segment.{Segment}
use Rattle.rules.specs.declared.Table.{Table}
use Rattle.rules.specs.Track.{track_by, track_in, way_by, way_in, far_box, plan_at, point_kind, is_point, point_at, point_in}
use Rattle.rules.proofs.Rows.{length_mapped}
use Rattle.columns.specs.Column.{column, kind_of}
use Rattle.columns.proofs.Column.{Filled, fill_end, column_all}
use Rattle.columns.proofs.Numbered.{way_past, far_past, kind_past}

module _ (l : List Segment) (sized : length l ≡ 96) where
  far_column : (d x : ℕ) → get_or (column (far_box (track_by l) d)) x 0 ≡ far_box (track_by l) d x
  far_column d = column_all (far_box (track_by l) d) (λ x h. far_past l d sized x (omega arith))

  column-track : track_in (column (far_box (track_by l) 1)) (column (far_box (track_by l) 0)) ≡ track_by l
  unfolding far_box
  column-track = λ i. record { end_a = λ s. far_column 1 s i; end_b = λ s. far_column 0 s i }

  pub track-made : {a b : List ℕ} → a ≡ column (far_box (track_by l) 1) → b ≡ column (far_box (track_by l) 0) → track_in a b ≡ track_by l
  track-made e f = rw (e, f) column-track

  column_ways : way_in (column (way_by l)) ≡ way_by l
  column_ways = λ i s. column_all (way_by l) (λ x h. way_past l sized x (omega arith)) s i

  pub ways_made : {w : List ℕ} → w ≡ column (way_by l) → way_in w ≡ way_by l
  ways_made e = rw e column_ways

-- The kind of any box number stands in its column.
kind-column : (t : Table) → length t.boxes ≡ 96 → (b : ℕ) → get_or (column (kind_of t.boxes)) b 0 ≡ (plan_at t b).kind
unfolding kind_of plan_at
kind-column t e = column_all (kind_of t.boxes) (λ b h. kind_past t.boxes e b (omega arith))

pub column_points : (t : Table) → length t.boxes ≡ 96 → point_in (column (kind_of t.boxes)) ≡ point_at t
unfolding is_point
column_points t e = λ i b. point_kind (kind-column t e b i)

-- What the loops have filled when they end.
pub far_filled : (l : List Segment) (d i : ℕ) (w : List ℕ) → Filled 256 (far_box (track_by l) d) i w → length l ≡ 96 → i ≡ 96
    → w ≡ column (far_box (track_by l) d)
unfolding column
far_filled l d i w h size end = fill_end 256 _ 96 w (rw end at h) (far_past l d size)

pub way_filled : (l : List Segment) (i : ℕ) (w : List ℕ) → Filled 256 (way_by l) i w → length l ≡ 96 → i ≡ 96 → w ≡ column (way_by l)
unfolding column
way_filled l i w h size end = fill_end 256 _ 96 w (rw end at h) (way_past l size)

pub kind_filled : (l : List BoxPlan) (i : ℕ) (w : List ℕ) → Filled 256 (kind_of l) i w → length l ≡ 96 → i ≡ 96 → w ≡ column (kind_of l)
unfolding column
kind_filled l i w h size end = fill_end 256 _ 96 w (rw end at h) (kind_past l size)

pub track_filled : (l : List Segment) (i : ℕ) (a b : List ℕ)
    → Filled 256 (far_box (track_by l) 1) i a → Filled 256 (far_box (track_by l) 0) i b → length l ≡ 96 → i ≡ 96
    → track_in a b ≡ track_by l
track_filled l i a b f g size end = track-made l size (far_filled l 1 i a f size end) (far_filled l 0 i b g size end)

pub points_filled : (t : Table) (i : ℕ) (w : List ℕ) → Filled 256 (kind_of t.boxes) i w → length t.boxes ≡ 96 → i ≡ 96
    → point_in w ≡ point_at t
points_filled t i w h size end = rw (kind_filled t.boxes i w h size end) (column_points t size)

-- What `of` promises of each column, and of the ways.
pub ruleset filled = (length_mapped, far_filled, way_filled, kind_filled, ways_made)
