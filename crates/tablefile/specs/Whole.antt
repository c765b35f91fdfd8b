-- A whole file, its arrays, codes 1 to 5, and the table that they let through.
use Rattle.std.specs.Prelude.{ℕ, ◌≤◌, cond, List, ◌≡◌, eqb, length}
use Rattle.rules.specs.declared.Table.{Table}
use Rattle.rules.specs.declared.Segment.{Segment}
use Rattle.rules.specs.declared.BoxPlan.{BoxPlan}
use Rattle.rules.specs.declared.TrainPlan.{TrainPlan}
use Rattle.rules.specs.Rows.{first, list_of, join_of, filled}
use Rattle.rules.specs.Track.{no_segment, no_box_plan, no_train_plan}
use Rattle.rules.specs.File.{segment_count, box_count, train_count, file_length, early_rows, decode}
use Rattle.rules.specs.File.{segment_in, plan_in, train_plan_in, route_in}
use Rattle.rules.specs.Line.{empty_table}

-- The first of codes 1 to 5 that applies, or 0.
unfoldable pub early_code : List ℕ → ℕ
early_code bytes = first (early_rows bytes)

-- The counts are not above their limits and the file has the length that it asks for.
pub record Whole (bytes : List ℕ) : Type 0 where
  pub segments : segment_count bytes ≤ 96
  pub boxes : box_count bytes ≤ 96
  pub trains : train_count bytes ≤ 16
  pub exact : length bytes ≡ file_length bytes

-- The arrays of the table record: segments, boxes, trains, and the routes of the first j trains, 64 places a train.
unfoldable pub segments_of : List ℕ → List Segment
segments_of bytes = filled 96 no_segment (list_of (segment_count bytes) (segment_in bytes))

unfoldable pub boxes_of : List ℕ → List BoxPlan
boxes_of bytes = filled 96 no_box_plan (list_of (box_count bytes) (plan_in bytes))

unfoldable pub trains_of : List ℕ → List TrainPlan
trains_of bytes = filled 16 no_train_plan (list_of (train_count bytes) (train_plan_in bytes))

unfoldable pub routes_up_to : List ℕ → ℕ → List ℕ
routes_up_to bytes j = filled 1024 0 (join_of j (λ i. filled 64 0 (route_in bytes i)))

unfoldable pub routes_of : List ℕ → List ℕ
routes_of bytes = routes_up_to bytes (train_count bytes)

-- The table record of a file that codes 1 to 5 let through, else the empty one.
unfoldable pub table_in : List ℕ → Table
table_in bytes = cond (eqb (early_code bytes) 0) (decode bytes) empty_table
