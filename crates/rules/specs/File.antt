-- The table file (01, "Table file"; codes 1 to 5 and 26; 02, ticket 6: version 2): bytes to a table record and back.
use Rattle.std.specs.Prelude.{ℕ, zero, suc, ◌+◌, ◌-◌, ◌*◌, ◌/◌, ◌%◌, Bool, cond, not, ◌&&◌, List, [], ◌∷◌, ◌++◌, eqb, ltb, length, get_or, take, drop}
use Rattle.rules.specs.declared.Segment.{Segment}
use Rattle.rules.specs.declared.BoxPlan.{BoxPlan}
use Rattle.rules.specs.declared.TrainPlan.{TrainPlan}
use Rattle.rules.specs.declared.Table.{Table}
use Rattle.rules.specs.Ends.{Refusal}
use Rattle.rules.specs.Rows.{Row, ◌if◌, first, outside, list_of, join_of, filled}
use Rattle.rules.specs.Track.{no_segment, no_box_plan, no_train_plan, segment_at, plan_at, train_plan_at, route_at}
use Rattle.rules.specs.Network.{has_ways, head_rows}
use Rattle.rules.specs.Placing.{routes_fault_in, condition_rows, refusal_by, table_refusal, refused_then}

-- The sizes of a file's parts, by its version: the head, a segment record, a box record, and a train record without its route.
abbrev pub head_size : ℕ
head_size = 8

unfoldable pub segment_size : ℕ → ℕ
segment_size version = cond (has_ways version) 3 2

unfoldable pub box_size : ℕ → ℕ
box_size version = 5

unfoldable pub train_size : ℕ → ℕ
train_size version = 2

-- Byte i of a file, from 0; 0 past its end.
unfoldable pub byte_at : List ℕ → ℕ → ℕ
byte_at bytes i = get_or bytes i 0

-- The head: the mark, the version with its high byte first, and the numbers of segments, boxes and trains.
unfoldable pub marked : List ℕ → Bool
marked bytes = eqb (byte_at bytes 0) 0x4E && eqb (byte_at bytes 1) 0x45 && eqb (byte_at bytes 2) 0x54

unfoldable pub version_in : List ℕ → ℕ
version_in bytes = 256 * byte_at bytes 3 + byte_at bytes 4

unfoldable pub segment_count : List ℕ → ℕ
segment_count bytes = byte_at bytes 5

unfoldable pub box_count : List ℕ → ℕ
box_count bytes = byte_at bytes 6

unfoldable pub train_count : List ℕ → ℕ
train_count bytes = byte_at bytes 7

-- Where the record of segment s begins, and that of box b.
unfoldable pub segment_start : List ℕ → ℕ → ℕ
segment_start bytes s = head_size + segment_size (version_in bytes) * (s - 1)

unfoldable pub box_start : List ℕ → ℕ → ℕ
box_start bytes b = head_size + segment_size (version_in bytes) * segment_count bytes + box_size (version_in bytes) * (b - 1)

-- Where the train records after the first j of them begin: each has the length of its head and of its route.
unfoldable pub trains_from : List ℕ → ℕ → ℕ
trains_from bytes zero = box_start bytes (box_count bytes + 1)
trains_from bytes (suc j) =
    let start = trains_from bytes j in
    start + train_size (version_in bytes) + byte_at bytes (start + 1)

-- Where the record of train i begins.
unfoldable pub train_start : List ℕ → ℕ → ℕ
train_start bytes i = trains_from bytes (i - 1)

-- The length that the head and the route lengths ask for, any length byte being 0 to 255. A length byte past the end of the
-- file reads as 0, and the length asked for is then above the file's.
unfoldable pub file_length : List ℕ → ℕ
file_length bytes = trains_from bytes (train_count bytes)

-- The segment whose record of a version begins at a place. In version 1 it has no way byte, and runs both ways.
unfoldable pub segment_from : List ℕ → ℕ → ℕ → Segment
segment_from bytes version at =
    record { a = byte_at bytes at; b = byte_at bytes (at + 1); way = cond (has_ways version) (byte_at bytes (at + 2)) 0 }

-- The records of the file. Places of the arrays beyond them are 0.
unfoldable pub segment_in : List ℕ → ℕ → Segment
segment_in bytes s = segment_from bytes (version_in bytes) (segment_start bytes s)

unfoldable pub plan_in : List ℕ → ℕ → BoxPlan
plan_in bytes b =
    let at = box_start bytes b in
    record {
      kind = byte_at bytes at;
      stem = byte_at bytes (at + 1);
      left = byte_at bytes (at + 2);
      right = byte_at bytes (at + 3);
      position = byte_at bytes (at + 4);
    }

unfoldable pub train_plan_in : List ℕ → ℕ → TrainPlan
train_plan_in bytes i =
    let at = train_start bytes i in
    record { direction = byte_at bytes at; length = byte_at bytes (at + 1) }

-- The route of train i, as the part of the file that it is: where it begins, and its bytes.
abbrev pub route_start : List ℕ → ℕ → ℕ
route_start bytes i = train_start bytes i + train_size (version_in bytes)

unfoldable pub route_in : List ℕ → ℕ → List ℕ
route_in bytes i = take (byte_at bytes (train_start bytes i + 1)) (drop (route_start bytes i) bytes)

-- The table record of a file. Of a route only 64 places are kept: a longer one is refused by its length, with 10.
unfoldable pub decode : List ℕ → Table
decode bytes =
    record {
      version = version_in bytes;
      n = segment_count bytes;
      m = box_count bytes;
      k = train_count bytes;
      segments = filled 96 no_segment (list_of (segment_count bytes) (segment_in bytes));
      boxes = filled 96 no_box_plan (list_of (box_count bytes) (plan_in bytes));
      trains = filled 16 no_train_plan (list_of (train_count bytes) (train_plan_in bytes));
      routes = filled 1024 0 (join_of (train_count bytes) (λ i. filled 64 0 (route_in bytes i)));
    }

-- What comes before a file's records can be looked at: codes 1 to 5.
unfoldable pub early_rows : List ℕ → List Row
early_rows bytes =
    1 if ltb (length bytes) head_size
    ∷ 2 if not (marked bytes)
    ∷ head_rows (version_in bytes) (segment_count bytes) (box_count bytes) (train_count bytes)
    ++ (5 if not (eqb (length bytes) (file_length bytes)) ∷ [])

-- The code of a file: 1 to 12, 28 or 32, or 0; and why it is refused.
unfoldable pub file_code : List ℕ → ℕ
file_code bytes = first (early_rows bytes ++ condition_rows (decode bytes))

unfoldable pub file_refusal : List ℕ → Refusal
file_refusal bytes = refusal_by (file_code bytes) (routes_fault_in (decode bytes))

-- The route of train i as a part of the file: refused as the file is, then with 14 for a train 0 or above k; where it is refused, the
-- part is empty, at the file's beginning.
unfoldable pub route_refusal : List ℕ → ℕ → Refusal
route_refusal bytes i = refused_then (file_refusal bytes) (14 if outside (train_count bytes) i ∷ [])

unfoldable pub route_part : List ℕ → ℕ → List ℕ
route_part bytes i = cond (eqb (route_refusal bytes i).code 0) (route_in bytes i) []

unfoldable pub route_from : List ℕ → ℕ → ℕ
route_from bytes i = cond (eqb (route_refusal bytes i).code 0) (route_start bytes i) 0

-- The bytes of a table record.
unfoldable pub head_bytes : Table → List ℕ
head_bytes t =
    0x4E ∷ 0x45 ∷ 0x54 ∷ t.version / 256 ∷ t.version % 256 ∷ t.n ∷ t.m ∷ t.k ∷ []

unfoldable pub segment_bytes : Table → ℕ → List ℕ
segment_bytes t s =
    let p = segment_at t s in
    p.a ∷ p.b ∷ cond (has_ways t.version) (p.way ∷ []) []

unfoldable pub box_bytes : Table → ℕ → List ℕ
box_bytes t b =
    let p = plan_at t b in
    p.kind ∷ p.stem ∷ p.left ∷ p.right ∷ p.position ∷ []

unfoldable pub train_bytes : Table → ℕ → List ℕ
train_bytes t i =
    let p = train_plan_at t i in
    p.direction ∷ p.length ∷ list_of p.length (route_at t.routes i)

unfoldable pub encode : Table → List ℕ
encode t = head_bytes t ++ join_of t.n (segment_bytes t) ++ join_of t.m (box_bytes t) ++ join_of t.k (train_bytes t)

-- The table record as a file can hold it: what stands in places that are not used (segments beyond n, boxes beyond m, trains
-- beyond k, routes beyond their length) is in no file, and is 0 here.
unfoldable pub used_part : Table → Table
used_part t =
    record {
      version = t.version;
      n = t.n;
      m = t.m;
      k = t.k;
      segments = filled 96 no_segment (list_of t.n (segment_at t));
      boxes = filled 96 no_box_plan (list_of t.m (plan_at t));
      trains = filled 16 no_train_plan (list_of t.k (train_plan_at t));
      routes = filled 1024 0 (join_of t.k (λ i. filled 64 0 (list_of (train_plan_at t i).length (route_at t.routes i))));
    }

-- The writer: refused as the table is, then with 26 where the lent buffer is shorter than the file; and the whole buffer after it.
unfoldable pub write_refusal : Table → List ℕ → Refusal
write_refusal t buffer = refused_then (table_refusal t) (26 if ltb (length buffer) (length (encode t)) ∷ [])

unfoldable pub written : Table → List ℕ → List ℕ
written t buffer = cond (eqb (write_refusal t buffer).code 0) (encode t ++ drop (length (encode t)) buffer) buffer
