-- Where the records of a file stand, and that they are within a whole file.
use Rattle.std.proofs.Common.{ℕ, zero, suc, ◌+◌, ◌-◌, ◌*◌, ◌/◌, ◌^◌, ◌≤◌, ◌<◌, min, ◌≡◌, refl, sym, ◌∙◌, ap, Bool, true, false, cond, List, [], length, get_or, take, drop, replicate, length-take, length-drop, get_or-take, get_or-drop, drop-drop, add-one, mul-le-mul_left, mul-le-mul_right, arith}
use borrow.Rule.Slice.PartMut.{put_mid}
use Rattle.std.specs.Simd.{first_chunks}
use Rattle.rules.specs.Network.{has_ways}
use Rattle.rules.specs.File.{decode, segment_size, box_size, train_size, byte_at, version_in, segment_count, box_count, train_count}
use Rattle.rules.specs.File.{segment_start, box_start, trains_from, train_start, route_start, file_length, segment_from, segment_in, plan_in, train_plan_in, route_in}
use Rattle.rules.specs.Rows.{filled}
use Rattle.rules.proofs.Rows.{join_none, filled_none, fill_none, fill_more}
use Rattle.rules.specs.declared.Segment.{Segment}
use Rattle.rules.specs.declared.BoxPlan.{BoxPlan}
use Rattle.rules.specs.declared.TrainPlan.{TrainPlan}
use Rattle.tablefile.specs.Whole.{Whole, segments_of, boxes_of, trains_of, routes_up_to, routes_of}
use Rattle.tablefile.specs.Places.{AtSegments, AtBoxes, HasTrain}
use Rattle.tablefile.specs.Part.{pointer_after}
use Rattle.tablefile.proofs.Fill.{join_copy}

-- A segment record has three bytes at most.
size_high : (v : ℕ) → segment_size v ≤ 3
unfolding segment_size
size_high v = by (has_ways v)
  where
    by : (b : Bool) → cond b 3 2 ≤ 3
    by true = omega arith
    by false = omega arith

-- So many of them as a byte counts are within 765 bytes.
sizes_near : (v n : ℕ) → n < 2 ^ 8 → (segment_size v ≤ 3) × (n * segment_size v ≤ 765)
sizes_near v n low = (size_high v, let most = mul-le-mul_left n (size_high v) in omega arith)

-- Byte j of chunk i, of a list cut into chunks of five.
chunk_at : (l : List ℕ) (k i j : ℕ) → i < k → j < 5 → get_or (get_or (first_chunks 5 k l) i []) j 0 ≡ get_or l (5 * i + j) 0
chunk_at l zero i j h low = absurd (omega arith)
chunk_at l (suc k) zero j h low = get_or-take 5 l j 0 low ∙ ap (λ (o : ℕ). get_or l o 0) (omega arith)
chunk_at l (suc k) (suc i) j h low =
    chunk_at (drop 5 l) k i j (omega arith) low ∙ get_or-drop 5 l (5 * i + j) 0 ∙ ap (λ (o : ℕ). get_or l o 0) (omega arith)

module _ (bytes : List ℕ) where
  -- Where the records begin, by the numbers of the head and the sizes of the records.
  segment_at : (i : ℕ) → segment_start bytes (i + 1) ≡ 8 + segment_size (version_in bytes) * i
  unfolding segment_start
  segment_at i = let e : i + 1 - 1 ≡ i = omega arith in rw e

  box_at : (i : ℕ) → box_start bytes (i + 1) ≡ 8 + segment_size (version_in bytes) * segment_count bytes + 5 * i
  unfolding box_start box_size
  box_at i = omega arith

  pub segments_place : 8 ≡ segment_start bytes 1
  segments_place = omega (arith, segment_at 0)

  pub boxes_place : 8 + segment_size (version_in bytes) * segment_count bytes ≡ box_start bytes 1
  boxes_place = omega (arith, box_at 0)

  pub trains_place : 8 + segment_size (version_in bytes) * segment_count bytes + 5 * box_count bytes ≡ trains_from bytes 0
  unfolding trains_from
  trains_place = sym (box_at (box_count bytes))

  -- The counts are bytes, so that the place of the trains is near the beginning.
  pub trains_near : segment_count bytes < 2 ^ 8 → box_count bytes < 2 ^ 8 → trains_from bytes 0 ≤ 2048
  trains_near n m =
      omega (arith, trains_place, mul-le-mul_right (segment_count bytes) (size_high (version_in bytes)))

  -- Where the next train record begins.
  pub trains-more : (j : ℕ) → trains_from bytes (j + 1) ≡ trains_from bytes j + 2 + byte_at bytes (trains_from bytes j + 1)
  unfolding trains_from train_size
  trains-more j = rw (add-one j)

  train_at : (i : ℕ) → train_start bytes (i + 1) ≡ trains_from bytes i
  unfolding train_start
  train_at i = let e : i + 1 - 1 ≡ i = omega arith in rw e

  -- The train records that are left behind one are behind it, each with at least two bytes.
  rest : (i j : ℕ) → trains_from bytes i + 2 * j ≤ trains_from bytes (i + j)
  rest i zero = let e : i + zero ≡ i = omega arith in rw e (omega arith)
  rest i (suc j) =
      let e : i + suc j ≡ i + j + 1 = omega arith in
      rw e (omega (arith, trains-more (i + j), rest i j))

  -- Of a whole file: the head, the segments and the boxes are within it, and so are the train records, with at least two bytes each.
  module _ (w : Whole bytes) where
    pub whole_rest : (i : ℕ) → i ≤ train_count bytes → trains_from bytes i + 2 * (train_count bytes - i) ≤ length bytes
    unfolding file_length
    whole_rest i h =
        let e : i + (train_count bytes - i) ≡ train_count bytes = omega arith in
        omega (arith, w.exact, rw e at (rest i (train_count bytes - i)))

    pub whole-boxes : 8 + segment_size (version_in bytes) * segment_count bytes + 5 * box_count bytes ≤ length bytes
    whole-boxes = omega (arith, trains_place, whole_rest 0 (omega arith))

    pub whole_long : 8 ≤ length bytes
    whole_long = omega (arith, whole-boxes)

    -- Train i's record, of two bytes at least, by where it begins.
    pub train_head : (i : ℕ) → i < train_count bytes → trains_from bytes i + 2 ≤ length bytes
    train_head i h = omega (arith, whole_rest i (omega arith))

    pub train_room : (i at : ℕ) → i < train_count bytes → at ≡ trains_from bytes i → at + 2 + get_or bytes (at + 1) 0 ≤ length bytes
    unfolding byte_at
    train_room i at h e = rw e (omega (arith, trains-more i, whole_rest (i + 1) (omega arith)))

  -- The segment records from a place on: they are within the file, and the file's.
  module _
      (from : ℕ) (a : AtSegments bytes from)
      (size version i : ℕ) (e : version ≡ version_in bytes) (f : size ≡ segment_size version) where
    pub segment_room : i < segment_count bytes → from + size * i + segment_size version ≤ length bytes
    segment_room h =
        let k : i + 1 ≤ segment_count bytes = omega arith in
        let u : size ≡ segment_size (version_in bytes) = f ∙ ap segment_size e in
        rw (sym f, u) (omega (arith, a.place, segment_at 0, whole-boxes a.whole, mul-le-mul_left (segment_size (version_in bytes)) k))

    pub segment_here : segment_from bytes version (from + size * i) ≡ segment_in bytes (i + 1)
    unfolding segment_in
    segment_here = rw (segment_at i, a.place, ← segments_place, f, e)

  -- The box records likewise.
  module _ (from : ℕ) (a : AtBoxes bytes from) where
    pub box_room : from + 5 * box_count bytes ≤ length bytes
    box_room = omega (arith, a.place, boxes_place, whole-boxes a.whole)

    -- The part of the file that they are, cut into chunks of five.
    module _ (m : ℕ) (e : m ≡ box_count bytes) where
      abbrev part : List ℕ
      part = take (from + 5 * m - from) (drop from bytes)

      pub box_chunks : length part / 5 ≡ box_count bytes
      box_chunks = simp (length-take, length-drop) (omega (arith, e, box_room))

      box_byte : (i j : ℕ) → i < box_count bytes → j < 5
          → get_or (get_or (first_chunks 5 (length part / 5) part) i []) j 0 ≡ get_or bytes (from + 5 * i + j) 0
      box_byte i j h low =
          let near : 5 * i + j < from + 5 * m - from = omega (arith, e) in
          chunk_at part (length part / 5) i j (omega (arith, box_chunks)) low
          ∙ get_or-take (from + 5 * m - from) (drop from bytes) (5 * i + j) 0 near
          ∙ get_or-drop from bytes (5 * i + j) 0
          ∙ ap (λ (o : ℕ). get_or bytes o 0) (omega arith)

      pub box_here : (chunks : List (List ℕ)) (i : ℕ) → chunks ≡ first_chunks 5 (length part / 5) part → i < box_count bytes →
          let record_at = get_or chunks i [] in
          record {
            kind = get_or record_at 0 0;
            stem = get_or record_at 1 0;
            left = get_or record_at 2 0;
            right = get_or record_at 3 0;
            position = get_or record_at 4 0;
          }
          ≡ plan_in bytes (i + 1)
      unfolding plan_in byte_at
      box_here chunks i is h =
          let place : box_start bytes (i + 1) ≡ from + 5 * i = omega (arith, box_at i, box_at 0, a.place) in
          let first : from + 5 * i + 0 ≡ from + 5 * i = omega arith in
          rw (
            is,
            box_byte i 0 h (omega arith),
            box_byte i 1 h (omega arith),
            box_byte i 2 h (omega arith),
            box_byte i 3 h (omega arith),
            box_byte i 4 h (omega arith),
            first,
            place,
          )
          refl

  -- A train record by the place at which it begins: its bytes, its route, and where the next one begins.
  module _ (i at : ℕ) (e : at ≡ trains_from bytes i) where
    pub train_here : record { direction = get_or bytes at 0; length = get_or bytes (at + 1) 0 } ≡ train_plan_in bytes (i + 1)
    unfolding train_plan_in byte_at
    train_here = rw (train_at, e)

    pub route_in_lem : route_in bytes (i + 1) ≡ take (get_or bytes (at + 1) 0) (drop (at + 2) bytes)
    unfolding route_in byte_at train_size
    route_in_lem = rw (train_at, e)

    pub trains_next : at + 2 + get_or bytes (at + 1) 0 ≡ trains_from bytes (i + 1)
    unfolding byte_at
    trains_next = rw (trains-more, e)

  -- The file from the record of train i on, which has the train's route behind the first two bytes.
  module _ (i : ℕ) (h : HasTrain bytes i) where
    room : trains_from bytes (i - 1) + 2 + get_or bytes (trains_from bytes (i - 1) + 1) 0 ≤ length bytes
    room = train_room h.whole (i - 1) _ (omega (arith, h.low, h.high)) refl

    pub route_place : trains_from bytes (i - 1) ≤ length bytes
    route_place = omega (arith, room)

    pub route_at : (p q : ℕ × ℕ) → q ≡ pointer_after p (trains_from bytes (i - 1)) → (q.0, 2 + q.1) ≡ pointer_after p (route_start bytes i)
    unfolding train_start train_size
    route_at p q e = rw e (ap (λ (o : ℕ). (p.0, o)) (omega arith))

    module _ (rest : List ℕ) (e : rest ≡ drop (trains_from bytes (i - 1)) bytes) where
      pub route_room : 2 + get_or rest 1 0 ≤ length rest
      route_room = rw (e, get_or-drop, length-drop) (omega (arith, room))

      pub route_is : take (2 + get_or rest 1 0 - 2) (drop 2 rest) ≡ route_in bytes i
      route_is =
          let j : i - 1 + 1 ≡ i = omega (arith, h.low) in
          let size : 2 + get_or rest 1 0 - 2 ≡ get_or rest 1 0 = omega arith in
          rw (size, e, get_or-drop, drop-drop) (rw j at (sym (route_in_lem (i - 1) _ refl)))

  -- The routes: none, and one more.
  pub routes_none : replicate 1024 0 ≡ routes_up_to bytes 0
  unfolding routes_up_to
  routes_none = sym (ap (λ (l : List ℕ). filled 1024 0 l) (join_none _) ∙ filled_none 1024 0)

  pub routes_more : Whole bytes → (i at k room count : ℕ) (l copied : List ℕ) →
      i < train_count bytes →
      at ≡ trains_from bytes i →
      l ≡ routes_up_to bytes i →
      k ≡ min (get_or bytes (at + 1) 0) 64 →
      room ≡ k →
      count ≡ k →
      copied ≡ take count (drop (at + 2) bytes) →
      put_mid (64 * i) room l copied ≡ routes_up_to bytes (i + 1)
  unfolding routes_up_to
  routes_more w i at k room count l copied h e r c f g is =
      let fits : k ≤ length (drop (at + 2) bytes) = simp length-drop (omega (arith, c, train_room w i at h e)) in
      let few : i < 16 = omega (arith, w.trains) in
      rw f
      (join_copy (route_in bytes) 0 i k (get_or bytes (at + 1) 0) l _ copied few r (route_in_lem i at e) c fits (rw g at is))

  -- The table record, by the numbers of the head and the arrays.
  pub decode_of : (version n m k : ℕ) (s : List Segment) (b : List BoxPlan) (t : List TrainPlan) (r : List ℕ) →
      version ≡ version_in bytes →
      n ≡ segment_count bytes →
      m ≡ box_count bytes →
      k ≡ train_count bytes →
      s ≡ segments_of bytes →
      b ≡ boxes_of bytes →
      t ≡ trains_of bytes →
      r ≡ routes_of bytes →
      record { version = version; n = n; m = m; k = k; segments = s; boxes = b; trains = t; routes = r } ≡ decode bytes
  unfolding decode segments_of boxes_of trains_of routes_of routes_up_to
  decode_of version n m k s b t r ev en em ek es eb et er = rw (ev, en, em, ek, es, eb, et, er)

-- What the loops over a file's records go by: what is within the file, and what is read there.
pub ruleset rooms = (whole_long, train_head, train_room, segment_room, box_room)

pub ruleset records = (rooms, segment_here, box_chunks, box_here, train_here, trains_next, routes_none, routes_more, fill_none, fill_more)

-- What the readers go by: where the records begin, the table record of what is read, and the route of a train.
pub ruleset of_routes = (route_place, route_at, route_room, route_is)

pub ruleset places = (whole_long, segments_place, boxes_place, trains_place, trains_near, decode_of, of_routes)
