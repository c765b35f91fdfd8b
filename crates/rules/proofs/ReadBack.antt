-- Reading what was written: the table record of the file that `encode` makes is the table's used part, and the file of a table
-- with code 0 has code 0. The part of a file that a record takes is found by what stands before it (`Stands`).
use Prim.Native.Nat.{ℕ, zero, suc, ◌+◌, ◌-◌, ◌*◌, ◌≤◌, ◌<◌}
use mathlib.Core.Path.{◌≡◌, refl, sym, ◌∙◌, ap}
use mathlib.Core.Bool.{Bool, true, false, cond}
use mathlib.Core.List.{List, [], ◌∷◌, ◌++◌, append_assoc, append-nil}
use native.Mathlib.Nat.{div-add-mod}
use native.Mathlib.Numerals.{add-one}
use native.Mathlib.Omega.{arith}
use lib.ListN.{length, get_or, take, drop, length-append}
use lib.Seq.{take_at, drop-drop, drop-append_seam, get_or-drop}
use Rattle.rules.specs.declared.Table.{Table}
use Rattle.rules.specs.Rows.{join_of, filled}
use Rattle.rules.specs.Track.{segment_at, plan_at, train_plan_at, way_by}
use Rattle.rules.specs.Network.{has_ways}
use Rattle.rules.specs.Placing.{table_code}
use Rattle.rules.specs.File.{segment_size, box_size, train_size, byte_at, marked, version_in, segment_count, box_count, train_count, segment_start, box_start, trains_from, train_start, file_length, segment_from, segment_in, plan_in, train_plan_in, route_in, decode, file_code, head_bytes, segment_bytes, box_bytes, train_bytes, encode, used_part}
use Rattle.rules.proofs.Rows.{list_length, list_same, join_none, join_more, join_same, join_cut, join_length}
use Rattle.rules.proofs.Accepted.{Accepted, accepted}
use Rattle.rules.proofs.Files.{file_iff}
use Rattle.rules.proofs.UsedPart.{route_of, used-code}

-- The bytes have w from place p on.
record Stands (bytes : List ℕ) (p : ℕ) (w : List ℕ) : Type 0 where
  after : List ℕ
  split : drop p bytes ≡ w ++ after

-- The same place, named otherwise.
stands_at : {bytes w : List ℕ} {p : ℕ} (q : ℕ) → Stands bytes p w → p ≡ q → Stands bytes q w
stands_at q s e = rw e at s

-- Where two lists stand one after the other, the first stands, and the second.
stands-left : {bytes : List ℕ} {p : ℕ} (u v : List ℕ) → Stands bytes p (u ++ v) → Stands bytes p u
stands-left u v s = record { after = v ++ s.after; split = s.split ∙ append_assoc u v s.after }

stands_right : {bytes : List ℕ} {p : ℕ} (u v : List ℕ) → Stands bytes p (u ++ v) → Stands bytes (p + length u) v
stands_right {bytes} {p} u v s =
    record { after = s.after; split = rw (← drop-drop, s.split, append_assoc, drop-append_seam) }

-- Where joined lists stand, list i + 1 stands after the first i.
stands_part : {bytes : List ℕ} {p : ℕ} (f : ℕ → List ℕ) (n i : ℕ) → i < n → Stands bytes p (join_of n f) → Stands bytes (p + length (join_of i f)) (f (i + 1))
stands_part f n i l s = stands-left (f (i + 1)) _ (stands_right (join_of i f) _ (rw (join_cut f n i l) at s))

-- What stands there is read there: a byte, the first byte, and the whole.
stands_byte : {bytes w : List ℕ} {p : ℕ} (s : Stands bytes p w) (i : ℕ) → byte_at bytes (p + i) ≡ get_or (w ++ s.after) i 0
unfolding byte_at
stands_byte s i = rw (← get_or-drop, s.split)

stands-first : {bytes w : List ℕ} {p : ℕ} (s : Stands bytes p w) → byte_at bytes p ≡ get_or (w ++ s.after) 0 0
stands-first {bytes} s = ap (byte_at bytes) (omega arith) ∙ stands_byte s 0

stands-take : {bytes w : List ℕ} {p : ℕ} (n : ℕ) → Stands bytes p w → length w ≡ n → take n (drop p bytes) ≡ w
stands-take {w} n s e = rw s.split (take_at w s.after n e)

module _ (t : Table) where
  -- The three parts of the file after its head, where the third begins, and how long the first i records of the others are.
  abbrev segments : List ℕ
  segments = join_of t.n (segment_bytes t)

  abbrev boxes : List ℕ
  boxes = join_of t.m (box_bytes t)

  abbrev trains : List ℕ
  trains = join_of t.k (train_bytes t)

  trains_at : ℕ
  trains_at = 8 + segment_size t.version * t.n + 5 * t.m

  pub segment_length : (s : ℕ) → length (segment_bytes t s) ≡ segment_size t.version
  unfolding segment_bytes segment_size
  segment_length s = by (has_ways t.version)
    where
      by : (b : Bool) → length ((segment_at t s).a ∷ (segment_at t s).b ∷ cond b ((segment_at t s).way ∷ []) []) ≡ cond b 3 2
      by true = refl
      by false = refl

  pub segments-length : (i : ℕ) → length (join_of i (segment_bytes t)) ≡ segment_size t.version * i
  segments-length i = join_length (segment_bytes t) (segment_size t.version) segment_length i

  pub boxes-length : (i : ℕ) → length (join_of i (box_bytes t)) ≡ 5 * i
  unfolding box_bytes
  boxes-length i = join_length (box_bytes t) 5 (λ b. refl) i

  -- The segments, the boxes and the trains stand one after the other, after the head.
  body_stands : Stands (encode t) 8 (segments ++ boxes ++ trains)
  unfolding encode head_bytes
  body_stands = record { after = []; split = rw append-nil }

  segments_stand : Stands (encode t) 8 segments
  segments_stand = stands-left segments boxes (stands-left (segments ++ boxes) trains body_stands)

  boxes_stand : Stands (encode t) (8 + segment_size t.version * t.n) boxes
  boxes_stand =
      stands_at _ (stands_right segments boxes (stands-left (segments ++ boxes) trains body_stands)) (omega (arith, segments-length t.n))

  trains_stand : Stands (encode t) trains_at trains
  unfolding trains_at
  trains_stand =
      stands_at _ (stands_right (segments ++ boxes) trains body_stands) (simp (length-append, segments-length, boxes-length) (omega arith))

  -- The version and the numbers are read back.
  version_read : version_in (encode t) ≡ t.version
  unfolding version_in byte_at encode head_bytes
  version_read = div-add-mod t.version 256

  counts-read : (segment_count (encode t) ≡ t.n) × (box_count (encode t) ≡ t.m) × (train_count (encode t) ≡ t.k)
  unfolding segment_count box_count train_count byte_at encode head_bytes
  counts-read = (refl, refl, refl)

  -- Where the segment records and the box records stand.
  segment_stands : (i : ℕ) → i < t.n → Stands (encode t) (segment_start (encode t) (i + 1)) (segment_bytes t (i + 1))
  unfolding segment_start
  segment_stands i l =
      let e : i + 1 - 1 ≡ i = omega arith in
      stands_at _ (stands_part (segment_bytes t) t.n i l segments_stand) (rw (e, version_read) (omega (arith, segments-length i)))

  box_starts : (b : ℕ) → box_start (encode t) b ≡ 8 + segment_size t.version * t.n + 5 * (b - 1)
  unfolding box_start box_size
  box_starts b = rw (version_read, counts-read.0)

  -- Each segment and each box is read back. The way of a segment is, if the version can hold it.
  segment_back : Accepted t → (i : ℕ) → i < t.n → segment_in (encode t) (i + 1) ≡ segment_at t (i + 1)
  unfolding segment_in segment_from segment_bytes way_by segment_at
  segment_back ok i l =
      let s = segment_stands i l in
      rw (stands-first s, stands_byte s 1, version_read, by (has_ways t.version) refl s)
    where
      by : (b : Bool) → has_ways t.version ≡ b
          → Stands (encode t) (segment_start (encode t) (i + 1)) ((segment_at t (i + 1)).a ∷ (segment_at t (i + 1)).b ∷ cond b ((segment_at t (i + 1)).way ∷ []) [])
          → cond b (byte_at (encode t) (segment_start (encode t) (i + 1) + 2)) 0 ≡ (segment_at t (i + 1)).way
      by true e s = stands_byte s 2
      by false e s = sym (ok.held e (i + 1) (omega arith))

  box_back : (i : ℕ) → i < t.m → plan_in (encode t) (i + 1) ≡ plan_at t (i + 1)
  unfolding plan_in box_bytes
  box_back i l =
      let s = stands_at (box_start (encode t) (i + 1)) (stands_part (box_bytes t) t.m i l boxes_stand) (omega (arith, box_starts (i + 1), boxes-length i)) in
      rw (stands-first s, stands_byte s 1, stands_byte s 2, stands_byte s 3, stands_byte s 4)

  -- Each train's record begins after those before it, and it and its route are read back.
  trains-from : (j : ℕ) → j ≤ t.k → trains_at + length (join_of j (train_bytes t)) ≡ trains_from (encode t) j
  unfolding trains_from train_size train_bytes trains_at
  trains-from zero l = rw join_none (omega (arith, counts-read, box_starts (box_count (encode t) + 1)))
  trains-from (suc j) l =
      let s = stands_at (trains_from (encode t) j) (stands_part (train_bytes t) t.k j l trains_stand) (trains-from j (omega arith)) in
      rw (stands_byte s 1, ← add-one j, join_more, length-append, list_length) (omega (arith, trains-from j (omega arith)))

  train-stands : (i : ℕ) → i < t.k → Stands (encode t) (train_start (encode t) (i + 1)) (train_bytes t (i + 1))
  unfolding train_start
  train-stands i l =
      let e : i + 1 - 1 ≡ i = omega arith in
      stands_at _ (stands_part (train_bytes t) t.k i l trains_stand) (rw e (trains-from i (omega arith)))

  train_back : (i : ℕ) → i < t.k → train_plan_in (encode t) (i + 1) ≡ train_plan_at t (i + 1)
  unfolding train_plan_in train_bytes
  train_back i l = let s = train-stands i l in rw (stands-first s, stands_byte s 1)

  route_back : (i : ℕ) → i < t.k → route_in (encode t) (i + 1) ≡ route_of t (i + 1)
  unfolding route_in train_size train_bytes
  route_back i l =
      let s = train-stands i l in
      let p = train_plan_at t (i + 1) in
      rw (stands_byte s 1) (stands-take p.length (stands_right (p.direction ∷ p.length ∷ []) (route_of t (i + 1)) s) (list_length _ p.length))

  -- The table record of the written file is the used part of the table.
  pub decode-encode : Accepted t → decode (encode t) ≡ used_part t
  unfolding decode used_part
  decode-encode ok =
      rw (
        version_read,
        counts-read.0,
        counts-read.1,
        counts-read.2,
        list_same (segment_in (encode t)) (segment_at t) t.n (segment_back ok),
        list_same (plan_in (encode t)) (plan_at t) t.m box_back,
        list_same (train_plan_in (encode t)) (train_plan_at t) t.k train_back,
        join_same (λ i. filled 64 0 (route_in (encode t) i)) (λ i. filled 64 0 (route_of t i)) t.k (λ i l. ap (filled 64 0) (route_back i l)),
      )

  -- The written file has the length that it asks for.
  pub encoded_length : length (encode t) ≡ 8 + segment_size t.version * t.n + 5 * t.m + length (join_of t.k (train_bytes t))
  unfolding encode head_bytes
  encoded_length = simp (length-append, segments-length, boxes-length) (omega arith)

  file_length_lem : length (encode t) ≡ file_length (encode t)
  unfolding file_length trains_at
  file_length_lem = rw (counts-read.2, ← trains-from t.k (omega arith)) encoded_length

  -- It has the mark, and at least the length of a head.
  mark_read : (marked (encode t) ≡ true) × (8 ≤ length (encode t))
  unfolding marked byte_at encode head_bytes
  mark_read = (refl, omega arith)

  -- The file of a table with code 0 has code 0.
  pub file_accepted : table_code t ≡ 0 → file_code (encode t) ≡ 0
  file_accepted e =
      (file_iff (encode t)).1
      (record { long = mark_read.1; mark = mark_read.0; whole = file_length_lem; table = accepted _ (rw (decode-encode (accepted t e)) (used-code t e)) })
