-- Writing back what was read: the bytes of the table record of an accepted file are the file's own.
-- A file is followed from its front: the head, the segments, the boxes and the trains stand in it one after the other, each
-- as `encode` gives them, and the last train ends where the file does.
use Prim.Native.Nat.{ℕ, suc, ◌+◌, ◌-◌, ◌*◌, ◌/◌, ◌%◌, ◌≤◌, ◌<◌}
use mathlib.Core.Path.{◌≡◌, ◌∙◌}
use mathlib.Core.Logic.{⊎_elim}
use mathlib.Core.Bool.{Bool, true, false, cond}
use mathlib.Core.List.{List, [], ◌∷◌, ◌++◌}
use native.Mathlib.Numerals.{add-one, towards_suc}
use native.Mathlib.Omega.{arith}
use lib.ListN.{drop}
use lib.Seq.{get_or-take, get_or-drop}
use Rattle.rules.specs.Rows.{list_from, list_of, join_of}
use Rattle.rules.specs.Track.{no_box_plan, no_train_plan, plan_at, train_plan_at, route_at}
use Rattle.rules.specs.File.{head_size, segment_size, box_size, train_size, byte_at, marked, version_in, segment_count, box_count, train_count, segment_start, box_start, trains_from, train_start, file_length, segment_from, segment_in, plan_in, train_plan_in, route_in, decode, file_code, head_bytes, segment_bytes, box_bytes, train_bytes, encode}
use Rattle.rules.specs.Network.{known_version, has_ways}
use Rattle.rules.proofs.Tests.{facts, or-true_iff, eqb-true_iff}
use Rattle.rules.proofs.Rows.{nth_at, filled_list_at, from_same, from_all, join_parts}
use Rattle.rules.proofs.Accepted.{Limits}
use Rattle.rules.proofs.Files.{AcceptedFile, segment_read, file_iff}
use Rattle.rules.proofs.UsedPart.{route_filled}

-- What the table record has of a file.
module _ (bytes : List ℕ) where
  -- Box and train i + 1 are those of the file, if the table has room for them.
  pub plan_read : box_count bytes ≤ 96 → (i : ℕ) → i < box_count bytes → plan_at (decode bytes) (i + 1) ≡ plan_in bytes (i + 1)
  unfolding plan_at decode
  plan_read few i h = rw (nth_at, filled_list_at (plan_in bytes) no_box_plan 96 (box_count bytes) i h (omega arith))

  pub train-read : train_count bytes ≤ 16 → (i : ℕ) → i < train_count bytes → train_plan_at (decode bytes) (i + 1) ≡ train_plan_in bytes (i + 1)
  unfolding train_plan_at decode
  train-read few i h = rw (nth_at, filled_list_at (train_plan_in bytes) no_train_plan 16 (train_count bytes) i h (omega arith))

  -- Place p + 1 of train i + 1's route is the byte of the file p places after the train's head.
  pub route_read : train_count bytes ≤ 16 → (i p : ℕ) → i < train_count bytes → p < 64 → p < byte_at bytes (train_start bytes (i + 1) + 1)
      → route_at (decode bytes).routes (i + 1) (p + 1) ≡ byte_at bytes (train_start bytes (i + 1) + 2 + p)
  unfolding decode train_size route_in byte_at
  route_read few i p h short k =
      let at = train_start bytes (i + 1) in
      route_filled (route_in bytes) (train_count bytes) i p few h short
      ∙ get_or-take (byte_at bytes (at + 1)) (drop (at + 2) bytes) p 0 k
      ∙ get_or-drop (at + 2) bytes p 0

-- The n bytes of a file that begin at place j.
abbrev part : List ℕ → ℕ → ℕ → List ℕ
part bytes j n = list_from j n (byte_at bytes)

module _ (bytes : List ℕ) (a : AcceptedFile bytes) where
  -- The limits, and the lengths of the routes.
  limits : Limits (segment_count bytes) (box_count bytes) (train_count bytes)
  unfolding decode
  limits = a.table.limits

  route_short : (i : ℕ) → i < train_count bytes → byte_at bytes (train_start bytes (i + 1) + 1) ≤ 64
  unfolding decode train_plan_in
  route_short i h =
      rw (train-read bytes limits.trains_high i h) at (a.table.routes (i + 1) (omega arith)).high

  -- Its version fits into the lower of its two bytes.
  version_low : version_in bytes < 256
  unfolding decode known_version
  version_low = ⊎_elim (λ e. omega arith) (λ e. omega arith)
      ((or-true_iff _ _ (eqb-true_iff (version_in bytes) 1) (eqb-true_iff (version_in bytes) 2)).0 a.table.version)

  -- The head of the table record, its segment and box i + 1, a place of a route and train i + 1 are written as they stand in the file.
  head_written : head_bytes (decode bytes) ≡ part bytes 0 8
  unfolding head_bytes decode marked version_in segment_count box_count train_count list_from
  head_written =
      let mark = simp facts at a.mark in
      let high : version_in bytes / 256 ≡ byte_at bytes 3 = omega (arith, version_low) in
      let low : version_in bytes % 256 ≡ byte_at bytes 4 = omega (arith, version_low) in
      cc

  segment_written : (i : ℕ) → i < segment_count bytes
      → segment_bytes (decode bytes) (i + 1) ≡ part bytes (segment_start bytes (i + 1)) (segment_size (version_in bytes))
  unfolding segment_bytes segment_in segment_from segment_size decode list_from
  segment_written i h = rw (segment_read bytes limits.segments_high i h) (by (has_ways (version_in bytes)))
    where
      by : (b : Bool) → let at = segment_start bytes (i + 1) in
          byte_at bytes at ∷ byte_at bytes (at + 1) ∷ cond b (cond b (byte_at bytes (at + 2)) 0 ∷ []) [] ≡ part bytes at (cond b 3 2)
      by true = simp towards_suc
      by false = simp towards_suc

  box-written : (i : ℕ) → i < box_count bytes → box_bytes (decode bytes) (i + 1) ≡ part bytes (box_start bytes (i + 1)) 5
  unfolding box_bytes plan_in list_from
  box-written i h = rw (plan_read bytes limits.boxes_high i h) (simp towards_suc)

  place-written : (i p : ℕ) → i < train_count bytes → p < byte_at bytes (train_start bytes (i + 1) + 1)
      → route_at (decode bytes).routes (i + 1) (1 + p) ≡ byte_at bytes (suc (suc (train_start bytes (i + 1))) + p)
  place-written i p h k =
      let place : 1 + p ≡ p + 1 = omega arith in
      let byte : suc (suc (train_start bytes (i + 1))) + p ≡ train_start bytes (i + 1) + 2 + p = omega arith in
      rw (place, byte) (route_read bytes limits.trains_high i p h (omega (arith, route_short i h)) k)

  train-written : (i : ℕ) → i < train_count bytes
      → train_bytes (decode bytes) (i + 1) ≡ part bytes (train_start bytes (i + 1)) (suc (suc (byte_at bytes (train_start bytes (i + 1) + 1))))
  unfolding train_bytes train_plan_in list_from list_of
  train-written i h =
      let at = train_start bytes (i + 1) in
      let route = from_same (route_at (decode bytes).routes (i + 1)) (byte_at bytes) (byte_at bytes (at + 1)) 1 (suc (suc at)) (λ p. place-written i p h) in
      rw (train-read bytes limits.trains_high i h, route, add-one at)

  -- Where the train record after the (i + 1)-th begins.
  next-train : (i : ℕ) → i < train_count bytes
      → train_start bytes (i + 1 + 1) ≡ train_start bytes (i + 1) + suc (suc (byte_at bytes (train_start bytes (i + 1) + 1)))
  unfolding train_start trains_from train_size
  next-train i h =
      let this : i + 1 - 1 ≡ i = omega arith in
      let next : i + 1 + 1 - 1 ≡ suc i = omega arith in
      rw (next, this) (omega arith)

  -- The segments, the boxes and the trains are written as they stand in the file, one after the other.
  segments-written : part bytes 0 (segment_start bytes 1) ++ join_of (segment_count bytes) (segment_bytes (decode bytes))
      ≡ part bytes 0 (segment_start bytes (segment_count bytes + 1))
  unfolding segment_start segment_size
  segments-written =
      join_parts _ _ (λ i. segment_start bytes (i + 1)) _ (segment_count bytes) segment_written (λ i h. by (has_ways (version_in bytes)) i)
    where
      by : (b : Bool) (i : ℕ) → head_size + cond b 3 2 * (i + 1 + 1 - 1) ≡ head_size + cond b 3 2 * (i + 1 - 1) + cond b 3 2
      by true i = omega arith
      by false i = omega arith

  boxes-written : part bytes 0 (box_start bytes 1) ++ join_of (box_count bytes) (box_bytes (decode bytes))
      ≡ part bytes 0 (box_start bytes (box_count bytes + 1))
  unfolding box_start box_size
  boxes-written = join_parts _ _ (λ i. box_start bytes (i + 1)) _ (box_count bytes) box-written (λ i h. omega arith)

  trains-written : part bytes 0 (train_start bytes 1) ++ join_of (train_count bytes) (train_bytes (decode bytes))
      ≡ part bytes 0 (train_start bytes (train_count bytes + 1))
  trains-written = join_parts _ _ (λ i. train_start bytes (i + 1)) _ (train_count bytes) train-written next-train

  -- The segments begin behind the head, and the boxes behind the segments.
  segments_begin : segment_start bytes 1 ≡ 8
  unfolding segment_start
  segments_begin = omega arith

  boxes_begin : segment_start bytes (segment_count bytes + 1) ≡ box_start bytes 1
  unfolding segment_start box_start
  boxes_begin = let all : segment_count bytes + 1 - 1 ≡ segment_count bytes = omega arith in rw all (omega arith)

  -- The table record is written as the file.
  all_written : encode (decode bytes) ≡ bytes
  unfolding encode decode train_start trains_from file_length byte_at
  all_written =
      let segments = rw segments_begin at segments-written in
      let last : train_count bytes + 1 - 1 ≡ train_count bytes = omega arith in
      rw (head_written, segments, boxes_begin, boxes-written, trains-written, last, ← a.whole) (from_all bytes 0)

-- The bytes of the table record of an accepted file are the file's own.
pub written_back_lem : (bytes : List ℕ) → file_code bytes ≡ 0 → encode (decode bytes) ≡ bytes
written_back_lem bytes e = all_written bytes ((file_iff bytes).0 e)
