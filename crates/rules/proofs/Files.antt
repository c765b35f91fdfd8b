-- What the table record of a file has, when a file is accepted, and when a table record is written.
use Prim.Native.Nat.{ℕ, zero, suc, ◌+◌, ◌≤◌, ◌<◌}
use mathlib.Core.Path.{◌≡◌, ap}
use mathlib.Core.Logic.{◌↔◌}
use mathlib.Core.Bool.{true, false}
use mathlib.Core.List.{List}
use native.Mathlib.Numerals.{add-one}
use native.Mathlib.Omega.{arith}
use lib.ListN.{length}
use Rattle.rules.specs.declared.Segment.{Segment}
use Rattle.rules.specs.declared.Table.{Table}
use Rattle.rules.specs.Track.{no_segment, segment_at, way_by, way_of}
use Rattle.rules.specs.Network.{some_one_way, ways_fault, head_rows}
use Rattle.rules.specs.Placing.{table_code, parts_code}
use Rattle.rules.specs.File.{early_rows, head_size, marked, version_in, segment_count, file_length, segment_from, segment_in, decode, file_code, encode, write_refusal}
use Rattle.rules.proofs.Tests.{facts, first-none, first_zero_iff}
use Rattle.rules.proofs.Rows.{any_false_iff, nth_at, filled_list_at}
use Rattle.rules.proofs.Refusals.{table_coded, then_zero_iff}
use Rattle.rules.proofs.Accepted.{Accepted, limits_iff, accepted, accepted-code}

-- What holds of an accepted file: codes 1, 2 and 5, and its table record is accepted.
pub record AcceptedFile (bytes : List ℕ) : Type 0 where
  pub long : head_size ≤ length bytes
  pub mark : marked bytes ≡ true
  pub whole : length bytes ≡ file_length bytes
  pub table : Accepted (decode bytes)

-- Segment i + 1 of the table record is that of the file, if the table has room for it. So a file has no way that its version cannot hold.
pub segment_read : (bytes : List ℕ) → segment_count bytes ≤ 96 → (i : ℕ) → i < segment_count bytes → segment_at (decode bytes) (i + 1) ≡ segment_in bytes (i + 1)
unfolding segment_at decode
segment_read bytes few i h = rw (nth_at, filled_list_at (segment_in bytes) no_segment 96 (segment_count bytes) i h (omega arith))

pub held-read : (bytes : List ℕ) → segment_count bytes ≤ 96 → ways_fault (version_in bytes) (segment_count bytes) (way_of (decode bytes)) ≡ false
unfolding ways_fault some_one_way way_by segment_at segment_in segment_from
held-read bytes few =
    simp (facts, any_false_iff) λ none s.
    elim s as (λ j. 1 ≤ j → j ≤ segment_count bytes → (segment_at (decode bytes) j).way ≡ 0) [
      | zero ↦ λ l h. absurd (omega arith)
      | suc i ↦ λ l h.
          let read : segment_at (decode bytes) (i + 1) ≡ segment_in bytes (i + 1) = segment_read bytes few i (omega arith) in
          rw none at (ap (λ (x : Segment). x.way) (rw add-one at read))
    ]

pub file_iff : (bytes : List ℕ) → (file_code bytes ≡ 0) ↔ AcceptedFile bytes
unfolding file_code early_rows table_code parts_code head_rows decode
file_iff bytes =
    simp (facts, first_zero_iff) (
      λ (long, (mark, (version, (limits, (whole, rest))))).
          let held = held-read bytes ((limits_iff _ _ _).0 limits).segments_high in
          record {
            long = omega arith;
            mark = mark;
            whole = whole;
            table = accepted (decode bytes) (simp first_zero_iff (held, simp facts (version, (limits, rest))));
          },
      λ a.
          let (_, coded) = simp first_zero_iff at (accepted-code (decode bytes) a.table) in
          let (version, (limits, rest)) = simp facts at coded in
          (omega arith, (a.mark, (version, (limits, (a.whole, rest))))),
    )

-- A table record is written where it has no fault and the buffer has room for it.
pub write_iff : (t : Table) (buffer : List ℕ) → ((write_refusal t buffer).code ≡ 0) ↔ ((table_code t ≡ 0) × (length (encode t) ≤ length buffer))
unfolding write_refusal
write_iff t buffer = simp (facts, then_zero_iff, table_coded, first-none, first_zero_iff) (omega arith)
