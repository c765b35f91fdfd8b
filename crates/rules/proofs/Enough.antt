-- How much of its file and its input the program has to read, and how much room it needs.
use Prim.Native.Nat.{ℕ, zero, suc, ◌+◌, ◌*◌, ◌/◌, ◌≤◌, ◌<◌}
use mathlib.Core.Path.{◌≡◌, refl, sym, ◌∙◌}
use mathlib.Core.Logic.{◌≢◌}
use mathlib.Core.Bool.{Bool, true, false, cond, not}
use mathlib.Core.List.{List, [], ◌∷◌, ◌++◌}
use native.Mathlib.Decide.{dec_lt}
use native.Mathlib.Omega.{arith}
use lib.Dec.{eqb, ltb}
use borrow.Author.Tests.{le-ltb, ne_eqb}
use lib.ListN.{length, take, drop, length-append, length-take, get_or-eq_default}
use lib.Seq.{take-append_seam, take_all, take-take, get_or-take}
use Rattle.rules.specs.declared.Line.{Line}
use Rattle.rules.specs.Rows.{◌if◌, first}
use Rattle.rules.specs.Network.{known_version, has_ways, limits_fault, head_rows}
use Rattle.rules.specs.Placing.{condition_rows, without_place, tells_place}
use Rattle.rules.specs.File.{head_size, segment_size, box_size, train_size, byte_at, marked, version_in, segment_count, box_count, train_count, box_start, trains_from, file_length, decode, early_rows, file_code, file_refusal}
use Rattle.rules.specs.Line.{empty_line, read}
use Rattle.rules.specs.Run.{step_count}
use Rattle.rules.specs.Printout.{most_steps, taken_of, more_line, run_text, printout_up_to, printout, most_file, most_input, AllBytes, Enough, text_room, most_text, print_code, print_length, printed_text}
use Rattle.rules.proofs.Tests.{facts, outside-false_iff, EachCode, first-before, first-none, first_zero_iff}
use Rattle.rules.proofs.Refusals.{placeless, without_place_lem}

-- Of the bytes after the steps that are taken, the first decides whether the last line stands.
more_enough : (n most : ℕ) (input : List ℕ) → n < most → more_line (drop n (take most input)) ≡ more_line (drop n input)
unfolding more_line
more_enough n zero input h = absurd (omega arith)
more_enough zero (suc most) [] h = refl
more_enough zero (suc most) (x ∷ rest) h = refl
more_enough (suc n) (suc most) [] h = refl
more_enough (suc n) (suc most) (x ∷ rest) h = more_enough n most rest (omega arith)

input_enough : (steps most : ℕ) (l : Line) (input : List ℕ) → 3 * steps < most → run_text steps l (take most input) ≡ run_text steps l input
unfolding run_text taken_of
input_enough steps most l input h =
    let within : 3 * steps ≤ most = omega arith in
    rw (take-take (3 * steps) most input, more_enough (3 * steps) most input)

-- A file of bytes, with n, m and k within their limits, asks for a length below the most that is read.
module _ (bytes : List ℕ) (low : AllBytes bytes) where
  trains_end : (j : ℕ) → trains_from bytes j ≤ box_start bytes (box_count bytes + 1) + 257 * j
  unfolding trains_from train_size byte_at
  trains_end zero = omega arith
  trains_end (suc j) = omega (arith, trains_end j, low (trains_from bytes j + 1))

  segments_end : segment_count bytes ≤ 96 → segment_size (version_in bytes) * segment_count bytes ≤ 288
  unfolding segment_size
  segments_end few = by (has_ways (version_in bytes))
    where
      by : (b : Bool) → cond b 3 2 * segment_count bytes ≤ 288
      by true = omega arith
      by false = omega arith

  length_limit : limits_fault (segment_count bytes) (box_count bytes) (train_count bytes) ≡ false → file_length bytes < most_file
  unfolding limits_fault file_length box_start box_size
  length_limit e =
      let ((segments, boxes), trains) = simp (facts, outside-false_iff) at e in
      omega (arith, trains_end (train_count bytes), segments_end segments.1)

  length_wrong : most_file ≤ length bytes → limits_fault (segment_count bytes) (box_count bytes) (train_count bytes) ≡ false
      → not (eqb (length bytes) (file_length bytes)) ≡ true
  length_wrong long e = simp facts (omega (arith, length_limit e))

-- The code of a file with as many bytes as are read or more, by its head.
head_code : List ℕ → ℕ
head_code bytes =
    first
    (2 if not (marked bytes)
    ∷ 3 if not (known_version (version_in bytes))
    ∷ 4 if limits_fault (segment_count bytes) (box_count bytes) (train_count bytes)
    ∷ 5 if true
    ∷ [])

-- Where 1 does not apply, and 5 applies where 4 does not.
last_row : (z a b c d : Bool) → z ≡ false → (c ≡ false → d ≡ true)
    → first (1 if z ∷ 2 if a ∷ 3 if b ∷ 4 if c ∷ 5 if d ∷ []) ≡ first (2 if a ∷ 3 if b ∷ 4 if c ∷ 5 if true ∷ [])
unfolding first
last_row z a b true d e h = rw e
last_row z a b false d e h = rw (e, h refl)

some_row : (a b c : Bool) → first (2 if a ∷ 3 if b ∷ 4 if c ∷ 5 if true ∷ []) ≢ 0
unfolding first
some_row true b c e = omega arith
some_row false true c e = omega arith
some_row false false true e = omega arith
some_row false false false e = omega arith

long_refused : (bytes : List ℕ) → head_code bytes ≢ 0
unfolding head_code
long_refused bytes = some_row _ _ _

long_placeless : (bytes : List ℕ) → tells_place (head_code bytes) ≡ false
unfolding EachCode head_code tells_place
long_placeless bytes = placeless _ (refl, (refl, (refl, (refl, refl))))

long_code : (bytes : List ℕ) → AllBytes bytes → most_file ≤ length bytes → first (early_rows bytes) ≡ head_code bytes
unfolding early_rows head_rows head_code
long_code bytes low long =
    let whole : ltb (length bytes) head_size ≡ false = le-ltb (length bytes) head_size (omega arith) in
    last_row _ _ _ _ _ whole (length_wrong bytes low long)

long_read : (bytes : List ℕ) → AllBytes bytes → most_file ≤ length bytes
    → read bytes ≡ record { refusal = without_place (head_code bytes); line = empty_line }
unfolding read file_refusal file_code
long_read bytes low long =
    let early = long_code bytes low long in
    let refused = long_refused bytes in
    let code = sym (first-before (early_rows bytes) (condition_rows (decode bytes)) (λ e. refused (sym early ∙ e))) ∙ early in
    rw (code, ne_eqb (head_code bytes) 0, without_place_lem _ _ (long_placeless bytes))

-- The first bytes of a file have its head, and are bytes.
same_byte : (most : ℕ) (file : List ℕ) (i : ℕ) → i < most → byte_at (take most file) i ≡ byte_at file i
unfolding byte_at
same_byte most file i h = get_or-take most file i 0 h

same_head : (most : ℕ) (file : List ℕ) → head_size ≤ most → head_code (take most file) ≡ head_code file
unfolding head_code marked version_in segment_count box_count train_count
same_head most file h =
    let same = same_byte most file in
    rw (
      same 0 (omega arith),
      same 1 (omega arith),
      same 2 (omega arith),
      same 3 (omega arith),
      same 4 (omega arith),
      same 5 (omega arith),
      same 6 (omega arith),
      same 7 (omega arith),
    )

bytes_taken : (most : ℕ) (file : List ℕ) → AllBytes file → AllBytes (take most file)
bytes_taken most file low i =
    elim (dec_lt i most) [
      | yes h ↦ rw (get_or-take most file i 0 h) (low i)
      | no h ↦
          let past : length (take most file) ≤ i = simp length-take (omega arith) in
          rw (get_or-eq_default (take most file) 0 past) (omega arith)
    ]

file_enough : (file : List ℕ) → AllBytes file → read (take most_file file) ≡ read file
file_enough file low =
    elim (dec_lt most_file (length file)) [
      | yes h ↦
          long_read (take most_file file) (bytes_taken most_file file low) (omega (arith, length-take most_file file))
          ∙ rw (same_head most_file file (omega arith)) (sym (long_read file low (omega arith)))
      | no h ↦ rw (take_all most_file file (omega arith))
    ]

pub enough : Enough
unfolding printout printout_up_to
enough file input low =
    let room : 3 * most_steps < most_input = omega arith in
    rw (file_enough file low, input_enough most_steps most_input _ input room)

-- Buffers of this length are long enough for every input, and the text stands at the front of its buffer.
pub room_enough : (input answers text : List ℕ) → most_steps ≤ length answers → most_text ≤ length text → print_code input answers text ≡ 0
unfolding print_code text_room taken_of step_count
room_enough input answers text a t =
    let taken : (length (take (3 * most_steps) input) + 2) / 3 ≤ most_steps = simp length-take (omega arith) in
    simp (facts, first-none, first_zero_iff) (omega arith, omega arith)

pub text_front : (file input answers text after : List ℕ) (n : ℕ) → most_steps ≤ length answers → most_text ≤ length text
    → n ≡ print_length file input answers text → after ≡ printed_text file input answers text
    → (n ≤ length after) × (take n after ≡ printout file input)
unfolding print_length printed_text
text_front file input answers text after n room space size stored =
    let code = room_enough input answers text room space in
    let whole : n ≡ length (printout file input) = rw code at size in
    let front : after ≡ printout file input ++ drop (length (printout file input)) text = rw code at stored in
    (rw (front, whole, length-append) (omega arith), rw (front, whole, take-append_seam))
