-- Reading and writing, one after the other: what is read is written back byte for byte, and what is written is read back as the
-- used part of its table.
use Prim.Native.Nat.{ℕ, ◌≤◌}
use mathlib.Core.Path.{◌≡◌, sym, ◌∙◌, ap}
use mathlib.Core.List.{List, ◌++◌}
use lib.ListN.{length, take, drop}
use lib.Seq.{take-append_seam}
use Rattle.rules.specs.declared.Table.{Table}
use Rattle.rules.specs.Placing.{without_place}
use Rattle.rules.specs.File.{decode, file_code, encode, used_part, write_refusal, written}
use Rattle.rules.specs.Line.{start_line, read}
use Rattle.rules.proofs.Refusals.{accepted_refusal}
use Rattle.rules.proofs.Accepted.{accepted, accepted-code}
use Rattle.rules.proofs.Files.{file_iff, write_iff}
use Rattle.rules.proofs.WriteBack.{written_back_lem}
use Rattle.rules.proofs.ReadBack.{decode-encode, file_accepted}

-- The writer accepts the table of a file that was read, if the buffer is as long as the file. It writes the file's bytes and
-- leaves the rest of the buffer as it was.
pub file_back : (bytes buffer : List ℕ) → file_code bytes ≡ 0 → length bytes ≤ length buffer
    → ((write_refusal (read bytes).line.table buffer).code ≡ 0)
    × (written (read bytes).line.table buffer ≡ bytes ++ drop (length bytes) buffer)
unfolding read start_line written
file_back bytes buffer e h =
    let back = written_back_lem bytes e in
    let code = (write_iff (decode bytes) buffer).1 (accepted-code _ ((file_iff bytes).0 e).table, rw back h) in
    rw e (code, rw (code, back))

-- The reader accepts the front of a written buffer and gives the start line of the table's used part.
pub table_back : (t : Table) (buffer : List ℕ) → (write_refusal t buffer).code ≡ 0
    → read (take (length (encode t)) (written t buffer)) ≡ record { refusal = without_place 0; line = start_line (used_part t) }
unfolding written read
table_back t buffer e =
    let coded = ((write_iff t buffer).0 e).0 in
    let taken = file_accepted t coded in
    rw (e, take-append_seam, taken, decode-encode t (accepted t coded), accepted_refusal (encode t) taken)

-- A table that was read is all used part, so that it comes back whole.
pub table_same : (bytes : List ℕ) → file_code bytes ≡ 0 → used_part (decode bytes) ≡ decode bytes
table_same bytes e = sym (decode-encode (decode bytes) ((file_iff bytes).0 e).table) ∙ ap decode (written_back_lem bytes e)
