-- A file that is written back: as it is refused, or what the writer makes of its table.
use Rattle.std.proofs.Common.{◌≡◌, ◌≢◌, ℕ, List, [], ◌∷◌, length, ltb, refl, sym, ◌∙◌, ne_eqb}
use Rattle.rules.specs.declared.Table.{Table}
use Rattle.rules.specs.Rows.{◌if◌}
use Rattle.rules.specs.Placing.{table_code, table_refusal}
use Rattle.rules.specs.File.{file_code, file_refusal, decode, encode, write_refusal, written}
use Rattle.rules.proofs.Coded.{file_coded as error_coded}
use Rattle.rules.proofs.Refusals.{table_coded, file_coded, then_refused, then_rows}
use Rattle.rules.proofs.Accepted.{accepted-code}
use Rattle.rules.proofs.Files.{file_iff}
use Rattle.rules.proofs.WriteBack.{written_back_lem}
use Rattle.lineengine.specs.WriteBack.{write_back_refusal, written_back}

module _ (file buffer : List ℕ) where
  module _ (n : (file_refusal file).code ≢ 0) where
    pub refused_back : write_back_refusal file buffer ≡ file_refusal file
    unfolding write_back_refusal
    refused_back = then_refused (file_refusal file) _ n

    pub refused_kept : written_back file buffer ≡ buffer
    unfolding written_back
    refused_kept = rw (refused_back, ne_eqb (file_refusal file).code 0 n)

  module _ (z : (file_refusal file).code ≡ 0) where
    code : file_code file ≡ 0
    code = sym (file_coded file) ∙ z

    -- Of a table with code 0 whose file this is, the writer answers as writing the file back does.
    writer_back : (t : Table) → table_code t ≡ 0 → encode t ≡ file
        → (write_refusal t buffer ≡ write_back_refusal file buffer) × (written t buffer ≡ written_back file buffer)
    unfolding write_refusal written write_back_refusal written_back
    writer_back t sound same =
        let by-table = then_rows (table_refusal t) (26 if ltb (length buffer) (length file) ∷ []) (table_coded t ∙ sound) in
        let by-file = then_rows (file_refusal file) (26 if ltb (length buffer) (length file) ∷ []) z in
        rw (same, by-table, by-file) (refl, refl)

    back_here : (write_refusal (decode file) buffer ≡ write_back_refusal file buffer) × (written (decode file) buffer ≡ written_back file buffer)
    back_here = writer_back (decode file) (accepted-code _ ((file_iff file).0 code).table) (written_back_lem file code)

    pub accepted_back : write_back_refusal file buffer ≡ write_refusal (decode file) buffer
    accepted_back = sym back_here.0

    pub accepted_written : written_back file buffer ≡ written (decode file) buffer
    accepted_written = sym back_here.1

-- With them, that an error's code is not 0.
pub ruleset back = (error_coded, refused_back, refused_kept, accepted_back, accepted_written)
