-- A table file, read and written out again into a lent buffer, said by the bytes of the file alone.
use Rattle.std.specs.Prelude.{ℕ, cond, List, [], ◌∷◌, ◌++◌, eqb, ltb, length, drop}
use Rattle.rules.specs.Ends.{Refusal}
use Rattle.rules.specs.Rows.{◌if◌}
use Rattle.rules.specs.Placing.{refused_then}
use Rattle.rules.specs.File.{file_refusal}

-- Refused as the file is, then with 26 where the buffer is shorter than the file.
unfoldable pub write_back_refusal : List ℕ → List ℕ → Refusal
write_back_refusal file buffer = refused_then (file_refusal file) (26 if ltb (length buffer) (length file) ∷ [])

-- The whole buffer: the bytes of the file at its front and the rest as it was; where it is refused, as it was.
unfoldable pub written_back : List ℕ → List ℕ → List ℕ
written_back file buffer = cond (eqb (write_back_refusal file buffer).code 0) (file ++ drop (length file) buffer) buffer
