-- What the reader answers, by codes 1 to 5, then by what refuses the table's parts; the line at its start is made of the same parts.
use Rattle.std.proofs.Common.{ℕ, ◌≤◌, ◌≡◌, sym, ◌∙◌, List, Ok, Err, ne_eqb}
use Rattle.rules.specs.declared.Table.{Table}
use Rattle.rules.specs.declared.SwitchBox.{SwitchBox}
use Rattle.rules.specs.declared.Train.{Train}
use Rattle.rules.specs.declared.errors.FileError.{FileError}
use Rattle.rules.specs.Errors.{refusal_of, outcome}
use Rattle.rules.specs.Rows.{list_of, filled}
use Rattle.rules.specs.Track.{Track, track_of, way_of}
use Rattle.rules.specs.Placing.{without_place, parts_refusal}
use Rattle.rules.specs.File.{file_code, file_refusal, decode}
use Rattle.rules.specs.Line.{no_train, start_train, read}
use Rattle.rules.proofs.Coded.{file_coded as error_coded}
use Rattle.rules.proofs.Refusals.{code_of, file_coded, accepted_refusal}
use Rattle.layout.proofs.Codes.{parts_answer}
use Rattle.tablefile.specs.Whole.{early_code}
use Rattle.tablefile.proofs.Codes.{whole}
use Rattle.tablefile.proofs.Files.{refused_early, refused_late}
use Rattle.reading.specs.Start.{boxes_after}
use Rattle.reading.proofs.Begin.{start_line_lem}

module _ (bytes : List ℕ) where
  refused_line : (e : FileError) → refusal_of e ≡ file_refusal bytes → outcome (Err e) ≡ read bytes
  unfolding read
  refused_line e is = rw (is, ne_eqb (file_code bytes) 0 (λ z. error_coded e (code_of is ∙ file_coded bytes ∙ z)))

  pub read_early : (e : FileError) → refusal_of e ≡ without_place (early_code bytes) → outcome (Err e) ≡ read bytes
  read_early e is = refused_line e (refused_early bytes _ (error_coded e) is)

  -- A file that codes 1 to 5 let through, with its table.
  module _ {t : Table} (early : without_place 0 ≡ without_place (early_code bytes)) (d : t ≡ decode bytes) where
    zero_code : early_code bytes ≡ 0
    zero_code = sym (code_of early)

    pub counted : (t.m ≤ 96) × (t.k ≤ 16)
    unfolding decode
    counted = let w = whole bytes zero_code in rw d (w.boxes, w.trains)

    module _ {track : Track} {way : ℕ → ℕ} (made : track ≡ track_of t) (passed : way ≡ way_of t) where
      pub read_late : (e : FileError) → refusal_of e ≡ parts_refusal t.version t.n t.m t.k track way t.boxes t.trains t.routes
          → outcome (Err e) ≡ read bytes
      read_late e is = refused_line e (refused_late bytes _ t zero_code d (parts_answer t _ made passed is))

      pub read_accepted : {b : List SwitchBox} {r : List Train}
          → without_place 0 ≡ parts_refusal t.version t.n t.m t.k track way t.boxes t.trains t.routes
          → b ≡ boxes_after t.m track t.boxes t.trains t.routes t.k → r ≡ filled 16 no_train (list_of t.k (start_train t.trains))
          → outcome (Ok (record { table = t; boxes = b; trains = r; routes = t.routes })) ≡ read bytes
      unfolding read
      read_accepted none e f =
          let code : file_code bytes ≡ 0 = sym (code_of (refused_late bytes _ t zero_code d (parts_answer t _ made passed none)) ∙ file_coded bytes) in
          rw (code, accepted_refusal bytes code, start_line_lem t _ _ _ made e f, d)
