-- The code of an outcome and one field of the record at index i of each array of its line, added up.
use Rattle.std.specs.Prelude.{ℕ, ◌+◌, get_or}
use Rattle.rules.specs.Ends.{FileOutcome}
use Rattle.rules.specs.Track.{no_segment, no_box_plan, no_train_plan}
use Rattle.rules.specs.Line.{no_box, no_train}

abbrev pub sample : FileOutcome → ℕ → ℕ
sample o i =
    o.refusal.code
    + (get_or o.line.boxes i no_box).stem
    + (get_or o.line.trains i no_train).place
    + get_or o.line.routes i 0
    + (get_or o.line.table.segments i no_segment).a
    + (get_or o.line.table.boxes i no_box_plan).stem
    + (get_or o.line.table.trains i no_train_plan).length
    + get_or o.line.table.routes i 0
