-- The loops have stored the records before.
use Rattle.rules.specs.Track.{track_of, way_of, far_box}
use Rattle.columns.specs.Column.{kind_of}
use Rattle.columns.proofs.Column.{Filled}
use Rattle.columns.proofs.Columns.of.Given as goal

abbrev pub invariant-loop-i : goal.invariant-loop-i
invariant-loop-i l =
    Filled 256 (far_box (track_of l.table) 1) l.i l.a
    × (Filled 256 (far_box (track_of l.table) 0) l.i l.b × Filled 256 (way_of l.table) l.i l.ways)

abbrev pub invariant-loop-j : goal.invariant-loop-j
invariant-loop-j l = Filled 256 (kind_of l.table.boxes) l.j l.kinds
