-- A turn reserves the first segment of one train at the box ahead of it.
use Rattle.std.proofs.Common.{◌≡◌}
use Rattle.rules.specs.Track.{track_in}
use Rattle.reading.specs.Start.{boxes_after}
use Rattle.reading.proofs.start.boxes.Given as goal

abbrev pub invariant-loop-i : goal.invariant-loop-i
invariant-loop-i l = l.all ≡ boxes_after l.table.m (track_in l.columns.a l.columns.b) l.table.boxes l.table.trains l.table.routes l.i
