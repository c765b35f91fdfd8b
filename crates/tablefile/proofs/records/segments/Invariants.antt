-- A turn reads one segment.
use Rattle.std.proofs.Common.{◌≡◌}
use Rattle.rules.specs.Rows.{filled, list_of}
use Rattle.rules.specs.Track.{no_segment}
use Rattle.rules.specs.File.{segment_in}
use Rattle.tablefile.proofs.records.segments.Given as goal

abbrev pub invariant-loop-i : goal.invariant-loop-i
invariant-loop-i l = l.all ≡ filled 96 no_segment (list_of l.i (segment_in l.bytes))
