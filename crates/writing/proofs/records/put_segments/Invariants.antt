-- The first records are written.
use Rattle.rules.specs.Rows.{join_of}
use Rattle.rules.specs.File.{segment_bytes}
use Rattle.writing.specs.Written.{Written}
use Rattle.writing.proofs.records.put_segments.Given as goal

abbrev pub invariant-loop-s : goal.invariant-loop-s
invariant-loop-s l = Written l.initial.pen (join_of l.s-index (segment_bytes l.table)) l.pen
