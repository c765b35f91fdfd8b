-- The first records are written.
use Rattle.rules.specs.Rows.{join_of}
use Rattle.rules.specs.File.{box_bytes}
use Rattle.writing.specs.Written.{Written}
use Rattle.writing.proofs.records.put_boxes.Given as goal

abbrev pub invariant-loop-p : goal.invariant-loop-p
invariant-loop-p l = Written l.initial.pen (join_of l.p-index (box_bytes l.table)) l.pen
