-- The first records are written.
use Rattle.rules.specs.Rows.{join_of}
use Rattle.rules.specs.File.{train_bytes}
use Rattle.writing.specs.Written.{Written}
use Rattle.writing.proofs.records.put_trains.Given as goal

abbrev pub invariant-loop-i : goal.invariant-loop-i
invariant-loop-i l = Written l.initial.pen (join_of (l.i) (train_bytes l.table)) l.pen
