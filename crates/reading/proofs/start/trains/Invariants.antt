-- A turn starts one train.
use Rattle.std.proofs.Common.{◌≡◌}
use Rattle.rules.specs.Rows.{filled, list_of}
use Rattle.rules.specs.Line.{no_train, start_train}
use Rattle.reading.proofs.start.trains.Given as goal

abbrev pub invariant-loop-i : goal.invariant-loop-i
invariant-loop-i l = l.all ≡ filled 16 no_train (list_of l.i (start_train l.plans))
