-- A turn reads one train.
use Rattle.std.proofs.Common.{◌≡◌}
use Rattle.rules.specs.Rows.{filled, list_of}
use Rattle.rules.specs.Track.{no_train_plan}
use Rattle.rules.specs.File.{trains_from, train_plan_in}
use Rattle.tablefile.proofs.records.trains.Given as goal

abbrev pub invariant-loop-i : goal.invariant-loop-i
invariant-loop-i l = (l.at ≡ trains_from l.bytes l.i) × (l.all ≡ filled 16 no_train_plan (list_of l.i (train_plan_in l.bytes)))
