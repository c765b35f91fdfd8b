-- A turn reads one box.
use Rattle.std.proofs.Common.{◌≡◌}
use Rattle.rules.specs.Rows.{filled, list_of}
use Rattle.rules.specs.Track.{no_box_plan}
use Rattle.rules.specs.File.{plan_in}
use Rattle.tablefile.proofs.records.boxes.Given as goal

abbrev pub invariant-loop-i : goal.invariant-loop-i
invariant-loop-i l = l.all ≡ filled 96 no_box_plan (list_of l.i (plan_in l.bytes))
