-- A turn starts one box.
use Rattle.std.proofs.Common.{◌≡◌}
use Rattle.rules.specs.Rows.{filled, list_of}
use Rattle.rules.specs.Line.{no_box}
use Rattle.reading.specs.Start.{free_box_at}
use Rattle.reading.proofs.start.free_boxes.Given as goal

abbrev pub invariant-loop-i : goal.invariant-loop-i
invariant-loop-i l = l.all ≡ filled 96 no_box (list_of l.i (free_box_at l.plans))
