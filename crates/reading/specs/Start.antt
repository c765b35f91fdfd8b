-- The boxes of the start line, one train after the other.
use Rattle.std.specs.Prelude.{ℕ, false, List}
use Rattle.rules.specs.declared.BoxPlan.{BoxPlan}
use Rattle.rules.specs.declared.TrainPlan.{TrainPlan}
use Rattle.rules.specs.declared.SwitchBox.{SwitchBox}
use Rattle.rules.specs.Rows.{nth, list_of, filled}
use Rattle.rules.specs.Track.{Track, no_box_plan}
use Rattle.rules.specs.Line.{no_box, start_box_with}

-- Box b with its position, all else free and passive.
unfoldable pub free_box_at : List BoxPlan → ℕ → SwitchBox
free_box_at plans b =
    record { sensor = false; position = (nth plans b no_box_plan).position; lock = 0; stem = 0; left = 0; right = 0 }

-- The m boxes at the start of a line with the trains 1 .. j.
unfoldable pub boxes_after : ℕ → Track → List BoxPlan → List TrainPlan → List ℕ → ℕ → List SwitchBox
boxes_after m track plans trains routes j = filled 96 no_box (list_of m (start_box_with track trains routes plans j))
