-- Functions of numbers as lists of 256, and the kinds of boxes by number.
use Rattle.std.specs.Prelude.{ℕ, List}
use Rattle.rules.specs.declared.BoxPlan.{BoxPlan}
use Rattle.rules.specs.Rows.{nth, list_from}
use Rattle.rules.specs.Track.{no_box_plan}

-- f 0 .. f 255.
unfoldable pub column : (ℕ → ℕ) → List ℕ
column f = list_from 0 256 f

-- The kind of box b of these plans.
unfoldable pub kind_of : List BoxPlan → ℕ → ℕ
kind_of plans b = (nth plans b no_box_plan).kind
