-- What stands around a train, from columns: lists of 256 numbers, of the boxes at the A ends and at the B ends of segments and of their
-- ways by the segment's number, and of the kinds of boxes by the box's number.
use Rattle.std.specs.Prelude.{ℕ, List}
use Rattle.rules.specs.declared.Train.{Train}
use Rattle.rules.specs.declared.Around.{Around}
use Rattle.rules.specs.Track.{track_in, way_in, point_in}
use Rattle.rules.specs.Line.{around_on}

-- `around_on` of `rules`, on these columns.
abbrev pub around_in : List ℕ → List ℕ → List ℕ → List ℕ → List ℕ → ℕ → Train → Around
around_in a b ways kinds = around_on (track_in a b) (way_in ways) (point_in kinds)
