-- The stem side of a box (02, ticket 4): which end of its stem segment is at the box. It is worked out once for each box, after codes 6
-- and 7, and code 8 at the boxes is decided by it; what code 8 asks (Network) does not speak of it.
use Rattle.std.specs.Prelude.{ℕ, Bool, cond, not, ◌||◌, List}
use Rattle.rules.specs.declared.BoxPlan.{BoxPlan}
use Rattle.rules.specs.declared.StemSide.{StemSide}
use Rattle.rules.specs.declared.StemSide.TheVariants.{AEnd, BEnd, Neither}
use Rattle.rules.specs.Rows.{nth}
use Rattle.rules.specs.Track.{Track, no_box_plan}
use Rattle.rules.specs.Network.{has_end_a, has_end_b}

-- What each case says of box b with the stem segment s.
unfoldable pub is_side : Track → ℕ → ℕ → StemSide → Bool
is_side track b s AEnd = has_end_a track s b
is_side track b s BEnd = has_end_b track s b
is_side track b s Neither = not (has_end_a track s b || has_end_b track s b)

-- The first of the three that is so; where the ends of s are at two boxes, as code 6 asks, the only one.
unfoldable pub stem_side : Track → ℕ → ℕ → StemSide
stem_side track b s = cond (is_side track b s AEnd) AEnd (cond (is_side track b s BEnd) BEnd Neither)

-- The stem side of box b, by its plan among those of all boxes.
unfoldable pub stem_side_at : Track → List BoxPlan → ℕ → StemSide
stem_side_at track plans b = stem_side track b (nth plans b no_box_plan).stem
