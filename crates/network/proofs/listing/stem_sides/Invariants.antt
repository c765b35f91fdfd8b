-- A turn keeps the side of one box.
use Rattle.std.proofs.Common.{◌≡◌}
use Rattle.rules.specs.declared.StemSide.TheVariants.{Neither}
use Rattle.rules.specs.Rows.{list_of, filled}
use Rattle.rules.specs.Track.{track_in}
use Rattle.rules.specs.StemSide.{stem_side_at}
use Rattle.network.proofs.listing.stem_sides.Given as goal

abbrev pub invariant-loop-i : goal.invariant-loop-i
invariant-loop-i l = l.sides ≡ filled 96 Neither (list_of l.i (stem_side_at (track_in l.columns.a l.columns.b) l.plans))
