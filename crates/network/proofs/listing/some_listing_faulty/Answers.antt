-- The chain goes through the plans and the sides of the first m boxes, each with its index.
use Rattle.std.proofs.Common.{rules, tests, arith, take}
use Rattle.std.proofs.lemmas.Iterator.{YieldsList-from_slice, YieldsList-from_zip}
use Rattle.std.proofs.lemmas.Iterator.Consumers.{YieldsList-at, YieldsList-from_enumerate}
use Rattle.std.proofs.lemmas.Grind.{common_steps}
use Rattle.std.proofs.lemmas.List.FromFn.{length-enumerate_from}
use Rattle.std.proofs.lemmas.Slice.Zip.{length-zip}
use Rattle.rules.specs.declared.StemSide.TheVariants.{Neither}
use Rattle.rules.specs.Track.{no_box_plan, track_in}
use Rattle.network.proofs.Any.{any_numbered}
use Rattle.network.proofs.Sides.{sided_pair, sided_at}
use Rattle.network.proofs.listing.some_listing_faulty.Goals as goal

pub returns : goal.returns
returns c =
    any_numbered (sided_pair (track_in c.args.columns.now.a c.args.columns.now.b)) c.any.new.self _ _ _ _ (0, (no_box_plan, Neither)) c.any.ensures.ran
    (YieldsList-from_enumerate {s = c.enumerate.result} (YieldsList-at c.enumerate.ensures.source (YieldsList-from_zip {s = c.zip.result} (YieldsList-from_slice (take c.from.result c.args.plans.now) cc) (YieldsList-from_slice c.args.sides.now cc))) cc)
    (λ x b q k. search (rules, tests)) (grind (arith, common_steps, length-enumerate_from, length-zip))
    (λ i k. sided_at _ _ _ _ i (grind (arith, common_steps)) (grind (arith, common_steps)) (omega arith))
