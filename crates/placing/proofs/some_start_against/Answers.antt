-- The chain goes through the plans of the first k trains, each with its index.
use Rattle.std.proofs.Common.{rules, tests, arith, take}
use Rattle.std.proofs.lemmas.Iterator.{YieldsList-from_slice}
use Rattle.std.proofs.lemmas.Iterator.Consumers.{YieldsList-from_enumerate}
use Rattle.std.proofs.lemmas.Grind.{common_steps}
use Rattle.std.proofs.lemmas.List.FromFn.{length-enumerate_from}
use Rattle.rules.specs.Track.{no_train_plan, way_in}
use Rattle.network.proofs.Any.{any_numbered}
use Rattle.placing.proofs.Routes.{starts_against, against_at}
use Rattle.placing.proofs.some_start_against.Goals as goal

pub returns : goal.returns
returns c =
    any_numbered (starts_against (way_in c.args.columns.now.ways) c.args.table.now.routes) _ _ _ _ _ (0, no_train_plan) c.any.ensures.ran
    (YieldsList-from_enumerate {s = c.enumerate.result} (YieldsList-from_slice (take c.from.result c.args.table.now.trains) (cc)) (cc))
    (λ x b q k. search (rules, tests)) (grind (arith, common_steps, length-enumerate_from))
    (λ i k. against_at _ _ _ _ i (grind (arith, common_steps)) (omega arith))
