use Rattle.std.proofs.Common.{◌∙◌, take, arith, rules, tests}
use Rattle.std.proofs.lemmas.Grind.{common_steps}
use Rattle.std.proofs.lemmas.Iterator.{YieldsList-from_slice}
use Rattle.std.proofs.lemmas.Iterator.Search.{any_from_yields_List}
use Rattle.rules.specs.Track.{no_box_plan}
use Rattle.rules.specs.Network.{plan_fault, plan_fault_at}
use Rattle.network.proofs.Any.{any_listed}
use Rattle.network.proofs.Laws.{plan_at, many_boxes}
use Rattle.network.proofs.some_plan_faulty.Goals as goal

pub returns-in_default-clause-value : goal.returns-in_default-clause-value
returns-in_default-clause-value c = search (rules, many_boxes)

pub returns-clause-value : goal.returns-clause-value
returns-clause-value c =
    let plans = c.args.plans.now in
    any_from_yields_List (plan_fault c.args.n) _ _ _ c.any.ensures.ran
    (YieldsList-from_slice (take c.args.m plans) (grind (arith, common_steps)))
    (λ p b q k. search (rules, tests))
    ∙ any_listed (plan_fault c.args.n) plans no_box_plan (plan_fault_at c.args.n plans) c.args.m (search rules)
    (λ i h. plan_at c.args.n plans i)
