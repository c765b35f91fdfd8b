use Rattle.std.proofs.Common.{rules, tests, arith, lt-ltb, ◌∙◌}
use Rattle.std.proofs.lemmas.Iterator.{YieldsList-from_slice}
use Rattle.std.proofs.lemmas.Grind.{common_steps}
use Rattle.rules.specs.Track.{no_train_plan}
use Rattle.rules.specs.Placing.{route_shape_fault}
use Rattle.network.proofs.Any.{any_numbered}
use Rattle.placing.proofs.Routes.{many_trains, shape_at}
use Rattle.placing.proofs.some_shape_faulty.Goals as goal

pub returns-then-k-gt16 : goal.returns-then-k-gt16
returns-then-k-gt16 c = lt-ltb _ _ c.if-k-gt16.true ∙ many_trains _ _ c.requires c.if-k-gt16.true

pub returns-else-k-gt16 : goal.returns-else-k-gt16
returns-else-k-gt16 c =
    any_numbered (λ p. route_shape_fault p.direction p.length) _ _ _ _ _ no_train_plan c.any.ensures.ran
    (YieldsList-from_slice _ c.iter.ensures.rest)
    (λ x b q k. search (rules, tests)) (grind (arith, common_steps)) (λ i k. grind (arith, common_steps, shape_at))
