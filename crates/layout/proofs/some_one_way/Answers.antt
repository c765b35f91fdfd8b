-- Index i of the slice is segment i + 1.
use Rattle.std.proofs.Common.{rules, tests, arith, not, eqb}
use Rattle.std.proofs.lemmas.Iterator.{YieldsList-from_slice}
use Rattle.std.proofs.lemmas.Grind.{common_steps}
use Rattle.rules.specs.Network.{some_one_way}
use Rattle.network.proofs.Any.{any_numbered}
use Rattle.layout.proofs.some_one_way.Goals as goal

pub returns : goal.returns
unfolding some_one_way
returns c =
    any_numbered (λ way. not (eqb way 0)) _ _ _ _ _ 0 c.any.ensures.ran (YieldsList-from_slice _ c.iter.ensures.rest)
    (λ x b q k. search (rules, tests)) (grind (arith, common_steps)) (λ i k. grind (arith, common_steps))
