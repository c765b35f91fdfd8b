use Rattle.std.proofs.Common.{arith, rules}
use Rattle.placing.proofs.Routes.{begun_start, begun_found, begun_turn, begun_done}
use Rattle.placing.proofs.some_start_shared.Goals as goal

pub loop-number-init : goal.loop-number-init
loop-number-init c = search (rules, begun_start)

pub returns-then-begun-first : goal.returns-then-begun-first
returns-then-begun-first c =
    begun_found _ _ _ _ c.loop-number.invariant (omega arith) (cc) _ (omega arith) c.if-begun-first.true

pub loop-number-preserved : goal.loop-number-preserved
loop-number-preserved c = begun_turn _ _ _ _ c.loop-number.invariant (omega arith) (cc) (search rules) c.if-begun-first.false

-- After the last train.
pub returns-else-begun-first : goal.returns-else-begun-first
returns-else-begun-first c =
    begun_done _ _ _ _ (begun_turn _ _ _ _ c.loop-number.invariant (omega arith) (cc) (search rules) c.if-begun-first.false)
    (omega arith) (λ l. omega arith)

pub returns : goal.returns
returns c = begun_done _ _ _ _ c.loop-number.invariant (omega arith) (λ l. omega (arith, c.loop-number.auto.number-end l))
