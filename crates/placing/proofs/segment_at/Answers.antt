use Rattle.std.proofs.Common.{arith, rules, sym}
use Rattle.rules.proofs.Rows.{route_index}
use Rattle.placing.proofs.Routes.{route_outside}
use Rattle.placing.proofs.segment_at.Goals as goal

pub returns-then-contains-2 : goal.returns-then-contains-2
returns-then-contains-2 c = sym (route_index _ _ _ _ (grind arith) (grind arith) (grind arith) (omega arith))

pub returns-else-contains : goal.returns-else-contains
returns-else-contains c = sym (route_outside _ _ _ (search rules) (λ a b d e. grind arith))
