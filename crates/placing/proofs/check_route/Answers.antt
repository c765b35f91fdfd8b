-- A route of no places has none at fault, and a train that there is not has no segment at its first.
use Rattle.std.proofs.Common.{arith, rules, ◌∙◌}
use Rattle.placing.proofs.Routes.{route_outside, searched_start, searched_nothing, searched_done, route_back}
use Rattle.placing.proofs.check_route.Goals as goal

pub returns-then-r-eq0 : goal.returns-then-r-eq0
returns-then-r-eq0 c = searched_done _ _ _ _ _ _ _ 0 (searched_start _ _ _ _ _ _) (omega arith)

pub returns-then-not-contains : goal.returns-then-not-contains
returns-then-not-contains c =
    searched_nothing _ _ _ _ _ _ 0 0 (searched_start _ _ _ _ _ _) (omega arith)
    (route_outside _ _ 1 (search rules) (λ a b d e. grind arith))

pub returns-else-d-eq0 : goal.returns-else-d-eq0
returns-else-d-eq0 c = c.check_places-else-d-eq0.ensures ∙ route_back _ _ _ _ _ _ c.if-d-eq0.false
