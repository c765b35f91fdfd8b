use Rattle.std.proofs.Common.{arith, rules, refl, get_or-take}
use Rattle.std.proofs.lemmas.Result.{err_from_is_err_and}
use Rattle.std.proofs.lemmas.Grind.{common_steps}
use Rattle.rules.proofs.RouteFault.{found_start}
use Rattle.rules.proofs.Coded.{file_coded}
use Rattle.placing.proofs.Routes.{routes_turn, routes_here, routes_done}
use Rattle.placing.proofs.check_routes.Goals as goal

pub loop-i-init : goal.loop-i-init
loop-i-init c = search (rules, found_start)

pub returns-in_err-check_route : goal.returns-in_err-check_route
returns-in_err-check_route c =
    let p = err_from_is_err_and c.from_residual.result c.from_residual.ensures.1 in
    rw (p.1, p.2)
    (routes_here _ _ _ _ _ _ _ _ c.loop-i.invariant (grind (arith, common_steps)) (search (rules, get_or-take))
    c.in_err-check_route.ensures (file_coded _))

pub loop-i-preserved : goal.loop-i-preserved
loop-i-preserved c =
    routes_turn _ _ _ _ _ _ _ _ c.loop-i.invariant (grind (arith, common_steps)) (search (rules, get_or-take))
    c.in_ok-check_route.ensures refl

pub returns : goal.returns
returns c = search (rules, routes_done)
