-- What answers share is two facts or three: a lemma over them would have as many arguments as they have.
use Rattle.std.proofs.Common.{arith, rules, ◌*◌}
use Rattle.placing.proofs.Routes.{route_read, searched_start, searched_jump, searched_turn}
use Rattle.placing.proofs.check_places.Goals as goal
use Rattle.placing.proofs.check_places.Goals.{else-i-gt0-via-then-i-gt0+else-not-follows, else-i-gt0-via-else-i-gt0}

pub loop-i-init : goal.loop-i-init
loop-i-init c = search (rules, searched_start)

pub returns-then-not-follows : goal.returns-then-not-follows
returns-then-not-follows c =
    let here =
    route_read c.args.routes.now c.args.train (64 * c.from-start.result) c.from.result c.loop-i.i
    (omega arith) (omega arith) (omega arith) (omega arith) in
    searched_jump _ _ _ _ _ _ _ _ _ c.loop-i.invariant (omega arith) here (cc) (omega arith) (cc)

pub loop-i-preserved : goal.loop-i-preserved
loop-i-preserved c =
    let here =
    route_read c.args.routes.now c.args.train (64 * c.from-start.result) c.from.result c.loop-i.i
    (omega arith) (omega arith) (omega arith) (omega arith) in
    let turn = searched_turn _ _ _ _ _ _ _ _ _ c.loop-i.invariant (omega arith) here (cc) in
    elim c.else-i-gt0.branch [
      | else-i-gt0-via-then-i-gt0+else-not-follows w ↦ turn (λ _. cc)
      | else-i-gt0-via-else-i-gt0 w ↦ turn (λ l. absurd (omega arith))
    ]
