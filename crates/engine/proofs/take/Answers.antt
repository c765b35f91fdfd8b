-- What answers share is two facts or three: a lemma over them would have as many arguments as they have.
use Rattle.std.proofs.Common.{rules}
use Rattle.rules.specs.Line.{put_train, put_box}
use Rattle.rules.specs.Steps.{apply}
use Rattle.std.proofs.lemmas.Result.{err_from_is_err_and}
use Rattle.engine.proofs.Single.{decided}
use Rattle.engine.proofs.take.Goals as goal

pub returns-in_err-done : goal.returns-in_err-done
unfolding apply
returns-in_err-done c =
    let p = err_from_is_err_and c.from_residual-in_err-done.result c.from_residual-in_err-done.ensures.1 in
    rw (p.1, p.2)
    (decided _ _ c.in_ok-check_form.ensures _ _ _ _ c.if-outside.ensures c.requires (search rules) c.nth-r.ensures c.around-around.ensures
    c.concerned-at.ensures (search rules) c.nth-plan.ensures (search rules) c.nth-state.ensures c.in_err-done.ensures)

pub returns : goal.returns
unfolding apply put_train put_box
returns c =
    rw (c.set_nth.ensures, c.set_nth-2.ensures)
    (decided _ _ c.in_ok-check_form.ensures _ _ _ _ c.if-outside.ensures c.requires (search rules) c.nth-r.ensures c.around-around.ensures
    c.concerned-at.ensures (search rules) c.nth-plan.ensures (search rules) c.nth-state.ensures c.in_ok-done.ensures)
