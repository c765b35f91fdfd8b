-- By the three ends of a run.
use Rattle.std.proofs.lemmas.Result.{err_from_is_err_and}
use Rattle.running.proofs.Runs.{run_refused, run_short, run_done}
use Rattle.running.proofs.run.Goals as goal

pub returns-in_err-line : goal.returns-in_err-line
returns-in_err-line c =
    let p = err_from_is_err_and c.from_residual.result c.from_residual.ensures.1 in
    rw (p.1, p.2) (run_refused _ _ _ _ c.in_err-line.ensures)

pub returns-then-answers-count : goal.returns-then-answers-count
returns-then-answers-count c = run_short _ _ _ c.in_ok-line.ensures c.count.ensures c.if-answers-count.true

pub returns : goal.returns
returns c =
    run_done _ _ _ c.in_ok-line.ensures c.count.ensures c.if-answers-count.false c.advance.ensures.line c.advance.ensures.answers_after
