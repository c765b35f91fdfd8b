-- By the three ends of a run.
use Rattle.std.proofs.Common.{◌∙◌, ap, arith}
use Rattle.rules.specs.Ends.{FileOutcome}
use Rattle.rules.specs.Run.{step_count}
use Rattle.running.proofs.Runs.{run_refused, run_short, run_called}
use Rattle.bench.proofs.bench_steps.Goals as goal

pub returns-in-Err : goal.returns-in-Err
returns-in-Err c =
    let end = run_refused _ _ _ _ c.in-Err.ensures in
    record { value = c.code.ensures ∙ ap (λ (o : FileOutcome). o.refusal.code) end.outcome; answers_after = end.buffer }

pub returns-then-answers-count : goal.returns-then-answers-count
returns-then-answers-count c =
    let end = run_short _ _ _ c.in-Ok.ensures c.count.ensures c.if-answers-count.true in
    record {
      value = rw c.code-then-answers-count.ensures (ap (λ (o : FileOutcome). o.refusal.code) end.outcome);
      answers_after = end.buffer;
    }

pub called-requires : goal.called-requires
unfolding step_count
called-requires c = omega (arith, c.count.ensures)

pub returns : goal.returns
returns c =
    let end = run_called _ _ _ c.in-Ok.ensures c.count.ensures c.if-answers-count.false c.called.ensures.answers_after in
    record { value = end.0; answers_after = end.1 }
