use Rattle.printout.proofs.Laws.{run_written, more_written}
use Rattle.printout.proofs.lines.put_run.Goals as goal

pub returns-then-more : goal.returns-then-more
returns-then-more c =
    more_written _ _ c.if-more.true c.requires.k_bound
    c.put_step_lines.ensures c.put_train_lines.ensures c.put_box_lines.ensures c.put_line.ensures

pub returns-else-more : goal.returns-else-more
returns-else-more c =
    run_written _ _ _ c.if-more.false c.requires.k_bound
    c.put_step_lines.ensures c.put_train_lines.ensures c.put_box_lines.ensures
