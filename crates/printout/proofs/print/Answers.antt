-- What answers share is two facts or three: a lemma over them would have as many arguments as they have.
use Rattle.std.proofs.Common.{◌+◌, ◌≤◌, ◌*◌, ◌∙◌, ap, inl, inr, length, length-take-le, rules, arith}
use Rattle.rules.specs.Printout.{printout}
use Rattle.printout.specs.Short.{Short}
use Rattle.printout.proofs.Laws.{short_more}
use Rattle.printout.proofs.Whole.{count_in, taken, steps_taken, most_taken, refused_short, printed, file_printed, run_printed, run_limits}
use Rattle.printout.proofs.print.Goals.{then-answers-count-via-then-answers-count, then-answers-count-via-else-answers-count+then-text-count, in-Err, in-Ok}
use Rattle.printout.proofs.print.Goals as goal

pub returns-then-answers-count : goal.returns-then-answers-count
returns-then-answers-count c =
    let count = steps_taken c.args.input.now c.min.result c.min.ensures c.div_ceil-count.ensures in
    let w = refused_short c.args.file.now c.args.input.now c.args.answers.now c.args.text.now (elim c.then-answers-count.branch [
      | then-answers-count-via-then-answers-count w ↦ inl (omega arith)
      | then-answers-count-via-else-answers-count+then-text-count w ↦ inr (omega arith)
    ]) in
    record { code_value = w.0; length_value = tt; text_after = w.1; answers_after = w.2 }

pub put_run-requires : goal.put_run-requires
put_run-requires c =
    let file = c.args.file.now in
    let input = c.args.input.now in
    let e = taken input c.min.result c.min.ensures in
    let count = steps_taken input c.min.result c.min.ensures c.div_ceil-count.ensures in
    let run = c.in-Ok.ensures in
    record {
      k_bound = run_limits file input c.args.answers.now (omega arith) (rw e at run.value) (rw e at run.safe_run);
      steps_bound = rw e (most_taken _);
      answered = rw e (length-take-le _ _ (omega arith) ∙ count);
      room = rw e (omega (arith, ap length c.new-pen.ensures.bytes));
    }

pub returns : goal.returns
returns c =
    let file = c.args.file.now in
    let input = c.args.input.now in
    let answers = c.args.answers.now in
    let e = taken input c.min.result c.min.ensures in
    let count = steps_taken input c.min.result c.min.ensures c.div_ceil-count.ensures in
    let room : count_in input ≤ length answers = omega arith in
    let done : Short (18 * (count_in input + 113)) c.new-pen.result (printout file input) c.match-run.pen =
    elim c.match-run.branch [
      | in-Err w ↦
          let text = file_printed file input answers room _ (rw e at w.in-Err.ensures.value) in
          rw (text, w.pen-is) (short_more (omega arith) w.put_file_line.ensures)
      | in-Ok w ↦
          let text = run_printed file input answers room (rw e at w.in-Ok.ensures.value) (rw e at w.in-Ok.ensures.safe_run) in
          rw (text, w.pen-is) (rw (e, count) at w.put_run.ensures)
    ] in
    let new = c.new-pen.ensures in
    let after = rw e at c.run.ensures.answers_after in
    let w = printed file input answers c.args.text.now room (omega arith) new.front new.bytes (omega arith) done after in
    let text = w.2 in
    let same = done.written.same in
    record { code_value = w.0; length_value = w.1; text_after = search (rules, text, same); answers_after = w.3 }
