use Rattle.std.proofs.Common.{◌≡◌, ◌/◌, ◌<◌, ◌≤◌, length, sym, arith}
use Rattle.std.proofs.lemmas.Bool.Decides.{nat_tests}
use Rattle.running.proofs.Running.{chunk-step, running_room, running_turn, running_line, running_whole, running_partial}
use Rattle.bench.proofs.called.Goals as goal

pub loop-n-preserved : goal.loop-n-preserved
loop-n-preserved c =
    let n : c.loop-n.n < length c.args.steps.now / 3 = omega (arith, c.as_chunks.ensures.front_len) in
    let room = running_room c.args.steps.now c.args.answers.now c.requires n in
    let done = rw (chunk-step c.args.steps.now _ _ c.as_chunks.ensures.front n) at c.step-outcome.ensures in
    running_turn c.loop-n.invariant n (omega arith) (sym done)

pub returns-then-not-is_empty : goal.returns-then-not-is_empty
returns-then-not-is_empty c =
    let done : length c.args.steps.now / 3 ≤ c.loop-n.n = omega (arith, c.as_chunks.ensures.front_len) in
    let some : 0 < length c.as_chunks.result.1.now = grind (arith, nat_tests) in
    record {
      value = running_line c.loop-n.invariant done;
      answers_after = rw (c.code.ensures, c.as_chunks.ensures.front_len)
          (running_partial c.loop-n.invariant done (omega (arith, c.as_chunks.ensures.back_len)) (omega (arith, c.requires)));
    }

pub returns-else-not-is_empty : goal.returns-else-not-is_empty
returns-else-not-is_empty c =
    let done : length c.args.steps.now / 3 ≤ c.loop-n.n = omega (arith, c.as_chunks.ensures.front_len) in
    let none : length c.as_chunks.result.1.now ≡ 0 = grind (arith, nat_tests) in
    record {
      value = running_line c.loop-n.invariant done;
      answers_after = running_whole c.loop-n.invariant done (omega (arith, c.as_chunks.ensures.back_len));
    }
