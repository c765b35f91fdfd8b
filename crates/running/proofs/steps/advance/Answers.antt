use Rattle.std.proofs.Common.{◌≡◌, ◌∙◌, ◌/◌, ◌<◌, ◌≤◌, length, sym, rules, arith}
use Rattle.std.proofs.lemmas.Bool.Decides.{nat_tests}
use Rattle.running.specs.Loop.{step_answer}
use Rattle.running.proofs.Running.{chunk-step, running_room, running_turn, running_line, running_whole, running_partial}
use Rattle.running.proofs.steps.advance.Goals as goal
use Rattle.running.proofs.steps.advance.Goals.{then-not-is_empty, else-not-is_empty}

pub loop-n-preserved : goal.loop-n-preserved
loop-n-preserved c =
    let a : c.unwrap_or_else.result ≡ step_answer c.take.result = search rules in
    let n : c.loop-n.n < length c.args.steps.now / 3 = omega (arith, c.as_chunks.ensures.front_len) in
    let room = running_room c.args.steps.now c.args.answers.now c.requires.steps_in_bounds n in
    let done = rw (chunk-step c.args.steps.now _ _ c.as_chunks.ensures.front n) at c.take.ensures in
    rw a (running_turn c.loop-n.invariant n (omega arith) (sym done))

pub returns-clause-line : goal.returns-clause-line
returns-clause-line c =
    c.moving.view_is ∙ running_line c.loop-n.invariant (omega (arith, c.as_chunks.ensures.front_len))

pub returns-clause-answers_after : goal.returns-clause-answers_after
returns-clause-answers_after c =
    let done : length c.args.steps.now / 3 ≤ c.loop-n.n = omega (arith, c.as_chunks.ensures.front_len) in
    elim c.if-not-is_empty.branch [
      | then-not-is_empty w ↦
          let some : 0 < length c.as_chunks.result.1.now = grind (arith, nat_tests) in
          rw (w.answers-is, w.code.ensures, c.as_chunks.ensures.front_len)
          (running_partial c.loop-n.invariant done (omega (arith, c.as_chunks.ensures.back_len)) (omega (arith, c.requires.steps_in_bounds)))
      | else-not-is_empty w ↦
          let none : length c.as_chunks.result.1.now ≡ 0 = grind (arith, nat_tests) in
          rw w.answers-is (running_whole c.loop-n.invariant done (omega (arith, c.as_chunks.ensures.back_len)))
    ]
