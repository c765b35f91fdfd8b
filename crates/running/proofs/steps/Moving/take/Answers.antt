use Rattle.std.proofs.Common.{arith, refl, rules, ◌-◌}
use Rattle.std.proofs.lemmas.Result.{err_from_is_err_and}
use Rattle.running.proofs.Turn.{Going, goes, train_within, ahead-within, passed-within, asked-within, answers, unanswered, enters, clears, goes_alone, refuses, answered, entered, cleared, went_alone}
use Rattle.running.proofs.steps.Moving.take.Goals as goal
use Rattle.running.proofs.steps.Moving.take.Goals.{After-index-i}

pub index-i-requires : goal.index-i-requires
index-i-requires c =
    let g = goes {i = c.args.train - 1} c.self.invariant c.self.view_is c.in_ok-check_form.ensures c.if-outside.ensures refl in
    let within = train_within g in
    record { low = within.0; high = within.1 }

-- What each arm starts from.
going : (c : After-index-i)
    → Going c.self.inside.columns c.self.inside.line c.args.self.now c.self.inside.seen
    (record { kind = c.args.kind; train = c.args.train; box = c.args.at }) c.index-i.result
going c = goes c.self.invariant c.self.view_is c.in_ok-check_form.ensures c.if-outside.ensures c.index-i.ensures.value

pub returns-then-asked-eq0 : goal.returns-then-asked-eq0
returns-then-asked-eq0 c =
    let g = going (goal.at.returns-then-asked-eq0 c).After-index-i in
    refuses g (unanswered g c.in-3.is c.message_box-asked.ensures c.if-asked-eq0.true)

pub index-j-requires-clause-high : goal.index-j-requires-clause-high
index-j-requires-clause-high c =
    let g = going (goal.at.index-j-requires-clause-high c).After-index-i in
    (asked-within g _ c.message_box-asked.ensures c.if-asked-eq0.false).1

pub returns-in_err-done-in-3 : goal.returns-in_err-done-in-3
returns-in_err-done-in-3 c =
    let g = going (goal.at.returns-in_err-done-in-3 c).After-index-i in
    let p = err_from_is_err_and c.from_residual-in_err-done-in-3.result c.from_residual-in_err-done-in-3.ensures.1 in
    let done = rw c.computer-known.ensures at c.in_err-done-in-3.ensures in
    rw (p.1, p.2) (refuses g (answers g c.in-3.is c.message_box-asked.ensures c.if-asked-eq0.false c.index-j.ensures.value done))

pub invariant_of-self : goal.invariant_of-self
invariant_of-self c =
    let g = going (goal.at.invariant_of-self c).After-index-i in
    let done = rw c.computer-known.ensures at c.in_ok-done-in-3.ensures in
    (answered g c.in-3.is c.message_box-asked.ensures c.if-asked-eq0.false c.index-j.ensures.value done).kept

pub returns-in_ok-done-in-3 : goal.returns-in_ok-done-in-3
returns-in_ok-done-in-3 c =
    let g = going (goal.at.returns-in_ok-done-in-3 c).After-index-i in
    let done = rw c.computer-known.ensures at c.in_ok-done-in-3.ensures in
    (answered g c.in-3.is c.message_box-asked.ensures c.if-asked-eq0.false c.index-j.ensures.value done).is

pub index-j-requires-in-5 : goal.index-j-requires-in-5
index-j-requires-in-5 c =
    let g = going (goal.at.index-j-requires-in-5 c).After-index-i in
    let within = ahead-within g in
    record { low = within.0; high = within.1 }

pub returns-in_err-done-in-5 : goal.returns-in_err-done-in-5
returns-in_err-done-in-5 c =
    let g = going (goal.at.returns-in_err-done-in-5 c).After-index-i in
    let p = err_from_is_err_and c.from_residual-in_err-done-in-5.result c.from_residual-in_err-done-in-5.ensures.1 in
    let done = rw c.computer-known-in-5.ensures at c.in_err-done-in-5.ensures in
    rw (p.1, p.2) (refuses g (enters g c.in-5.is c.index-j-in-5.ensures.value done))

pub invariant_of-self-in-5 : goal.invariant_of-self-in-5
invariant_of-self-in-5 c =
    let g = going (goal.at.invariant_of-self-in-5 c).After-index-i in
    let done = rw c.computer-known-in-5.ensures at c.in_ok-done-in-5.ensures in
    (entered g c.in-5.is c.index-j-in-5.ensures.value done c.around.ensures).kept

pub returns-in_ok-done-in-5 : goal.returns-in_ok-done-in-5
returns-in_ok-done-in-5 c =
    let g = going (goal.at.returns-in_ok-done-in-5 c).After-index-i in
    let done = rw c.computer-known-in-5.ensures at c.in_ok-done-in-5.ensures in
    (entered g c.in-5.is c.index-j-in-5.ensures.value done c.around.ensures).is

pub index-j-requires-in-6 : goal.index-j-requires-in-6
index-j-requires-in-6 c =
    let g = going (goal.at.index-j-requires-in-6 c).After-index-i in
    let within = passed-within g in
    record { low = within.0; high = within.1 }

pub returns-in_err-done-in-6 : goal.returns-in_err-done-in-6
returns-in_err-done-in-6 c =
    let g = going (goal.at.returns-in_err-done-in-6 c).After-index-i in
    let p = err_from_is_err_and c.from_residual-in_err-done-in-6.result c.from_residual-in_err-done-in-6.ensures.1 in
    let done = rw c.computer-known-in-6.ensures at c.in_err-done-in-6.ensures in
    rw (p.1, p.2) (refuses g (clears g c.in-6.is c.index-j-in-6.ensures.value done))

pub invariant_of-self-in-6 : goal.invariant_of-self-in-6
invariant_of-self-in-6 c =
    let g = going (goal.at.invariant_of-self-in-6 c).After-index-i in
    let done = rw c.computer-known-in-6.ensures at c.in_ok-done-in-6.ensures in
    (cleared g c.in-6.is c.index-j-in-6.ensures.value done c.around-in-6.ensures).kept

pub returns-in_ok-done-in-6 : goal.returns-in_ok-done-in-6
returns-in_ok-done-in-6 c =
    let g = going (goal.at.returns-in_ok-done-in-6 c).After-index-i in
    let done = rw c.computer-known-in-6.ensures at c.in_ok-done-in-6.ensures in
    (cleared g c.in-6.is c.index-j-in-6.ensures.value done c.around-in-6.ensures).is

pub returns-in_err-done-in_default : goal.returns-in_err-done-in_default
returns-in_err-done-in_default c =
    let g = going (goal.at.returns-in_err-done-in_default c).After-index-i in
    let p = err_from_is_err_and c.from_residual-in_err-done-in_default.result c.from_residual-in_err-done-in_default.ensures.1 in
    let done = rw c.computer-known-in_default.ensures at c.in_err-done-in_default.ensures in
    rw (p.1, p.2) (refuses g (goes_alone g (λ e. omega arith) (λ e. omega arith) (λ e. omega arith) (search rules) done))

pub invariant_of-self-in_default : goal.invariant_of-self-in_default
invariant_of-self-in_default c =
    let g = going (goal.at.invariant_of-self-in_default c).After-index-i in
    let done = rw c.computer-known-in_default.ensures at c.in_ok-done-in_default.ensures in
    (went_alone g (λ e. omega arith) (λ e. omega arith) (λ e. omega arith) (search rules) done).kept

pub returns-in_ok-done-in_default : goal.returns-in_ok-done-in_default
returns-in_ok-done-in_default c =
    let g = going (goal.at.returns-in_ok-done-in_default c).After-index-i in
    let done = rw c.computer-known-in_default.ensures at c.in_ok-done-in_default.ensures in
    (went_alone g (λ e. omega arith) (λ e. omega arith) (λ e. omega arith) (search rules) done).is
