-- Past train 16 there is no record; up to it the chain goes through the pairs of a number and a record.
use Rattle.std.proofs.Common.{◌≡◌, ◌+◌, ℕ, Bool, length, refl, rules, tests, arith, add_comm, lt-ltb}
use Rattle.std.specs.List.{range_with_len}
use Rattle.std.proofs.lemmas.List.FromFn.{length-range_with_len, get_or-range_with_len}
use Rattle.std.proofs.lemmas.Iterator.Consumers.{YieldsList-at}
use Rattle.std.proofs.lemmas.Iterator.{YieldsList-from_slice, YieldsList-from_range, YieldsList-from_zip}
use Rattle.rules.specs.declared.Train.{Train}
use Rattle.rules.specs.Track.{track_in, way_in, point_in}
use Rattle.rules.specs.Line.{no_train}
use Rattle.rules.specs.Record.{train_fault, trains_fault}
use Rattle.rules.proofs.Rows.{nth_at}
use Rattle.checking.proofs.Laws.{many_trains, any_zipped}
use Rattle.checking.proofs.trains.some_train_faulty.Goals as goal

pub returns-then-k-gt16 : goal.returns-then-k-gt16
returns-then-k-gt16 c =
    rw (lt-ltb _ _ c.if-k-gt16.true) (many_trains _ _ _ _ _ _ c.args.line.now.trains (search rules) c.if-k-gt16.true)

pub returns-else-k-gt16 : goal.returns-else-k-gt16
unfolding trains_fault
returns-else-k-gt16 c =
    let line = c.args.line.now in
    let k = line.table.k in
    let columns = c.args.columns.now in
    let trains : length line.trains ≡ 16 = search rules in
    let numbers = YieldsList-at c.zip.ensures.first (YieldsList-from_range 1 (k + 1) k refl (omega arith)) in
    let pairs = YieldsList-from_zip {s = c.zip.result} numbers (YieldsList-from_slice line.trains cc) in
    let fault : ℕ × Train → Bool =
    λ p. train_fault line.table.n (track_in columns.a columns.b) (way_in columns.ways) (point_in columns.kinds) line.routes p.0 p.1 in
    any_zipped fault c.any.new.self _ c.any.result k _ (range_with_len 1 k) line.trains 0 no_train c.any.ensures.ran pairs
    (λ x b q h. search (rules, tests)) (length-range_with_len 1 k) (omega arith)
    (λ i h. rw (nth_at line.trains, get_or-range_with_len 1 k i 0 h, add_comm 1 i))
