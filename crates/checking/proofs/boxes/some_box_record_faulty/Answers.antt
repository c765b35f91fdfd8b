-- The chain goes through the pairs of a plan and a record of the first m boxes.
use Rattle.std.proofs.Common.{◌≡◌, Bool, take, get_or-take, length-take-le, rules, tests, arith, length, le-ltb}
use Rattle.std.proofs.lemmas.Iterator.{YieldsList-from_slice, YieldsList-from_take, YieldsList-from_zip}
use Rattle.std.proofs.lemmas.Iterator.Consumers.{YieldsList-at}
use Rattle.rules.specs.declared.BoxPlan.{BoxPlan}
use Rattle.rules.specs.declared.SwitchBox.{SwitchBox}
use Rattle.rules.specs.Track.{no_box_plan}
use Rattle.rules.specs.Line.{no_box}
use Rattle.rules.specs.Record.{switch_box_fault, switch_boxes_fault}
use Rattle.rules.proofs.Tests.{or-last}
use Rattle.rules.proofs.Rows.{nth_at}
use Rattle.checking.proofs.Laws.{any_zipped}
use Rattle.checking.proofs.boxes.some_box_record_faulty.Goals as goal

pub returns-else-m-gt96 : goal.returns-else-m-gt96
unfolding switch_boxes_fault
returns-else-m-gt96 c =
    let line = c.args.line.now in
    let m = line.table.m in
    let all = line.table.boxes in
    let plans : length line.table.boxes ≡ 96 = search rules in
    let boxes : length line.boxes ≡ 96 = search rules in
    let firsts = YieldsList-from_take {s = c.take.result} m (YieldsList-at c.take.ensures.source (YieldsList-from_slice all cc))
    c.take.ensures.count in
    let pairs = YieldsList-from_zip {s = c.zip.result} (YieldsList-at c.zip.ensures.first firsts) (YieldsList-from_slice line.boxes cc) in
    let fault : BoxPlan × SwitchBox → Bool = λ p. switch_box_fault line.table.k p.0 p.1 in
    let found = any_zipped fault c.any.new.self _ c.any.result m _ (take m all) line.boxes no_box_plan no_box c.any.ensures.ran pairs
    (λ x b q h. search (rules, tests)) (length-take-le m all (omega arith)) (omega arith)
    (λ i h. rw (nth_at all, nth_at line.boxes, get_or-take m all i no_box_plan h)) in
    or-last _ _ _ (le-ltb _ _ c.if-m-gt96.false) found
