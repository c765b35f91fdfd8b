-- What answers share is two facts or three: a lemma over them would have as many arguments as they have.
use Rattle.std.proofs.Common.{◌≡◌, length, length-take, length-drop, arith, rules}
use Rattle.writing.proofs.Laws.{written_append, written_join_none, put_join, train_bytes_lem, plan_bounded}
use Rattle.writing.proofs.records.put_trains.Goals as goal

pub loop-i-init : goal.loop-i-init
loop-i-init c = written_join_none _ _

pub slice_bounds-put-end-in-loop-i-2 : goal.slice_bounds-put-end-in-loop-i-2
slice_bounds-put-end-in-loop-i-2 c =
    let t = c.args.table.now in
    let e : length t.routes ≡ 1024 = search rules in
    let b = plan_bounded t c.loop-i.i c.from.result c.requires.bounded (omega arith) (omega arith) in
    simp (length-take, length-drop) (omega (arith, c.requires.bounded.trains))

pub loop-i-preserved : goal.loop-i-preserved
loop-i-preserved c =
    let t = c.args.table.now in
    let e : length t.routes ≡ 1024 = search rules in
    let r = train_bytes_lem t c.loop-i.i c.from.result c.from-in-loop-i.result c.requires.bounded (omega arith) (omega arith) e (omega arith) in
    put_join _ _ t.k (omega arith) c.requires.room c.loop-i.invariant r λ h.
    let head = c.put.ensures.written (omega (arith, h)) in
    written_append head (c.put-in-loop-i.ensures.written (omega (arith, h, head)))
