use Rattle.std.proofs.Common.{length-take, arith}
use Rattle.writing.proofs.Laws.{written_join_none, put_join, segment_size_most, segment_bytes_lem}
use Rattle.writing.proofs.records.put_segments.Goals as goal

pub loop-s-init : goal.loop-s-init
loop-s-init c = written_join_none _ _

pub slice_bounds-put-end : goal.slice_bounds-put-end
slice_bounds-put-end c = omega (arith, segment_size_most c.args.table.now.version)

pub slice_bounds-put-end-in-loop-s : goal.slice_bounds-put-end-in-loop-s
slice_bounds-put-end-in-loop-s c = simp length-take (omega (arith, segment_size_most c.args.table.now.version))

pub loop-s-preserved : goal.loop-s-preserved
loop-s-preserved c =
    let r = segment_bytes_lem c.args.table.now c.loop-s.s-index c.from.result c.from-size.result (omega arith) (omega arith) in
    put_join _ _ _ (omega arith) c.requires.room c.loop-s.invariant r c.put.ensures.written
