use Rattle.std.proofs.Common.{arith}
use Rattle.writing.proofs.Laws.{written_join_none, put_join, box_bytes_lem}
use Rattle.writing.proofs.records.put_boxes.Goals as goal

pub loop-p-init : goal.loop-p-init
loop-p-init c = written_join_none _ _

pub loop-p-preserved : goal.loop-p-preserved
loop-p-preserved c =
    put_join _ _ _ (omega arith) c.requires.room c.loop-p.invariant (box_bytes_lem _ _ c.from.result (omega arith)) c.put.ensures.written
