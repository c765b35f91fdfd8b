-- Each turn stores the record numbered one higher than its index; behind the last there is none.
use Rattle.std.proofs.Common.{arith, rules}
use Rattle.rules.proofs.Rows.{length_mapped}
use Rattle.columns.proofs.Column.{fill_start, fill_turn}
use Rattle.columns.proofs.Numbered.{way_none, way_at, far_none, end_a_at, end_b_at, kind_none, kind_at}
use Rattle.columns.proofs.Tracks.{track_filled, points_filled}
use Rattle.columns.proofs.Columns.of.Goals as goal

pub loop-i-init : goal.loop-i-init
loop-i-init c = (fill_start 256 _ (far_none _ 1), (fill_start 256 _ (far_none _ 0), fill_start 256 _ (way_none _)))

pub loop-i-preserved : goal.loop-i-preserved
loop-i-preserved c =
    let (a, (b, ways)) = c.loop-i.invariant in (
      fill_turn 256 _ _ _ _ a (omega arith) (end_a_at _ _),
      (fill_turn 256 _ _ _ _ b (omega arith) (end_b_at _ _), fill_turn 256 _ _ _ _ ways (omega arith) (way_at _ _)),
    )

pub loop-j-init : goal.loop-j-init
loop-j-init c = fill_start 256 _ (kind_none _)

pub loop-j-preserved : goal.loop-j-preserved
loop-j-preserved c = fill_turn 256 _ _ _ _ c.loop-j.invariant (omega arith) (kind_at _ _)

pub returns-clause-track : goal.returns-clause-track
returns-clause-track c = search (rules, length_mapped, track_filled)

pub returns-clause-points : goal.returns-clause-points
returns-clause-points c = points_filled _ _ _ c.loop-j.invariant (search (rules, length_mapped)) (omega arith)
