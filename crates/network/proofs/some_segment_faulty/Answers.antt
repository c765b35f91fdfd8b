use Rattle.std.proofs.Common.{refl, rules, tests}
use Rattle.rules.specs.Track.{track_in, way_in}
use Rattle.rules.specs.Network.{segment_fault}
use Rattle.network.proofs.Any.{any_indexed}
use Rattle.network.proofs.some_segment_faulty.Goals as goal

pub returns : goal.returns
returns c =
    let l = c.args.columns.now in
    any_indexed (segment_fault c.args.m (track_in l.a l.b) (way_in l.ways)) c.args.n c.any.ensures.ran refl
    (λ i b q k. search (rules, tests))
