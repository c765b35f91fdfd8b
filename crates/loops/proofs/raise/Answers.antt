use Rattle.std.proofs.Common.{◌+◌, arith, rules}
use Rattle.rules.specs.Track.{track_in}
use Rattle.loops.proofs.Rising.{Passing, passing_start, passing_kept, passing_raised, passing_high, passing_ends}
use Rattle.loops.proofs.raise.Goals as goal
use Rattle.loops.proofs.raise.Goals.{Joined-ranks-y, then-ranks-y+else-rank-highest, else-ranks-y}

pub loop-s-init : goal.loop-s-init
loop-s-init c = search passing_start

pub returns-then-rank-highest : goal.returns-then-rank-highest
returns-then-rank-highest c = search passing_high

turn : (c : Joined-ranks-y)
    → Passing c.args.n (track_in c.args.columns.now.a c.args.columns.now.b) c.args.ranks.now
    c.if-ranks-y.ranks c.if-ranks-y.pass (c.loop-s.s + 1)
turn c =
    elim c.if-ranks-y.branch [
      | then-ranks-y+else-rank-highest w ↦ rw (w.ranks-is, w.pass-is) (search (rules, passing_raised))
      | else-ranks-y w ↦ rw (w.ranks-is, w.pass-is) (search passing_kept)
    ]

pub loop-s-preserved : goal.loop-s-preserved
loop-s-preserved c = turn (goal.at.loop-s-preserved c).Joined-ranks-y

pub returns-after-ranks-y : goal.returns-after-ranks-y
returns-after-ranks-y c = passing_ends _ _ _ _ _ _ (turn (goal.at.returns-after-ranks-y c).Joined-ranks-y) (omega arith)

pub returns : goal.returns
returns c = search passing_ends
