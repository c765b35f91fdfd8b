-- `has_loop`: the ranks stay within their bound, and their sum grows with each pass that raised one.
use Rattle.std.proofs.Common.{◌-◌, sum}
use Rattle.rules.specs.Track.{track_in}
use Rattle.loops.specs.Ranks.{Reached}
use Rattle.loops.proofs.has_loop.Given as goal

abbrev pub invariant-loop : goal.invariant-loop
invariant-loop l = Reached l.n (track_in l.columns.a l.columns.b) l.ranks

abbrev pub decreases-loop : goal.decreases-loop
decreases-loop l = 89856 - sum l.ranks
