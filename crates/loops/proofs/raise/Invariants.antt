-- `raise`: the invariant is the record `Passing`, and each way through a turn or out of the loop is a law of it.
use Rattle.rules.specs.Track.{track_in}
use Rattle.loops.proofs.Rising.{Passing}
use Rattle.loops.proofs.raise.Given as goal

abbrev pub invariant-loop-s : goal.invariant-loop-s
invariant-loop-s l = Passing l.n (track_in l.columns.a l.columns.b) l.initial.ranks l.ranks l.pass l.s
