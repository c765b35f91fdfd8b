-- `guess`: no rank is above 96.
use Rattle.loops.specs.Ranks.{Low}
use Rattle.loops.proofs.guess.Given as goal

abbrev pub invariant-loop-rank : goal.invariant-loop-rank
invariant-loop-rank l = Low l.ranks
