-- The word and the first numbers are written.
use Rattle.std.proofs.Common.{◌∷◌, ◌++◌, take, flat_map}
use Rattle.rules.specs.Printout.{decimal}
use Rattle.writing.specs.Written.{Written}
use Rattle.printout.proofs.lines.put_line.Given as goal

abbrev pub invariant-loop-x : goal.invariant-loop-x
invariant-loop-x l = Written l.fn.pen (l.word ++ flat_map (λ x. 32 ∷ decimal x) (take l.x-index l.numbers)) l.pen
