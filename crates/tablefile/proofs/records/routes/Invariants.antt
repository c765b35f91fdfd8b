-- A turn copies one route.
use Rattle.std.proofs.Common.{◌≡◌}
use Rattle.rules.specs.File.{trains_from}
use Rattle.tablefile.specs.Whole.{routes_up_to}
use Rattle.tablefile.proofs.records.routes.Given as goal

abbrev pub invariant-loop-i : goal.invariant-loop-i
invariant-loop-i l = (l.at ≡ trains_from l.bytes l.i) × (l.all ≡ routes_up_to l.bytes l.i)
