-- The cases of 01 and those beside them: the definitions give what each expects. One proof over the whole list, by computing.
use mathlib.Core.Path.{◌≡◌, refl}
use mathlib.Core.List.{map}
use Rattle.rules.specs.Cases.{Case, found}
use Rattle.rules.specs.AllCases.{cases}
use Rattle.rules.proofs.Computing.{definitions}

pub cases_hold : map (λ (c : Case). found c.ask) cases ≡ map (λ (c : Case). c.expected) cases
unfolding definitions
cases_hold = refl
