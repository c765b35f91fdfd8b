-- The caller's place for the length of the printed text, after the call: the length, or with 26 what stood there.
use Rattle.std.specs.Prelude.{ℕ, cond, List, eqb, length}
use Rattle.rules.specs.Printout.{printout, print_code}

unfoldable pub printed_size : List ℕ → List ℕ → List ℕ → List ℕ → ℕ → ℕ
printed_size file input answers text size = cond (eqb (print_code input answers text) 0) (length (printout file input)) size
