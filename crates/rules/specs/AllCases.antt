-- The list of all cases.
use Rattle.std.specs.Prelude.{List, ◌++◌}
use Rattle.rules.specs.Cases.{Case, paper_cases}
use Rattle.rules.specs.FileCases.{file_cases}
use Rattle.rules.specs.StepCases.{step_cases}
use Rattle.rules.specs.RadioCases.{radio_cases}
use Rattle.rules.specs.RunCases.{run_cases, lent_cases}
use Rattle.rules.specs.RecordCases.{record_cases, made_up_cases}
use Rattle.rules.specs.OneWayCases.{one_way_cases}

unfoldable pub cases : List Case
cases = paper_cases ++ file_cases ++ step_cases ++ radio_cases ++ run_cases ++ lent_cases ++ record_cases ++ made_up_cases ++ one_way_cases
