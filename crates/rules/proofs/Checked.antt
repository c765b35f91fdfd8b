-- Where the record check finds nothing on any line that a list of steps reaches, calls that begin with the check give the same
-- line and the same answers. `Safe` says that it finds nothing (field `sound`).
use mathlib.Core.Path.{◌≡◌, refl}
use mathlib.Core.Bool.{false}
use mathlib.Core.List.{List, [], ◌∷◌}
use Rattle.rules.specs.declared.Line.{Line}
use Rattle.rules.specs.Steps.{Step, step}
use Rattle.rules.specs.Record.{record_fault, checked_step}
use Rattle.rules.specs.History.{line_after, events}
use Rattle.rules.specs.Safety.{StaysSound}

-- So it is on the line itself, and after each step.
pub sound_here : (l : Line) → StaysSound l → record_fault l ≡ false
unfolding line_after
sound_here l h = h []

pub sound-next : (l : Line) → StaysSound l → (s : Step) → StaysSound (step l s).line
unfolding line_after
sound-next l h s steps = h (s ∷ steps)

checked-step : (l : Line) → StaysSound l → (s : Step) → checked_step l s ≡ step l s
unfolding checked_step
checked-step l h s = rw (sound_here l h)

pub checked-line : (l : Line) → StaysSound l → (steps : List Step) → line_after checked_step l steps ≡ line_after step l steps
unfolding line_after
checked-line l h [] = refl
checked-line l h (s ∷ rest) = rw (checked-step l h s) (checked-line (step l s).line (sound-next l h s) rest)

pub checked-events : (l : Line) → StaysSound l → (steps : List Step) → events checked_step l steps ≡ events step l steps
unfolding events
checked-events l h [] = refl
checked-events l h (s ∷ rest) = rw (checked-step l h s, checked-events (step l s).line (sound-next l h s) rest)
