-- Atomic steps (01: whole steps): their order, made from steps and answers alone, and the atomic line (01: whole line), which
-- takes each granted request whole, give-backs among them. The atomic line is a line whose trains have no messages.
use Rattle.std.specs.Prelude.{ℕ, Bool, true, false, cond, not, ◌&&◌, ◌||◌, eqb}
use mathlib.Core.List.{List, [], ◌∷◌, ◌++◌, Option-to_list}
use mathlib.Core.Option.{Option, none, some, Option-elim}
use Rattle.rules.specs.declared.Request.{Request}
use Rattle.rules.specs.declared.Request.TheVariants.{Reserve, Lock, GiveBack, Unlock}
use Rattle.rules.specs.declared.BoxPlan.{BoxPlan}
use Rattle.rules.specs.declared.SwitchBox.{SwitchBox}
use Rattle.rules.specs.declared.Train.{Train}
use Rattle.rules.specs.declared.Line.{Line}
use Rattle.rules.specs.declared.Around.{Around}
use Rattle.rules.specs.Ends.{Effect}
use Rattle.rules.specs.Ends.Effect.{Refused, Changed}
use Rattle.rules.specs.declared.Outcome.{Outcome}
use Rattle.rules.specs.Rows.{first}
use Rattle.rules.specs.Track.{plan_at}
use Rattle.rules.specs.Line.{around, box_at, train_at, holding, gives_back}
use Rattle.rules.specs.Steps.{Step, apply, unless, request_rows, box_rows, granted, with_holding, without_holding, enter, clear, concerned_box}
use Rattle.rules.specs.History.{Event, accepted}

-- The last request of each train that was answered 0, until it is granted.
abbrev pub Kept : Type 0
Kept = ℕ → Option Step

unfoldable pub is_request : Step → Bool
is_request s = eqb s.kind 1 || eqb s.kind 2 || eqb s.kind 7 || eqb s.kind 8

-- The event is a request of train i, accepted.
unfoldable pub requests : ℕ → Event → Bool
requests i e = is_request e.step && eqb e.step.train i && eqb e.answer 0

-- What is kept after an event, and after a list of them.
unfoldable pub keep : Kept → Event → Kept
keep kept e i = cond (requests i e) (some e.step) (cond (accepted 3 i e) none (kept i))

unfoldable pub kept_by : Kept → List Event → Kept
kept_by kept [] = kept
kept_by kept (e ∷ rest) = kept_by (keep kept e) rest

-- What an event adds to the order: a grant the request that is kept, whole; an accepted move itself; all else nothing. A request stands
-- at its first grant: a yes to one that was sent again finds nothing kept.
unfoldable pub added : Kept → Event → List Step
added kept e =
    let s = e.step in
    cond (not (eqb e.answer 0)) []
    (cond (eqb s.kind 3) (Option-to_list (kept s.train)) (cond (eqb s.kind 5 || eqb s.kind 6) (s ∷ []) []))

unfoldable pub order_from : Kept → List Event → List Step
order_from kept [] = []
order_from kept (e ∷ rest) = added kept e ++ order_from (keep kept e) rest

-- The order of atomic steps (01: the whole-step order) of a list of events from the start, where nothing is kept; and what is kept after
-- it.
abbrev pub none_kept : Kept
none_kept i = none

unfoldable pub order : List Event → List Step
order es = order_from none_kept es

abbrev pub kept_after : List Event → Kept
kept_after es = kept_by none_kept es

-- The last request of train i that was answered 0 has been granted, or there is none.
unfoldable pub is_granted : Kept → ℕ → Bool
is_granted kept i = Option-elim (kept i) true (λ s. false)

-- An atomic request: kind 1, 2, 7 or 8, then 3 and 4, in one. Where no code of its rows stops it, the box grants it, and the train
-- records the holding at once, or drops the record of what it gives back.
unfoldable pub atomic_request : Around → Train → BoxPlan → SwitchBox → Request → Effect
atomic_request v r p x q =
    unless (first (request_rows v r q ++ box_rows v p x q))
    (Changed 0 (cond (gives_back q) (without_holding v r (holding q)) (with_holding v r (holding q))) (granted v p x q))

-- An atomic step: a request at its box, or a move as kind 5 or 6 has it. What is stopped has a code other than 0 and changes nothing.
unfoldable pub atomic_step : Line → Step → Outcome
atomic_step l s =
    let i = s.train in
    let v = around l i in
    let r = train_at l i in
    let b = cond (is_request s) s.box (concerned_box s.kind v r) in
    let p = plan_at l.table b in
    let x = box_at l b in
    apply l i b
    (cond (eqb s.kind 1) (atomic_request v r p x (Reserve s.box))
    (cond (eqb s.kind 2) (atomic_request v r p x (Lock s.box))
    (cond (eqb s.kind 7) (atomic_request v r p x (GiveBack s.box))
    (cond (eqb s.kind 8) (atomic_request v r p x (Unlock s.box))
    (cond (eqb s.kind 5) (enter v r x) (cond (eqb s.kind 6) (clear v r p x) (Refused 13)))))))

-- Some atomic step was stopped.
unfoldable pub stopped : List Event → Bool
stopped [] = false
stopped (e ∷ rest) = not (eqb e.answer 0) || stopped rest
