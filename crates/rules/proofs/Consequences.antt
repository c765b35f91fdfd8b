-- What else holds after every list of steps.
use Prim.Native.Nat.{ℕ, ◌+◌}
use mathlib.Core.Path.{◌≡◌, sym, ◌∙◌, ap}
use mathlib.Core.Bool.{true}
use mathlib.Core.List.{List}
use native.Mathlib.Omega.{arith}
use Rattle.rules.specs.declared.Table.{Table}
use Rattle.rules.specs.declared.Request.{Request}
use Rattle.rules.specs.declared.Message.TheVariants.{Idle, Sent}
use Rattle.rules.specs.declared.Line.{Line}
use Rattle.rules.specs.declared.Outcome.{Outcome}
use Rattle.rules.specs.Track.{route_at}
use Rattle.rules.specs.File.{decode}
use Rattle.rules.specs.Line.{start_line, train_at, gives_back, around, around_on}
use Rattle.rules.specs.Steps.{Step, box_rows, step}
use Rattle.rules.specs.History.{Place}
use Rattle.rules.specs.Atomic.{kept_after}
use Rattle.rules.specs.Safety.{TrainOf, on_route, reached, history, where_is}
use Rattle.rules.specs.Invariant.{Granted, Invariant}
use Rattle.rules.specs.Consequences.{AlsoHolds}
use Rattle.rules.proofs.Tests.{first-none}
use Rattle.rules.proofs.Accepted.{Accepted}
use Rattle.rules.proofs.Files.{file_iff}
use Rattle.rules.proofs.Steps.{box_says}
use Rattle.rules.proofs.StepKinds.{request_kind_lem, Does, refuses, sends, denies, grants, hears, retries, enters, clears, does}
use Rattle.rules.proofs.SettledSteps.{enter_idle}
use Rattle.rules.proofs.Moves.{other_trains, other_boxes}
use Rattle.rules.proofs.Checked.{checked-line, checked-events}
use Rattle.rules.proofs.Occupied.{lock_told, occupied}
use Rattle.rules.proofs.Along.{along_way, AlongOn, always_along, reserved_along, way_told, start_along}
use Rattle.rules.proofs.Again.{yes_heard}
use Rattle.rules.proofs.Returned.{returned}
use Rattle.rules.proofs.Repeats.{again, once}
use Rattle.rules.proofs.Demand3.{start_fixed, invariant_after, same_atomic, line-fixed, line-place, sensed-there, covered-held}

-- A train enters only where it has no message.
silent : {g : Granted} {l : Line} → Invariant g l → (s : Step) (o : Outcome) → Does l s o → s.kind ≡ 5 → o.code ≡ 0
    → (train_at l s.train).message ≡ Idle
silent h s o (refuses n other) kind code = absurd (n code)
silent h s o (sends {q} w) kind code = absurd (request_kind_lem q 5 (omega arith) (omega arith) (sym w.kind ∙ kind))
silent h s o (denies w n) kind code = absurd (omega arith)
silent h s o (grants w) kind code = absurd (omega arith)
silent h s o (hears w) kind code = absurd (omega arith)
silent h s o (retries w) kind code = absurd (omega (arith, w.low))
silent h s o (enters w) kind code = enter_idle h w
silent h s o (clears w) kind code = absurd (omega arith)

-- A box answers a give-back with 0.
answered_yes : (l : Line) (s : Step) (q : Request) → s.kind ≡ 3 → s.box ≡ 0 → TrainOf l.table s.train
    → (train_at l s.train).message ≡ Sent q → gives_back q ≡ true → (step l s).code ≡ 0
unfolding box_rows
answered_yes l s q kind box k asked gives = box_says l s q kind box k asked ∙ rw gives first-none

-- The next segment of a train, by its accepted moves.
next-there : {t : Table} (a : Accepted t) (steps : List Step) (i : ℕ) → TrainOf t i
    → (around (reached t steps) i).next ≡ on_route t i ((where_is t steps i).place + 1)
unfolding around around_on
next-there {t} a steps i k =
    ap (λ (routes : List ℕ). route_at routes i ((train_at (reached t steps) i).place + 1)) (line-fixed a steps).routes
    ∙ ap (λ (p : Place). on_route t i (p.place + 1)) (line-place a steps i k)

pub consequences : AlsoHolds
consequences bytes e steps =
    let t = decode bytes in
    let l = reached t steps in
    let kept = kept_after (history t steps) in
    let a = ((file_iff bytes).0 e).table in
    let after = invariant_after a in
    let h = after steps in
    let known : (i : ℕ) → TrainOf t i → TrainOf (reached t steps).table i = λ i k. rw (line-fixed a steps).table k in
    let along : AlongOn t l = always_along t (start_line t) (start_fixed a) (start_along t a) steps in
    record {
      invariant = h;
      sound = h.sound;
      checked_line = checked-line (start_line t) (λ z. (after z).sound) steps;
      checked_events = checked-events (start_line t) (λ z. (after z).sound) steps;
      occupied = occupied a steps;
      lock_told = λ i q b k c s kind box u asked. lock_told h s b kind box (known s.train u) asked (sensed-there a steps k c);
      along = λ i k q c. along_way _ _ (a.routes i k).direction (reserved_along t l along _ _ i (covered-held a steps k c) k);
      way_told = λ s b kind box k asked against.
          way_told t l (line-fixed a steps) along s b kind box k asked (rw (next-there a steps s.train k) against);
      silent = λ s. silent h s _ (does (reached t steps) s);
      atomic_line = same_atomic a steps;
      answered_yes = λ s q kind box k. answered_yes (reached t steps) s q kind box (known s.train k);
      heard_yes = λ i k q c. yes_heard h (known i k);
      returned = returned kept h;
      again = again kept l h;
      once = once kept l h;
      other_trains = λ s. other_trains (does (reached t steps) s);
      other_boxes = λ s. other_boxes (does (reached t steps) s);
    }
