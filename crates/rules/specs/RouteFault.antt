-- What the search for codes 11 and 28 finds, in plain words: the first place of a table's routes that is at fault.
-- proofs/RouteFault.antt proves it of the search of specs/Placing.antt, for every table record.
use Rattle.std.specs.Prelude.{ℕ, ◌≤◌, ◌<◌, ◌≡◌, ◌⊎◌, ◌↔◌, ◌≢◌}
use Rattle.rules.specs.declared.Table.{Table}
use Rattle.rules.specs.Ends.{Refusal}
use Rattle.rules.specs.Track.{train_plan_at, track_of}
use Rattle.rules.specs.Placing.{without_place, route_place_fault}

-- Train i is one of the table's, and its route has a place p. (A route longer than 64 reads as segment 0 from place 65 on; code 10
-- refuses it before.)
pub record RoutePlace (t : Table) (i p : ℕ) : Type 0 where
  pub train_low : 1 ≤ i
  pub train_high : i ≤ t.k
  pub place_low : 1 ≤ p
  pub place_high : p ≤ (train_plan_at t i).length

-- Its code: 11, 28, or 0 where it is not at fault.
abbrev pub code_at : Table → ℕ → ℕ → ℕ
code_at t i p = (route_place_fault t.n (track_of t) t.routes i (train_plan_at t i).direction p).code

-- Place p of train i's route comes before place q of train j's: on an earlier train's route, or earlier on the same one.
abbrev pub Before : ℕ → ℕ → ℕ → ℕ → Type 0
Before i p j q = (i < j) ⊎ ((i ≡ j) × (p < q))

-- What the search through a table's routes finds.
pub record RoutesFault (t : Table) (found : Refusal) : Type 0 where
  -- Code 0 exactly where no place of any route is at fault; train and place are 0 then.
  pub none : (found.code ≡ 0) ↔ ((i p : ℕ) → RoutePlace t i p → code_at t i p ≡ 0)
  pub zeros : found.code ≡ 0 → found ≡ without_place 0
  -- Else a place of a route that is at fault with this code,
  pub place : found.code ≢ 0 → RoutePlace t found.train found.place
  pub fault : found.code ≢ 0 → code_at t found.train found.place ≡ found.code
  -- and no place before it is at fault.
  pub before : (i p : ℕ) → RoutePlace t i p → Before i p found.train found.place → code_at t i p ≡ 0
