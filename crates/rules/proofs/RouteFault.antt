-- Laws of the search for the first refusal, and what the search through a table's routes finds.
use Prim.Native.Nat.{ℕ, zero, suc, ◌+◌, ◌-◌, ◌≤◌, ◌<◌}
use mathlib.Core.Path.{◌≡◌, refl, sym, ◌∙◌}
use mathlib.Core.Logic.{⊎_elim, ◌↔◌, ◌≢◌}
use mathlib.Core.Bool.{Bool, true, false, false≢true}
use mathlib.Core.List.{List, [], ◌∷◌}
use native.Mathlib.Decide.{ℕ_discrete}
use native.Mathlib.Numerals.{add-one}
use native.Mathlib.Omega.{arith}
use borrow.Author.Tests.{eq-eqb, ne_eqb}
use Rattle.rules.specs.declared.TrainPlan.{TrainPlan}
use Rattle.rules.specs.declared.Table.{Table}
use Rattle.rules.specs.Ends.{Refusal}
use Rattle.rules.specs.Rows.{Row, ◌if◌, first}
use Rattle.rules.specs.Track.{train_plan_at, Track, track_of, way_of}
use Rattle.rules.specs.Network.{head_rows, network_rows}
use Rattle.rules.specs.Placing.{without_place, first_from, first_of, place_rows, route_place_fault, route_fault, route_fault_at, routes_fault, routes_fault_in, placing_rows, parts_code, table_code, parts_refusal, table_refusal, tells_place, refusal_by}
use Rattle.rules.specs.File.{early_rows, decode, file_code, file_refusal}
use Rattle.rules.specs.RouteFault.{RoutePlace, code_at, RoutesFault}
use Rattle.rules.proofs.Tests.{EachCode, each_code}
use Rattle.rules.proofs.Refusals.{code_of, with_place_lem}

-- What the search through f i, f (i + 1) and so on, n of them, ends in: none of them is a refusal; or f s is the first.
data FirstIn (i n : ℕ) (f : ℕ → Refusal) (r : Refusal) : Type 0 where
  none : r ≡ without_place 0 → ((s : ℕ) → i ≤ s → s < i + n → (f s).code ≡ 0) → FirstIn i n f r
  found : (s : ℕ) → i ≤ s → s < i + n → f s ≡ r → (f s).code ≢ 0 → ((q : ℕ) → i ≤ q → q < s → (f q).code ≡ 0) → FirstIn i n f r

from_skip : (i n : ℕ) (f : ℕ → Refusal) → (f i).code ≡ 0 → first_from i (suc n) f ≡ first_from (suc i) n f
unfolding first_from
from_skip i n f e = rw (eq-eqb _ _ e)

from_hit : (i n : ℕ) (f : ℕ → Refusal) → (f i).code ≢ 0 → f i ≡ first_from i (suc n) f
unfolding first_from
from_hit i n f h = rw (ne_eqb _ _ h)

first_more : (i n : ℕ) (f : ℕ → Refusal) (r : Refusal) → (f i).code ≡ 0 → FirstIn (suc i) n f r → FirstIn i (suc n) f r
first_more i n f r e (none z h) =
    none z λ s l g. elim (ℕ_discrete s i) [ yes q ↦ rw q e | no q ↦ h s (omega arith) (omega arith) ]
first_more i n f r e (found s l g here c h) =
    found s (omega arith) (omega arith) here c λ t a b. elim (ℕ_discrete t i) [ yes q ↦ rw q e | no q ↦ h t (omega arith) b ]

first_in : (f : ℕ → Refusal) (n i : ℕ) → FirstIn i n f (first_from i n f)
first_in f zero i = none (unfold first_from in refl) λ s l g. absurd (omega arith)
first_in f (suc n) i =
    elim (ℕ_discrete (f i).code 0) [
      | yes e ↦ rw (from_skip i n f e) (first_more i n f _ e (first_in f n (suc i)))
      | no h ↦ found i (omega arith) (omega arith) (from_hit i n f h) h λ q l g. absurd (omega arith)
    ]

first_in_all : (f : ℕ → Refusal) (n : ℕ) → FirstIn 1 n f (first_of n f)
unfolding first_of
first_in_all f n = first_in f n 1

-- A search finds nothing exactly where there is nothing to be found.
pub first_of_zero_iff : (n : ℕ) (f : ℕ → Refusal) → ((first_of n f).code ≡ 0) ↔ ((s : ℕ) → 1 ≤ s → s ≤ n → (f s).code ≡ 0)
first_of_zero_iff n f =
    elim (first_in_all f n) [
      | none z h ↦ (λ e s l g. h s l (omega arith), λ e. rw z)
      | found s l g here c h ↦ (λ e. absurd (c (code_of here ∙ e)), λ e. absurd (c (e s l (omega arith))))
    ]

-- What holds of every refusal that is looked at holds of the one that is found.
first_each : (P : Refusal → Type 0) (f : ℕ → Refusal) (n : ℕ) → ((s : ℕ) → (f s).code ≢ 0 → P (f s)) → (first_of n f).code ≢ 0 → P (first_of n f)
first_each P f n h c =
    elim (first_in_all f n) [
      | none z g ↦ absurd (c (code_of z))
      | found s l g here d e ↦ rw here at (h s d)
    ]

-- A search through 1 .. n that has found nothing among the first i: at the start, after a turn, where it finds i + 1, and at the
-- end.
pub record NoneFound (n : ℕ) (f : ℕ → Refusal) (i : ℕ) : Type 0 where
  pub within : i ≤ n
  pub rest : first_from (i + 1) (n - i) f ≡ first_of n f

pub found_start : (n : ℕ) (f : ℕ → Refusal) → NoneFound n f 0
unfolding first_of
found_start n f = let left : n - 0 ≡ n = omega arith in record { within = omega arith; rest = rw left }

pub found_turn : (n : ℕ) (f : ℕ → Refusal) (i : ℕ) → NoneFound n f i → i < n → (f (i + 1)).code ≡ 0 → NoneFound n f (i + 1)
found_turn n f i h l e =
    let left : n - i ≡ suc (n - (i + 1)) = omega arith in
    record {
      within = omega arith;
      rest = rw (add-one (i + 1), ← from_skip (i + 1) (n - (i + 1)) f e, ← left) h.rest;
    }

pub found_here : (n : ℕ) (f : ℕ → Refusal) (i : ℕ) → NoneFound n f i → i < n → (f (i + 1)).code ≢ 0 → f (i + 1) ≡ first_of n f
found_here n f i h l c =
    let left : n - i ≡ suc (n - (i + 1)) = omega arith in
    from_hit (i + 1) (n - (i + 1)) f c ∙ rw (← left) h.rest

pub found_done : (n : ℕ) (f : ℕ → Refusal) (i : ℕ) → NoneFound n f i → n ≤ i → without_place 0 ≡ first_of n f
unfolding first_from
found_done n f i h l = let left : n - i ≡ zero = omega arith in rw left at h.rest

-- Searches that agree everywhere find the same.
from_same : (f g : ℕ → Refusal) (n i : ℕ) → ((s : ℕ) → i ≤ s → s < i + n → f s ≡ g s) → first_from i n f ≡ first_from i n g
unfolding first_from
from_same f g zero i h = refl
from_same f g (suc n) i h =
    rw (h i (omega arith) (omega arith), from_same f g n (suc i) (λ s l k. h s (omega arith) (omega arith)))

pub first_same : (f g : ℕ → Refusal) (n : ℕ) → ((s : ℕ) → 1 ≤ s → s ≤ n → f s ≡ g s) → first_of n f ≡ first_of n g
unfolding first_of
first_same f g n h = from_same f g n 1 (λ s l k. h s l (omega arith))

-- What the search through routes finds is told with its place.
code-tells : (a b : Bool) → first (11 if a ∷ 28 if b ∷ []) ≢ 0 → tells_place (first (11 if a ∷ 28 if b ∷ [])) ≡ true
unfolding first tells_place
code-tells true b h = refl
code-tells false true h = refl
code-tells false false h = absurd (h refl)

pub found-tells : (n k : ℕ) (track : Track) (trains : List TrainPlan) (routes : List ℕ)
    → (routes_fault n k track trains routes).code ≢ 0 → tells_place (routes_fault n k track trains routes).code ≡ true
unfolding routes_fault route_fault_at route_fault route_place_fault place_rows
found-tells n k track trains routes =
    first_each (λ r. tells_place r.code ≡ true) _ k λ i.
    first_each (λ r. tells_place r.code ≡ true) _ _ λ p. code-tells _ _

-- Of the codes in a table's rows that of the search alone is about a place.
abbrev SearchAlone : ℕ → ℕ → Type 0
SearchAlone searched c = tells_place c ≡ true → c ≡ searched

other : {searched c : ℕ} → tells_place c ≡ false → SearchAlone searched c
other e h = absurd (false≢true (sym e ∙ h))

placing_alone : (n k : ℕ) (track : Track) (way : ℕ → ℕ) (trains : List TrainPlan) (routes : List ℕ)
    → EachCode (SearchAlone (routes_fault n k track trains routes).code) (placing_rows n k track way trains routes)
unfolding EachCode placing_rows tells_place
placing_alone n k track way trains routes = (other refl, (λ _. refl, (other refl, (other refl, other refl))))

-- So what a table or a file with code 11 or 28 is refused by is what the search finds, its code too.
told : (r : Refusal) (rows : List Row) → EachCode (SearchAlone r.code) rows → tells_place (first rows) ≡ true
    → refusal_by (first rows) r ≡ r
told r rows alone h =
    let is = each_code (SearchAlone r.code) rows alone h in
    rw is (with_place_lem r (rw is at h))

pub table-told : (t : Table) → tells_place (table_code t) ≡ true → table_refusal t ≡ routes_fault_in t
unfolding EachCode table_refusal parts_refusal table_code parts_code head_rows network_rows tells_place
table-told t =
    let placed = placing_alone t.n t.k (track_of t) (way_of t) t.trains t.routes in
    told (routes_fault_in t) _
    (other refl, (other refl, (other refl, (other refl, (other refl, (other refl, (other refl, placed)))))))

pub file_told : (bytes : List ℕ) → tells_place (file_code bytes) ≡ true → file_refusal bytes ≡ routes_fault_in (decode bytes)
unfolding EachCode file_refusal file_code early_rows head_rows network_rows tells_place
file_told bytes =
    let t = decode bytes in
    let placed = placing_alone t.n t.k (track_of t) (way_of t) t.trains t.routes in
    told (routes_fault_in t) _
    (other refl, (other refl, (other refl, (other refl, (other refl, (other refl, (other refl, (other refl, (other refl, placed)))))))))

-- The routes of a table: what the search finds on train i's route, and the places that it looks at.
module _ (t : Table) where
  abbrev on_route_of : ℕ → Refusal
  on_route_of i = route_fault_at t.n (track_of t) t.trains t.routes i

  abbrev place_of : ℕ → ℕ → Refusal
  place_of i p = route_place_fault t.n (track_of t) t.routes i (train_plan_at t i).direction p

  on_route_lem : (i : ℕ) → FirstIn 1 (train_plan_at t i).length (place_of i) (on_route_of i)
  unfolding route_fault_at route_fault train_plan_at
  on_route_lem i = first_in_all (place_of i) (train_plan_at t i).length

  -- A route on which the search finds nothing has no place at fault.
  sound-places : (i p : ℕ) → RoutePlace t i p → (on_route_of i).code ≡ 0 → code_at t i p ≡ 0
  sound-places i p at e =
      elim (on_route_lem i) [
        | none z h ↦ h p at.place_low (omega arith)
        | found s l g here c h ↦ absurd (c (code_of here ∙ e))
      ]

  -- The first place at fault is that of the first route with one.
  first-place : (i : ℕ) (r : Refusal) → 1 ≤ i → i ≤ t.k → on_route_of i ≡ r → (on_route_of i).code ≢ 0
      → ((j : ℕ) → 1 ≤ j → j < i → (on_route_of j).code ≡ 0) → RoutesFault t r
  unfolding route_place_fault
  first-place i r low high is fault earlier =
      elim (on_route_lem i) [
        | none z h ↦ absurd (fault (code_of z))
        | found p l g here c h ↦
            let at : RoutePlace t i p = omega arith in
            let first : RoutesFault t (place_of i p) =
            record {
              none = (λ e. absurd (c e), λ all. all i p at);
              zeros = λ e. absurd (c e);
              place = λ _. at;
              fault = λ _. refl;
              before = λ j q there comes.
                  ⊎_elim
                  (λ before. sound-places j q there (earlier j there.train_low before))
                  (λ (same, before). rw same (h q there.place_low before))
                  comes;
            } in
            rw (here ∙ is) at first
      ]

  pub routes-fault : RoutesFault t (routes_fault_in t)
  unfolding routes_fault
  routes-fault =
      elim (first_in_all on_route_of t.k) [
        | none z h ↦
            let nowhere : (i p : ℕ) → RoutePlace t i p → code_at t i p ≡ 0 =
            λ i p at. sound-places i p at (h i at.train_low (omega arith)) in
            record {
              none = (λ _. nowhere, λ _. code_of z);
              zeros = λ _. z;
              place = λ fault. absurd (fault (code_of z));
              fault = λ fault. absurd (fault (code_of z));
              before = λ i p at _. nowhere i p at;
            }
        | found i l g here c h ↦ first-place i _ l (omega arith) here c h
      ]
