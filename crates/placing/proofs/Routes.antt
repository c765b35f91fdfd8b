-- What the conditions on routes say, in the words of the functions that test them.
use Rattle.std.proofs.Common.{ℕ, zero, suc, ◌+◌, ◌-◌, ◌*◌, ◌≤◌, ◌<◌, ◌≡◌, refl, sym, ◌∙◌, ◌≢◌, Bool, true, false, eqb, List, length, get_or, set, take, drop, replicate, length-take-le, get_or-take, get_or-drop, length-set, get_or-set_same, get_or-set_other, zero-add, arith, eq-eqb, ne_eqb, lt-ltb, le-ltb}
use Rattle.std.proofs.Math.Decide.{ℕ_discrete, dec_lt}
use Rattle.std.proofs.lemmas.Bool.{false≢true}
use Rattle.std.proofs.lemmas.List.FromFn.{get_or-enumerate_from}
use Rattle.std.specs.List.{enumerate_from}
use Rattle.std.proofs.lemmas.List.{get_or_past, length-replicate}
use Rattle.rules.proofs.Tests.{tests}
use Rattle.rules.proofs.Rows.{any_none, any_more, any_skip, any_found, none_found, nth_at, nth_past, replicate_at, route_index, route_before, route_past}
use Rattle.rules.proofs.RouteFault.{NoneFound, found_start, found_turn, found_here, found_done, first_same, found-tells}
use Rattle.rules.proofs.Refusals.{code_of, refused_nowhere, refused_there}
use Rattle.rules.specs.declared.TrainPlan.{TrainPlan}
use Rattle.rules.specs.Ends.{Refusal}
use Rattle.rules.specs.Rows.{outside, any_of, first}
use Rattle.rules.specs.Track.{no_train_plan, route_at, Track, runs_against, near_box, far_box, follows}
use Rattle.rules.specs.Placing.{without_place, route_shape_fault, place_rows, route_place_fault, route_fault, start_fault, start_against_at, shape_fault_at, route_fault_at, routes_fault, placing_rows, tells_place, refusal_by}

-- What code 10 says of the train with index i.
pub shape_at : (trains : List TrainPlan) (i : ℕ)
    → shape_fault_at trains (i + 1) ≡ route_shape_fault (get_or trains i no_train_plan).direction (get_or trains i no_train_plan).length
unfolding shape_fault_at
shape_at trains i = rw nth_at

-- More trains than there are places: train 17 has no plan, and reads as one with a route of length 0, which is at fault. So there
-- are no more where no shape is at fault.
module _ (k : ℕ) (trains : List TrainPlan) (sized : length trains ≡ 16) where
  pub many_trains : 16 < k → true ≡ any_of k (shape_fault_at trains)
  unfolding shape_fault_at route_shape_fault outside
  many_trains many =
      none_found k (shape_fault_at trains) 16 many (rw (nth_past trains 17 no_train_plan (omega arith)) (search tests))

  pub few_trains : any_of k (shape_fault_at trains) ≡ false → k ≤ 16
  few_trains e =
      elim (dec_lt 16 k) [
        | yes l ↦ absurd (false≢true (sym (many_trains l ∙ e)))
        | no l ↦ omega arith
      ]

-- A line has 64 places of the routes of trains 1 to 16, and no segment elsewhere.
pub route_outside : (routes : List ℕ) (i p : ℕ) → length routes ≡ 1024 → (1 ≤ i → i ≤ 16 → 1 ≤ p → p ≤ 64 → ⊥) → route_at routes i p ≡ 0
unfolding route_at
route_outside routes zero p e h = refl
route_outside routes (suc i) zero e h = refl
route_outside routes (suc i) (suc p) e h =
    elim (dec_lt p 64) [
      | no l ↦ rw (le-ltb p 64 (omega arith))
      | yes l ↦ elim (dec_lt i 16) [
        | yes k ↦ absurd (h (omega arith) (omega arith) (omega arith) (omega arith))
        | no k ↦ rw (lt-ltb p 64 l) (get_or_past routes _ 0 (omega arith))
      ]
    ]

-- Place p + 1 of a route, read from the part of the routes that it is.
pub route_read : (routes : List ℕ) (i a n p : ℕ) → 1 ≤ i → a ≡ 64 * (i - 1) → n ≤ 64 → p < n
    → get_or (take (a + n - a) (drop a routes)) p 0 ≡ route_at routes i (p + 1)
route_read routes i a n p low from high l =
    let size : a + n - a ≡ n = omega arith in
    rw (size, get_or-take n (drop a routes) p 0 l, get_or-drop a routes p 0)
    (sym (route_index routes i (p + 1) _ low (omega arith) (omega arith) (omega arith)))

-- The search along a route has found nothing at its first p places, and has the segment at the last of them in hand.
pub record Searched (n : ℕ) (track : Track) (routes : List ℕ) (i d r before p : ℕ) : Type 0 where
  pub yet : NoneFound r (route_place_fault n track routes i d) p
  pub last : before ≡ route_at routes i p

module _ (n : ℕ) (track : Track) (routes : List ℕ) (i d r : ℕ) where
  pub searched_start : Searched n track routes i d r 0 0
  searched_start = record { yet = found_start r _; last = sym (route_before routes i) }

  module _ (before p s : ℕ) (h : Searched n track routes i d r before p) (l : p < r) (here : s ≡ route_at routes i (p + 1)) where
    place_is : (code : ℕ) → code ≡ first (place_rows n track d (p + 1) before s)
        → record { code = code; train = i; place = p + 1 } ≡ route_place_fault n track routes i d (p + 1)
    unfolding route_place_fault
    place_is code e = let back : p + 1 - 1 ≡ p = omega arith in rw (back, ← h.last, ← here, e)

    searched_here : (code : ℕ) → code ≡ first (place_rows n track d (p + 1) before s) → code ≢ 0
        → record { code = code; train = i; place = p + 1 } ≡ route_fault n track routes i d r
    unfolding route_fault
    searched_here code e z = place_is code e ∙ found_here r _ p h.yet l (λ y. z (code_of (place_is code e) ∙ y))

    -- There is no such segment at the next place, or none that follows, or it is not at fault.
    pub searched_none : outside n s ≡ true → record { code = 11; train = i; place = p + 1 } ≡ route_fault n track routes i d r
    unfolding place_rows
    searched_none a = searched_here 11 (search tests) (λ z. absurd (omega arith))

    pub searched_jump : outside n s ≡ false → 0 < p → follows track d before s ≡ false
        → record { code = 28; train = i; place = p + 1 } ≡ route_fault n track routes i d r
    unfolding place_rows
    searched_jump a b c = let more : 1 < p + 1 = omega arith in searched_here 28 (search tests depth 12) (λ z. absurd (omega arith))

    pub searched_turn : outside n s ≡ false → (0 < p → follows track d before s ≡ true) → Searched n track routes i d r s (p + 1)
    unfolding place_rows first
    searched_turn a b =
        let sound : 0 ≡ first (place_rows n track d (p + 1) before s) =
        elim (dec_lt 0 p) [
          | yes k ↦ let c = b k in search tests depth 12
          | no k ↦ let c : p + 1 ≤ 1 = omega arith in search tests depth 12
        ] in
        record { yet = found_turn r _ p h.yet l (sym (code_of (place_is 0 sound))); last = here }

  -- There is no segment at the next place.
  pub searched_nothing : (before p : ℕ) → Searched n track routes i d r before p → p < r → route_at routes i (p + 1) ≡ 0
      → record { code = 11; train = i; place = p + 1 } ≡ route_fault n track routes i d r
  unfolding outside
  searched_nothing before p h l e = searched_none before p 0 h l (sym e) refl

  pub searched_done : (before p : ℕ) → Searched n track routes i d r before p → r ≤ p → without_place 0 ≡ route_fault n track routes i d r
  unfolding route_fault
  searched_done before p h l = found_done r _ p h.yet l

-- What the search answers at its ends.
pub ruleset search_ends = (route_past, route_read, searched_none, searched_nothing, searched_done)

-- Codes 11 and 28 in a direction are those in direction 0 on the track with the near ends for A ends and the far ends for B ends.
abbrev turned : Track → Track
turned track = record { end_a = track.end_b; end_b = track.end_a }

module _ (n : ℕ) (track : Track) (routes : List ℕ) (i d r : ℕ) where
  place_back : (d ≡ 0 → ⊥) → (p : ℕ) → route_place_fault n (turned track) routes i 0 p ≡ route_place_fault n track routes i d p
  unfolding route_place_fault place_rows follows far_box near_box
  place_back e p = rw (ne_eqb d 0 e)

  pub route_back : (d ≡ 0 → ⊥) → route_fault n (turned track) routes i 0 r ≡ route_fault n track routes i d r
  unfolding route_fault
  route_back e = first_same _ _ r λ p l h. place_back e p

-- The search through the routes of all trains: x is why the route of the train with index i, by its plan p, is refused.
module _ (n : ℕ) (track : Track) (trains : List TrainPlan) (routes : List ℕ) (k i : ℕ) (p : TrainPlan) (x : Refusal)
    (yet : NoneFound k (route_fault_at n track trains routes) i) (l : i < k) (at : p ≡ get_or trains i no_train_plan)
    (e : x ≡ route_fault n track routes (i + 1) p.direction p.length) where
  route_answer : x ≡ route_fault_at n track trains routes (i + 1)
  unfolding route_fault_at
  route_answer = rw (nth_at, ← at) e

  pub routes_turn : x.code ≡ 0 → NoneFound k (route_fault_at n track trains routes) (i + 1)
  routes_turn z = found_turn k _ i yet l (code_of (sym route_answer) ∙ z)

  pub routes_here : x.code ≢ 0 → x ≡ routes_fault n k track trains routes
  unfolding routes_fault
  routes_here z = route_answer ∙ found_here k _ i yet l (λ y. z (code_of route_answer ∙ y))

pub routes_done : (n : ℕ) (track : Track) (trains : List TrainPlan) (routes : List ℕ) (k i : ℕ)
    → NoneFound k (route_fault_at n track trains routes) i → k ≤ i → without_place 0 ≡ routes_fault n k track trains routes
unfolding routes_fault
routes_done n track trains routes k i yet l = found_done k _ i yet l

-- Code 12: a search through trains that has found nothing before this number, and has marked the segments with which they begin.
pub record Begun (routes : List ℕ) (number : ℕ) (begun : List Bool) : Type 0 where
  pub none : any_of (number - 1) (start_fault routes) ≡ false
  pub size : length begun ≡ 256
  pub marked : (s : ℕ) → get_or begun s false ≡ any_of (number - 1) (λ j. eqb s (route_at routes j 1))

pub begun_start : (routes : List ℕ) → Begun routes 1 (replicate 256 false)
begun_start routes =
    record {
      none = any_none _;
      size = length-replicate 256 false;
      marked = λ s. replicate_at 256 s false ∙ sym (any_none _);
    }

-- The train with this number begins with segment x.
module _ (routes : List ℕ) (number x : ℕ) (begun : List Bool) (h : Begun routes number begun) (low : 1 ≤ number)
    (first : x ≡ route_at routes number 1) where
  here : number - 1 + 1 ≡ number
  here = omega arith

  next : number + 1 - 1 ≡ number - 1 + 1
  next = omega arith

  -- It is marked exactly where code 12 has the train.
  begun_here : get_or begun x false ≡ start_fault routes number
  unfolding start_fault
  begun_here = rw (← first) (h.marked x)

  pub begun_found : (k : ℕ) → number ≤ k → get_or begun x false ≡ true → true ≡ any_of k (start_fault routes)
  begun_found k l e = none_found k _ (number - 1) (omega arith) (rw here (sym begun_here ∙ e))

  pub begun_turn : x < 256 → get_or begun x false ≡ false → Begun routes (number + 1) (set begun x true)
  begun_turn small e =
      record {
        none = rw next (any_more _ (number - 1) h.none (rw here (sym begun_here ∙ e)));
        size = length-set begun x true ∙ h.size;
        marked =
            λ s.
            elim (ℕ_discrete s x) [
              | yes z ↦
                  rw (z, next)
                  (get_or-set_same begun x true false (rw h.size small)
                  ∙ sym (any_found _ _ (number - 1) (omega arith) (rw here (eq-eqb _ _ first))))
              | no z ↦
                  rw next
                  (get_or-set_other begun x s true false z
                  ∙ h.marked s
                  ∙ sym (any_skip _ (number - 1) (rw here (ne_eqb _ _ (λ y. z (y ∙ sym first))))))
            ];
      }

pub begun_done : (routes : List ℕ) (k number : ℕ) (begun : List Bool) → Begun routes number begun → k < number → (1 ≤ k → number ≤ k + 1)
    → false ≡ any_of k (start_fault routes)
begun_done routes zero number begun h past last = sym (any_none _)
begun_done routes (suc k) number begun h past last =
    let low : 1 ≤ suc k = omega arith in
    let all : number - 1 ≡ suc k = omega (arith, last low) in
    sym (rw all at h.none)

-- What code 32 says of the train with this index and this plan, and of the train with index i among the first n.
abbrev pub starts_against : (ℕ → ℕ) → List ℕ → ℕ × TrainPlan → Bool
starts_against way routes (i, p) = runs_against p.direction (way (route_at routes (i + 1) 1))

pub against_at : (way : ℕ → ℕ) (trains : List TrainPlan) (routes : List ℕ) (n i : ℕ) → n ≤ length trains → i < n
    → starts_against way routes (get_or (enumerate_from 0 (take n trains)) i (0, no_train_plan))
    ≡ start_against_at way trains routes (i + 1)
unfolding start_against_at
against_at way trains routes n i h l =
    let within : i < length (take n trains) = omega (arith, length-take-le n trains h) in
    rw (get_or-enumerate_from 0 (take n trains) i (0, no_train_plan) within, get_or-take n trains i no_train_plan l, nth_at, zero-add)

-- Why a table with these trains is refused, by the tests that led there; x is why a route is.
module _ (n k : ℕ) (track : Track) (way : ℕ → ℕ) (trains : List TrainPlan) (routes : List ℕ) where
  abbrev RefusedBy : Refusal → Type 0
  RefusedBy x = x ≡ refusal_by (first (placing_rows n k track way trains routes)) (routes_fault n k track trains routes)

  pub refused_10 : any_of k (shape_fault_at trains) ≡ true → RefusedBy (without_place 10)
  unfolding placing_rows tells_place
  refused_10 shape = refused_nowhere _ _ _ 10 refl refl (search tests)

  module _ (x : Refusal) (e : x ≡ routes_fault n k track trains routes) (shape : any_of k (shape_fault_at trains) ≡ false) where
    pub refused_found : x.code ≢ 0 → RefusedBy x
    unfolding placing_rows
    refused_found some =
        let fault = routes_fault n k track trains routes in
        let other : fault.code ≢ 0 = λ z. some (code_of e ∙ z) in
        refused_there _ fault x e (found-tells n k track trains routes other) (search tests)

    module _ (none : x.code ≡ 0) where
      sound : (routes_fault n k track trains routes).code ≡ 0
      sound = sym (code_of e) ∙ none

      pub refused_12 : any_of k (start_fault routes) ≡ true → RefusedBy (without_place 12)
      unfolding placing_rows tells_place
      refused_12 start = refused_nowhere _ _ _ 12 refl refl (rw sound (search tests))

      module _ (start : any_of k (start_fault routes) ≡ false) where
        pub refused_32 : any_of k (start_against_at way trains routes) ≡ true → RefusedBy (without_place 32)
        unfolding placing_rows tells_place
        refused_32 against = refused_nowhere _ _ _ 32 refl refl (rw sound (search tests))

        pub refused_0 : any_of k (start_against_at way trains routes) ≡ false → RefusedBy (without_place 0)
        unfolding placing_rows tells_place first
        refused_0 along = refused_nowhere _ _ _ 0 refl refl (rw sound (search tests))

pub ruleset refusals = (few_trains, refused_10, refused_found, refused_12, refused_32, refused_0)
