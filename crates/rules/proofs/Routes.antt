-- On a track without a loop a route passes each segment and each box once.
use Prim.Native.Nat.{ℕ, zero, suc, ◌+◌, ◌-◌, ◌≤◌, ◌<◌}
use mathlib.Core.Path.{◌≡◌, sym, ◌∙◌, ap}
use mathlib.Core.Logic.{⊎_elim, ◌≢◌}
use mathlib.Core.Bool.{true}
use mathlib.Core.List.{List, [], ◌∷◌}
use native.Mathlib.Omega.{arith}
use Rattle.rules.specs.Track.{route_at, Track, near_box, far_box, follows}
use Rattle.rules.specs.Loop.{SegmentOf, Chain, single, more, Loop}
use Rattle.rules.proofs.Rows.{once}
use Rattle.rules.proofs.Loop.{follows_iff}
use Rattle.rules.proofs.Accepted.{Routed, EndAt, back, far_back, near_back, either_end}

-- Segments g 0 .. g k, each following the one before in direction 0, are a chain.
chain_of : (n : ℕ) (track : Track) (g : ℕ → ℕ) (k : ℕ) → ((j : ℕ) → j ≤ k → SegmentOf n (g j))
    → ((j : ℕ) → j < k → follows track 0 (g j) (g (suc j)) ≡ true) → (l : List ℕ) × Chain n track (g 0) l (g k)
chain_of n track g zero s f = (g 0 ∷ [], single (s 0 (omega arith)))
chain_of n track g (suc k) s f =
    let (l, c) = chain_of n track (λ j. g (suc j)) k (λ j h. s (suc j) (omega arith)) (λ j h. f (suc j) (omega arith)) in
    (g 0 ∷ l, more (s 0 (omega arith)) (f 0 (omega arith)) c)

-- What follows in one direction is followed in the other.
follows_back : (track : Track) (d s x : ℕ) → follows track d s x ≡ true → follows track (back d) x s ≡ true
follows_back track d s x f = (follows_iff track (back d) x s).1 (cc (near_back track d x, far_back track d s, (follows_iff track d s x).0 f))

-- Without a loop, such segments do not come back to the box that they begin at.
no_return_forth : (n : ℕ) (track : Track) → ¬ Loop n track → (g : ℕ → ℕ) (k : ℕ) → ((j : ℕ) → j ≤ k → SegmentOf n (g j))
    → ((j : ℕ) → j < k → follows track 0 (g j) (g (suc j)) ≡ true) → near_box track 0 (g 0) ≢ far_box track 0 (g k)
no_return_forth n track none g k s f e =
    let (l, c) = chain_of n track g k s f in
    none (record { first = g 0; segments = l; last = g k; chain = c; closed = (follows_iff track 0 (g k) (g 0)).1 (sym e) })

-- Nor do segments of either direction: those of direction 1 are taken from the last to the first.
no_return : (n : ℕ) (track : Track) → ¬ Loop n track → (d : ℕ) (g : ℕ → ℕ) (k : ℕ) → ((j : ℕ) → j ≤ k → SegmentOf n (g j))
    → ((j : ℕ) → j < k → follows track d (g j) (g (suc j)) ≡ true) → near_box track d (g 0) ≢ far_box track d (g k)
no_return n track none zero g k s f e = no_return_forth n track none g k s f e
no_return n track none (suc d) g k s f e =
    let first : k - 0 ≡ k = omega arith in
    let last : k - k ≡ 0 = omega arith in
    no_return_forth n track none (λ j. g (k - j)) k (λ j h. s (k - j) (omega arith))
    (λ j h.
    let next : suc (k - suc j) ≡ k - j = omega arith in
    rw next at (follows_back track (suc d) _ _ (f (k - suc j) (omega arith))))
    (rw (first, last) (cc (far_back track (suc d) (g k), near_back track (suc d) (g 0))))

-- The box between one place of a route and the next.
pub between : {n : ℕ} {track : Track} {routes : List ℕ} {i d r : ℕ} → Routed n track routes i d r → (p : ℕ) → 1 ≤ p → p < r
    → far_box track d (route_at routes i p) ≡ near_box track d (route_at routes i (p + 1))
between {track} {d} h p low high = (follows_iff track d _ _).0 (h.next p low high)

-- A train's route, of direction d and length r, on a track without a loop.
module _ {n : ℕ} {track : Track} (no_loop : ¬ Loop n track) {routes : List ℕ} {i d r : ℕ} (route : Routed n track routes i d r) where
  -- No box that lies before a place comes after it, or after a later one.
  pub no_way_back : (p q : ℕ) → 1 ≤ p → p ≤ q → q ≤ r
      → near_box track d (route_at routes i p) ≢ far_box track d (route_at routes i q)
  no_way_back p q l h m =
      let first : p + 0 ≡ p = omega arith in
      let last : p + (q - p) ≡ q = omega arith in
      rw (first, last) at
      (no_return n track no_loop d (λ j. route_at routes i (p + j)) (q - p) (λ j g. route.segment (p + j) (omega arith) (omega arith))
      (λ j g.
      let next : p + j + 1 ≡ p + suc j = omega arith in
      rw next at (route.next (p + j) (omega arith) (omega arith))))

  -- Each place has a box of its own at its far end, one at its near end, and a segment of its own.
  pub far_once : (p q : ℕ) → 1 ≤ p → p ≤ r → 1 ≤ q → q ≤ r
      → far_box track d (route_at routes i p) ≡ far_box track d (route_at routes i q) → p ≡ q
  far_once = once (λ p. far_box track d (route_at routes i p)) r
      (λ p q l h m e. no_way_back (p + 1) q (omega arith) (omega arith) m (sym (between route p l (omega arith)) ∙ e))

  pub near_once : (p q : ℕ) → 1 ≤ p → p ≤ r → 1 ≤ q → q ≤ r
      → near_box track d (route_at routes i p) ≡ near_box track d (route_at routes i q) → p ≡ q
  near_once = once (λ p. near_box track d (route_at routes i p)) r (λ p q l h m e.
      let before : q - 1 + 1 ≡ q = omega arith in
      no_way_back p (q - 1) l (omega arith) (omega arith) (e ∙ sym (rw before at (between route (q - 1) (omega arith) (omega arith)))))

  pub segment_once : (p q : ℕ) → 1 ≤ p → p ≤ r → 1 ≤ q → q ≤ r → route_at routes i p ≡ route_at routes i q → p ≡ q
  segment_once p q a b c h e = far_once p q a b c h (ap (far_box track d) e)

  -- The box behind a place is no end of a segment further on.
  pub behind_no_end : (p q : ℕ) → 1 ≤ p → p < q → q ≤ r → ¬ EndAt track (route_at routes i q) (near_box track d (route_at routes i p))
  behind_no_end p q l h m end =
      ⊎_elim
      (λ e. absurd (omega (arith, near_once p q l (omega arith) (omega arith) m (sym (e ∙ end.there)))))
      (λ e. no_way_back p q l (omega arith) m (sym (e ∙ end.there)))
      (either_end track _ d end.direction)
