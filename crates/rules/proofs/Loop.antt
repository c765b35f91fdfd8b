-- Code 9: the test `has_loop` says yes exactly where a loop exists.
-- Yes gives a loop: a segment that the last of n rounds keeps can be walked back from, n times. Each step back comes to a
-- segment already passed, which closes a loop, or to one of the others, and these are fewer than n.
-- A loop gives yes: each of its segments follows one of them, so that no round drops any.
use Prim.Native.Nat.{ℕ, zero, suc, ◌+◌, ◌≤◌, ◌<◌}
use mathlib.Core.Path.{◌≡◌, refl, sym, ◌∙◌, ap}
use mathlib.Core.Logic.Iff
use mathlib.Core.Logic.{◌⊎◌, inl, inr, ⊎_map, ◌↔◌}
use mathlib.Core.Bool.{Bool, true, false, cond, not, false≢true}
use mathlib.Core.List.Memᴰ
use mathlib.Core.List.{List, [], ◌∷◌, Memᴰ}
use native.Mathlib.Decide.{ℕ_discrete}
use native.Mathlib.Omega.{arith}
use lib.ListN.{length}
use Rattle.rules.specs.Rows.{list_of, list_from}
use Rattle.rules.specs.Track.{Track, far_box, near_box, follows}
use Rattle.rules.specs.Loop.{SegmentOf, Chain, single, more, Loop, any_before, following, chain_ends, is_empty, has_loop}
use Rattle.rules.proofs.Tests.{or_right, not_passed, or-true_iff, eqb-true_iff}
use Rattle.rules.proofs.Rows.{from-length}

infix 60 ◌∈◌
abbrev ◌∈◌ : ℕ → List ℕ → Type 0
x ∈ l = Memᴰ x l

-- What is left of a list without its member x: one number less, and every other number of it.
record Rest (x : ℕ) (l : List ℕ) : Type 0 where
  rest : List ℕ
  shorter : length l ≡ suc (length rest)
  others : (y : ℕ) → y ∈ l → (y ≡ x) ⊎ (y ∈ rest)

other_head : {x z y : ℕ} {l : List ℕ} → x ≡ z → y ∈ (z ∷ l) → (y ≡ x) ⊎ (y ∈ l)
other_head e (Memᴰ.head f) = inl (f ∙ sym e)
other_head e (Memᴰ.tail m) = inr m

other_tail : {x z y : ℕ} {l r : List ℕ} → (y ∈ l → (y ≡ x) ⊎ (y ∈ r)) → y ∈ (z ∷ l) → (y ≡ x) ⊎ (y ∈ (z ∷ r))
other_tail below (Memᴰ.head f) = inr (Memᴰ.head f)
other_tail below (Memᴰ.tail m) = ⊎_map (λ e. e) Memᴰ.tail (below m)

without : {x : ℕ} {l : List ℕ} → x ∈ l → Rest x l
without (Memᴰ.head {xs = l} e) = record { rest = l; shorter = refl; others = λ y. other_head e }
without (Memᴰ.tail {x = z} m) =
    let r = without m in
    record { rest = z ∷ r.rest; shorter = ap suc r.shorter; others = λ y. other_tail (r.others y) }

-- A number that is in one of two lists still is, after a member of the second is moved to the first.
move : {p s : ℕ} {l free : List ℕ} (w : Rest p free) → (s ∈ l) ⊎ (s ∈ free) → (s ∈ (p ∷ l)) ⊎ (s ∈ w.rest)
move w (inl m) = inl (Memᴰ.tail m)
move {s} w (inr m) = ⊎_map Memᴰ.head (λ k. k) (w.others s m)

-- A list that is not empty has a member, and a list with a member is not empty.
member : (l : List ℕ) → not (is_empty l) ≡ true → (s : ℕ) × (s ∈ l)
unfolding is_empty
member [] e = absurd (false≢true e)
member (s ∷ l) e = (s, Memᴰ.head refl)

has_member : (l : List ℕ) {s : ℕ} → s ∈ l → not (is_empty l) ≡ true
unfolding is_empty
has_member l (Memᴰ.head e) = refl
has_member l (Memᴰ.tail m) = refl

-- The members of the list of i, i + 1 and so on, n of them, are the numbers from i up to below i + n.
from_has : (n i s : ℕ) → i ≤ s → s < i + n → s ∈ list_from i n (λ s. s)
unfolding list_from
from_has zero i s l h = absurd (omega arith)
from_has (suc n) i s l h =
    elim (ℕ_discrete s i) [
      | yes e ↦ Memᴰ.head e
      | no e ↦ Memᴰ.tail (from_has n (suc i) s (omega arith) (omega arith))
    ]

has_from : (n i s : ℕ) → s ∈ list_from i n (λ s. s) → (i ≤ s) × (s < i + n)
unfolding list_from
has_from zero i s m = absurd (Memᴰ.not-nil m)
has_from (suc n) i s (Memᴰ.head e) = omega arith
has_from (suc n) i s (Memᴰ.tail m) = let h = has_from n (suc i) s m in omega arith

-- A list whose first number stands there only if a test is passed: what it has, and what it has in any case.
kept : (b : Bool) {x s : ℕ} {l : List ℕ} → x ∈ cond b (s ∷ l) l → ((x ≡ s) × (b ≡ true)) ⊎ (x ∈ l)
kept true (Memᴰ.head e) = inl (e, refl)
kept true (Memᴰ.tail m) = inr m
kept false m = inr m

keep-tail : (b : Bool) (s : ℕ) {x : ℕ} {l : List ℕ} → x ∈ l → x ∈ cond b (s ∷ l) l
keep-tail true s m = Memᴰ.tail m
keep-tail false s m = m

module _ (track : Track) where
  -- One segment follows another: the far end of one and the near end of the other are at one box; in direction 0, the B end of
  -- one and the A end of the other.
  pub follows_iff : (d s x : ℕ) → (follows track d s x ≡ true) ↔ (far_box track d s ≡ near_box track d x)
  unfolding follows
  follows_iff d s x = eqb-true_iff (far_box track d s) (near_box track d x)

  follows-box : (s x : ℕ) → follows track 0 s x ≡ true → track.end_b s ≡ track.end_a x
  unfolding far_box near_box
  follows-box s x = (follows_iff 0 s x).0

  pub box_follows : (s x : ℕ) → track.end_b s ≡ track.end_a x → follows track 0 s x ≡ true
  unfolding far_box near_box
  box_follows s x = (follows_iff 0 s x).1

module _ (n : ℕ) (track : Track) where
  -- A segment of a list that comes before x.
  record Before (l : List ℕ) (x : ℕ) : Type 0 where
    segment : ℕ
    listed : segment ∈ l
    before : follows track 0 segment x ≡ true

  -- It is also in any list that has all segments of the first.
  among : {x : ℕ} {l k : List ℕ} → ((s : ℕ) → s ∈ l → s ∈ k) → Before l x → Before k x
  among within b = record { segment = b.segment; listed = within b.segment b.listed; before = b.before }

  -- The test `any_before` finds it exactly where there is one.
  any_before_lem : (l : List ℕ) (x : ℕ) → any_before track l x ≡ true → Before l x
  unfolding any_before
  any_before_lem [] x e = absurd (false≢true e)
  any_before_lem (s ∷ l) x e =
      elim ((or-true_iff (follows track 0 s x) (any_before track l x) Iff.rfl Iff.rfl).0 e) [
        | inl f ↦ record { segment = s; listed = Memᴰ.head refl; before = f }
        | inr a ↦ among (λ s. Memᴰ.tail) (any_before_lem l x a)
      ]

  before_any : {s : ℕ} {l : List ℕ} (x : ℕ) → s ∈ l → follows track 0 s x ≡ true → any_before track l x ≡ true
  unfolding any_before
  before_any x (Memᴰ.head e) f = rw (← e, f)
  before_any x (Memᴰ.tail {x = y} m) f = or_right (follows track 0 y x) _ (before_any x m f)

  -- One round keeps exactly the segments of l that come after one of b.
  following_has : (b : List ℕ) {x : ℕ} {l : List ℕ} → x ∈ l → Before b x → x ∈ following track b l
  unfolding following
  following_has b {x} (Memᴰ.head e) f = rw (← e, before_any x f.listed f.before) (Memᴰ.head refl)
  following_has b (Memᴰ.tail {x = s} m) f = keep-tail (any_before track b s) s (following_has b m f)

  has_following : (b l : List ℕ) (x : ℕ) → x ∈ following track b l → (x ∈ l) × Before b x
  unfolding following
  has_following b [] x m = absurd (Memᴰ.not-nil m)
  has_following b (s ∷ l) x m =
      elim (kept (any_before track b s) m) [
        | inl p ↦ (Memᴰ.head p.0, rw p.0 (any_before_lem b s p.1))
        | inr n ↦
            let r = has_following b l x n in
            (Memᴰ.tail r.0, r.1)
      ]

  -- Every round keeps only segments 1 to n, and before the first round all of them are there.
  ends_segment : (r s : ℕ) → s ∈ chain_ends n track r → SegmentOf n s
  unfolding chain_ends list_of
  ends_segment zero s m = let h = has_from n 1 s m in record { low = h.0; high = omega arith }
  ends_segment (suc r) s m = ends_segment r s (has_following _ _ s m).0

  pub segment_ends : (s : ℕ) → SegmentOf n s → s ∈ chain_ends n track zero
  unfolding chain_ends list_of
  segment_ends s h = from_has n 1 s h.low (omega arith)

  -- The part of a chain up to one of its segments.
  up_to : {s z p : ℕ} {l : List ℕ} → Chain n track s l z → p ∈ l → (k : List ℕ) × Chain n track s k p
  up_to (single {s = s} h) m = (s ∷ [], rw (Memᴰ.eq_of_singleton m) (single h))
  up_to (more {s = s} h f c) (Memᴰ.head e) = (s ∷ [], rw e (single h))
  up_to (more {s = s} h f c) (Memᴰ.tail m) = let r = up_to c m in (s ∷ r.0, more h f r.1)

  -- A loop is found by walking back from the first segment x of a chain, if r rounds keep x and the segments that the chain
  -- does not pass are fewer than r.
  walk_back : (r : ℕ) (free : List ℕ) {x z : ℕ} {l : List ℕ} → Chain n track x l z
      → ((s : ℕ) → SegmentOf n s → (s ∈ l) ⊎ (s ∈ free)) → length free < r → x ∈ chain_ends n track r → Loop n track
  unfolding chain_ends
  walk_back zero free c all h m = absurd (omega arith)
  walk_back (suc r) free {x} c all h m =
      let b = (has_following _ _ x m).1 in
      let s = ends_segment r b.segment b.listed in
      elim (all b.segment s) [
        | inl k ↦
            let u = up_to c k in
            record { first = x; segments = u.0; last = b.segment; chain = u.1; closed = b.before }
        | inr k ↦
            let w = without k in
            walk_back r w.rest (more s b.before c) (λ y g. move w (all y g)) (omega (arith, w.shorter)) b.listed
      ]

  -- Where the test says yes, there is a loop.
  loop_found : has_loop n track ≡ true → Loop n track
  unfolding has_loop chain_ends list_of
  loop_found e =
      let (s, m) = member _ e in
      let h = ends_segment n s m in
      let w = without (segment_ends s h) in
      let fewer : length w.rest < n = omega (arith, w.shorter, from-length (λ s. s) n 1) in
      walk_back n w.rest (single h) (λ y g. move w (inr (segment_ends y g))) fewer m

  -- Each segment of a chain is one of the n, and is the chain's first or comes after one of the chain. The chain's last
  -- is among them. So each segment of a loop comes after one of the loop.
  chain_segment : {s z x : ℕ} {l : List ℕ} → Chain n track s l z → x ∈ l → SegmentOf n x
  chain_segment (single h) m = rw (Memᴰ.eq_of_singleton m) h
  chain_segment (more h f c) (Memᴰ.head e) = rw e h
  chain_segment (more h f c) (Memᴰ.tail m) = chain_segment c m

  chain-before : {s z x : ℕ} {l : List ℕ} → Chain n track s l z → x ∈ l → (x ≡ s) ⊎ Before l x
  chain-before (single h) m = inl (Memᴰ.eq_of_singleton m)
  chain-before (more h f c) (Memᴰ.head e) = inl e
  chain-before (more {s = s} h f c) (Memᴰ.tail m) =
      elim (chain-before c m) [
        | inl e ↦ inr (record { segment = s; listed = Memᴰ.head refl; before = rw e f })
        | inr b ↦ inr (among (λ s. Memᴰ.tail) b)
      ]

  chain-last : {s z : ℕ} {l : List ℕ} → Chain n track s l z → z ∈ l
  chain-last (single h) = Memᴰ.head refl
  chain-last (more h f c) = Memᴰ.tail (chain-last c)

  loop_before : (c : Loop n track) {x : ℕ} → x ∈ c.segments → Before c.segments x
  loop_before c m =
      elim (chain-before c.chain m) [
        | inl e ↦ record { segment = c.last; listed = chain-last c.chain; before = rw e c.closed }
        | inr b ↦ b
      ]

  -- Every round keeps the segments of a loop.
  loop_ends : (c : Loop n track) (r : ℕ) {x : ℕ} → x ∈ c.segments → x ∈ chain_ends n track r
  unfolding chain_ends
  loop_ends c zero {x} m = segment_ends x (chain_segment c.chain m)
  loop_ends c (suc r) m =
      following_has _ (loop_ends c r m) (among (λ s. loop_ends c r) (loop_before c m))

  -- Where there is a loop, the test says yes.
  found_loop : Loop n track → has_loop n track ≡ true
  unfolding has_loop
  found_loop c = has_member _ (loop_ends c n (chain-last c.chain))

  -- The loop law: the test says yes exactly where a loop exists.
  pub loop_law : (has_loop n track ≡ true) ↔ Loop n track
  loop_law = (loop_found, found_loop)

  -- It says no exactly where none exists.
  pub no_loop_iff : (has_loop n track ≡ false) ↔ (¬ Loop n track)
  no_loop_iff = (λ e c. false≢true (sym e ∙ found_loop c), λ h. not_passed (has_loop n track) (λ e. h (loop_found e)))

  -- A segment that follows the end of a chain of r + 1 segments ends a chain of one more; the test says yes to one of n + 1.
  pub ends_more : (r s x : ℕ) → s ∈ chain_ends n track r → SegmentOf n x → follows track 0 s x ≡ true → x ∈ chain_ends n track (suc r)
  unfolding chain_ends
  ends_more zero s x m h f = following_has _ (segment_ends x h) (record { segment = s; listed = m; before = f })
  ends_more (suc r) s x m h f =
      let k = ends_more r s x (has_following _ _ s m).0 h f in
      following_has _ k (record { segment = s; listed = m; before = f })

  pub ends_loop : (s : ℕ) → s ∈ chain_ends n track n → has_loop n track ≡ true
  unfolding has_loop
  ends_loop s m = has_member _ m

  -- Where boxes have ranks that rise along every segment, they rise along every chain, and there is no loop.
  module _ (rank : ℕ → ℕ) (rises : (s : ℕ) → SegmentOf n s → rank (track.end_a s) < rank (track.end_b s)) where
    chain_rises : {s z : ℕ} {l : List ℕ} → Chain n track s l z → rank (track.end_a s) < rank (track.end_b z)
    chain_rises (single {s = s} h) = rises s h
    chain_rises (more {s = s} {x = x} h f c) =
        omega (arith, rises s h, ap rank (follows-box track s x f), chain_rises c)

    pub rising_no_loop : has_loop n track ≡ false
    rising_no_loop =
        no_loop_iff.1 (λ c.
        omega (arith, chain_rises c.chain, ap rank (follows-box track c.last c.first c.closed)))

-- Two tracks on which n segments follow each other alike: a loop of one is a loop of the other.
module _ (n : ℕ) (track other : Track) (alike : (s x : ℕ) → SegmentOf n s → SegmentOf n x → follows other 0 s x ≡ follows track 0 s x) where
  chain_alike : {s w : ℕ} {l : List ℕ} → Chain n other s l w → Chain n track s l w × SegmentOf n s × SegmentOf n w
  chain_alike (single h) = (single h, h, h)
  chain_alike (more {s = s} {x = x} h f c) =
      let (d, first, last) = chain_alike c in
      (more h (rw (alike s x h first) at f) d, h, last)

  loop_alike : Loop n other → Loop n track
  loop_alike c =
      let (chain, first, last) = chain_alike c.chain in
      record {
        first = c.first;
        segments = c.segments;
        last = c.last;
        chain = chain;
        closed = rw (alike c.last c.first last first) at c.closed;
      }

-- So the test says the same of both.
pub loop_same : (n : ℕ) (track other : Track) → ((s x : ℕ) → SegmentOf n s → SegmentOf n x → follows other 0 s x ≡ follows track 0 s x)
    → has_loop n other ≡ has_loop n track
loop_same n track other alike =
    true_alike _ _
    (λ e. found_loop n track (loop_alike n track other alike (loop_found n other e)))
    (λ e. found_loop n other (loop_alike n other track (λ s x h k. sym (alike s x h k)) (loop_found n track e)))
  where
    true_alike : (a b : Bool) → (a ≡ true → b ≡ true) → (b ≡ true → a ≡ true) → a ≡ b
    true_alike true b h k = sym (h refl)
    true_alike false true h k = k refl
    true_alike false false h k = refl
