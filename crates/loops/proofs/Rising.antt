-- Laws of ranks of boxes: a pass that raises them along the segments, and what its end says of loops.
use Rattle.std.proofs.Common.{◌≡◌, ℕ, zero, suc, ◌+◌, ◌-◌, ◌<◌, ◌≤◌, true, false, List, get_or, set, replicate, sum, sym, ◌∙◌, arith, length-set}
use Rattle.std.proofs.Math.Decide.{ℕ_discrete}
use Rattle.std.proofs.lemmas.List.{length-replicate}
use Rattle.std.proofs.lemmas.List.Elements.{All-from_get_or}
use Rattle.std.proofs.lemmas.List.Sums.{sum_by-set, sum_by-le}
use mathlib.Core.List.{Memᴰ}
use Rattle.rules.specs.Track.{Track}
use Rattle.rules.specs.Loop.{SegmentOf, chain_ends, has_loop}
use Rattle.rules.proofs.Frames.{set_either}
use Rattle.rules.proofs.Loop.{segment_ends, box_follows, ends_more, ends_loop, rising_no_loop}
use Rattle.loops.specs.Ranks.{Low, ChainTo, Reached, told, Ended}
use Rattle.loops.specs.declared.Pass.{Pass}
use Rattle.loops.specs.declared.Pass.TheVariants.{Rising, Raised, TooHigh}

-- Ranks that are all 96, and ranks after a store of one that is at most 96, are at most 96; such ranks ask for no chain.
same_at : (k n x : ℕ) → get_or (replicate n k) x 0 ≤ k
same_at k zero x = omega arith
same_at k (suc n) zero = omega arith
same_at k (suc n) (suc x) = same_at k n x

pub low_start : Low (replicate 256 96)
low_start = record { size = length-replicate {A = ℕ} 256 96; low = same_at 96 256 }

pub low_set : (l : List ℕ) (i v k : ℕ) → Low l → v < k → k ≤ 96 → Low (set l i v)
low_set l i v k h u w =
    record {
      size = length-set l i v ∙ h.size;
      low = λ x. set_either (λ y. y ≤ 96) l i x v 0 (λ e. omega arith) (h.low x);
    }

pub low_reached : (n : ℕ) (track : Track) (l : List ℕ) → Low l → Reached n track l
low_reached n track l h =
    record {
      size = h.size;
      bounded = λ x. omega (arith, h.low x);
      chained = λ x r e. absurd (omega (arith, h.low x));
    }

module _ (n : ℕ) (track : Track) where
  -- A segment whose A end has the rank 96 + r ends a chain of r + 1 segments.
  reach : (l : List ℕ) (s r : ℕ) → Reached n track l → SegmentOf n s → get_or l (track.end_a s) 0 ≡ 96 + r → Memᴰ s (chain_ends n track r)
  reach l s zero h k e = segment_ends n track s k
  reach l s (suc r) h k e =
      let c = h.chained (track.end_a s) r (omega arith) in
      ends_more n track r c.last s c.listed k (box_follows track c.last s c.there)

  -- What holds of raised ranks still does where the rank at the B end of a segment is set above the one at its A end.
  reached_raised : (l : List ℕ) (s : ℕ) → Reached n track l → SegmentOf n s → get_or l (track.end_a s) 0 < n + 96
      → Reached n track (set l (track.end_b s) (get_or l (track.end_a s) 0 + 1))
  reached_raised l s h k u =
      let v = get_or l (track.end_a s) 0 + 1 in
      record {
        size = length-set l (track.end_b s) v ∙ h.size;
        bounded = λ x. set_either (λ y. y ≤ n + 96) l (track.end_b s) x v 0 (λ e. omega arith) (h.bounded x);
        chained = λ x r.
            set_either (λ y. y ≡ 97 + r → ChainTo n track r x) l (track.end_b s) x v 0
            (λ e f. record { last = s; listed = reach l s r h k (omega arith); there = sym e }) (h.chained x r);
      }

  -- Where the rank at the A end of a segment is 96 + n, there is a loop.
  high_loop : (l : List ℕ) (s : ℕ) → Reached n track l → SegmentOf n s → n + 96 ≤ get_or l (track.end_a s) 0 → has_loop n track ≡ true
  high_loop l s h k u =
      ends_loop n track s (reach l s n h k (omega (arith, h.bounded (track.end_a s))))

-- What a pass that comes to segment s tells, if it ends as it stands: the ranks rise along the segments before, or some was raised.
unfoldable pub so_far : Track → List ℕ → List ℕ → ℕ → Pass → Type 0
so_far track before after s Rising =
    (sum before ≤ sum after) × ((x : ℕ) → 1 ≤ x → x < s → get_or after (track.end_a x) 0 < get_or after (track.end_b x) 0)
so_far track before after s Raised = sum before < sum after
so_far track before after s TooHigh = ⊥

-- The same pass: the ranks before it and now.
pub record Passing (n : ℕ) (track : Track) (before after : List ℕ) (pass : Pass) (s : ℕ) : Type 0 where
  pub reached : Reached n track after
  pub tells : so_far track before after s pass

-- The start of a pass; a segment along which the ranks rise, one along which a rank is raised, one whose A end is too high; and the
-- end of the pass.
module _ (n : ℕ) (track : Track) (l : List ℕ) where
  pub passing_start : Reached n track l → Passing n track l l Rising 1
  unfolding so_far
  passing_start h = record { reached = h; tells = (omega arith, λ x a b. absurd (omega arith)) }

  module _ (now : List ℕ) (s : ℕ) where
    abbrev rank_a : ℕ
    rank_a = get_or now (track.end_a s) 0

    abbrev rank_b : ℕ
    rank_b = get_or now (track.end_b s) 0

    no_less : (pass : Pass) → so_far track l now s pass → sum l ≤ sum now
    unfolding so_far
    no_less Rising t = t.0
    no_less Raised t = omega arith
    no_less TooHigh t = absurd t

    kept : (pass : Pass) → so_far track l now s pass → rank_a < rank_b → so_far track l now (s + 1) pass
    unfolding so_far
    kept Rising t k = (t.0, λ x u v. elim (ℕ_discrete x s) [ yes q ↦ rw q k | no q ↦ t.1 x u (omega arith) ])
    kept Raised t k = t
    kept TooHigh t k = t

    ends : (pass : Pass) → so_far track l now s pass → n < s → told n track l now pass
    unfolding so_far told
    ends Rising t h = rising_no_loop n track (λ x. get_or now x 0) (λ x k. t.1 x k.low (omega arith))
    ends Raised t h = t
    ends TooHigh t h = absurd t

    module _ (pass : Pass) (p : Passing n track l now pass s) where
      pub passing_kept : rank_a < rank_b → Passing n track l now pass (s + 1)
      passing_kept k = record { reached = p.reached; tells = kept pass p.tells k }

      pub passing_raised : 1 ≤ s → s ≤ n → track.end_b s < 256 → rank_b ≤ rank_a → rank_a < n + 96
          → Passing n track l (set now (track.end_b s) (rank_a + 1)) Raised (s + 1)
      unfolding so_far
      passing_raised low high w h u =
          record {
            reached = reached_raised n track now s p.reached (record { low = low; high = high }) u;
            tells = omega (arith, sum_by-set (λ x. x) now (track.end_b s) (rank_a + 1) 0 (omega arith), no_less pass p.tells);
          }

      pub passing_high : 1 ≤ s → s ≤ n → n + 96 ≤ rank_a → Ended n track l now TooHigh
      unfolding told
      passing_high low high u =
          record { reached = p.reached; tells = high_loop n track now s p.reached (record { low = low; high = high }) u }

      pub passing_ends : n < s → Ended n track l now pass
      passing_ends h = record { reached = p.reached; tells = ends pass p.tells h }

-- The sum that ranks can have, as n is a byte; what the end of a pass says of loops; and what is left of that sum, which is less
-- after each pass that raised a rank.
reached_sum : (n : ℕ) (track : Track) (l : List ℕ) → n < 256 → Reached n track l → sum l ≤ 89856
reached_sum n track l byte h =
    omega (arith, sum_by-le (λ x. x) 351 l (All-from_get_or (λ x. x ≤ 351) l 0 (λ i _. omega (arith, h.bounded i))))

module _ (n : ℕ) (track : Track) (before after : List ℕ) (pass : Pass) (h : Ended n track before after pass) where
  pub rising_none : pass ≡ Rising → false ≡ has_loop n track
  unfolding told
  rising_none e = sym (rw e at h.tells)

  pub high_some : pass ≡ TooHigh → true ≡ has_loop n track
  unfolding told
  high_some e = sym (rw e at h.tells)

  pub raised_less : n < 256 → pass ≡ Raised → 89856 - sum after < 89856 - sum before
  unfolding told
  raised_less byte e = let k = rw e at h.tells in omega (arith, reached_sum n track after byte h.reached)

-- What `has_loop` takes from its passes: their start, and what the end of one says.
pub ruleset passes = (low_reached, rising_none, high_some, raised_less)
