-- Ranks of boxes by their numbers, 0 .. 255: what holds of them while they are raised along the segments.
use Rattle.std.specs.Prelude.{◌≡◌, ℕ, ◌+◌, ◌<◌, ◌≤◌, true, false, List, length, slice_index, sum}
use mathlib.Core.List.{Memᴰ}
use Rattle.rules.specs.Track.{Track}
use Rattle.rules.specs.Loop.{chain_ends, has_loop}
use Rattle.loops.specs.declared.Pass.{Pass}
use Rattle.loops.specs.declared.Pass.TheVariants.{Rising, Raised, TooHigh}

-- Guessed ranks: none is above 96.
pub record Low (ranks : List ℕ) : Type 0 where
  pub size : length ranks ≡ 256
  pub low : (x : ℕ) → slice_index ranks x ≤ 96

-- A chain of r + 1 segments ends at box x.
pub record ChainTo (n : ℕ) (track : Track) (r x : ℕ) : Type 0 where
  pub last : ℕ
  pub listed : Memᴰ last (chain_ends n track r)
  pub there : track.end_b last ≡ x

-- Raised ranks: none is above 96 + n, and to a box of rank 97 + r a chain of r + 1 segments leads.
pub record Reached (n : ℕ) (track : Track) (ranks : List ℕ) : Type 0 where
  pub size : length ranks ≡ 256
  pub bounded : (x : ℕ) → slice_index ranks x ≤ n + 96
  pub chained : (x r : ℕ) → slice_index ranks x ≡ 97 + r → ChainTo n track r x

-- What a pass tells by its end: there is no loop, there is one, or the sum of all ranks has grown.
unfoldable pub told : ℕ → Track → List ℕ → List ℕ → Pass → Type 0
told n track before after Rising = has_loop n track ≡ false
told n track before after TooHigh = has_loop n track ≡ true
told n track before after Raised = sum before < sum after

-- The end of a pass, with the ranks before and after it.
pub record Ended (n : ℕ) (track : Track) (before after : List ℕ) (pass : Pass) : Type 0 where
  pub reached : Reached n track after
  pub tells : told n track before after pass
