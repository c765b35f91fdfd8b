-- The stem side of a box is so of the box, and no other case is where the ends of the stem segment are at two boxes.
use Prim.Native.Nat.{ℕ}
use mathlib.Core.Path.{◌≡◌, refl, sym, ◌∙◌}
use mathlib.Core.Logic.{◌≢◌}
use mathlib.Core.Bool.{Bool, true, false, not, ◌||◌, cond}
use borrow.Author.Tests.{eqb-true}
use Rattle.rules.specs.declared.StemSide.{StemSide}
use Rattle.rules.specs.declared.StemSide.TheVariants.{AEnd, BEnd, Neither}
use Rattle.rules.specs.Track.{Track}
use Rattle.rules.specs.Network.{has_end_a, has_end_b}
use Rattle.rules.specs.StemSide.{is_side, stem_side}
use Rattle.rules.proofs.Tests.{not_passed, tests, facts}

-- The first of three cases that is so is so.
first_so : (P : StemSide → Bool) (a b : Bool) → P AEnd ≡ a → P BEnd ≡ b → P Neither ≡ not (a || b)
    → P (cond a AEnd (cond b BEnd Neither)) ≡ true
first_so P true b d e f = d
first_so P false true d e f = e
first_so P false false d e f = f

module _ (track : Track) (b s : ℕ) where
  pub side_so : is_side track b s (stem_side track b s) ≡ true
  unfolding is_side stem_side
  side_so = first_so (is_side track b s) (has_end_a track s b) (has_end_b track s b) refl refl refl

  module _ (apart : track.end_a s ≢ track.end_b s) where
    -- The two ends are not both at the box.
    pub one_end : has_end_a track s b ≡ true → has_end_b track s b ≡ true → ⊥
    unfolding has_end_a has_end_b
    one_end e f = apart (eqb-true _ _ e ∙ sym (eqb-true _ _ f))

    pub side_only : (x : StemSide) → is_side track b s x ≡ true → x ≡ stem_side track b s
    unfolding is_side stem_side
    side_only AEnd h = search tests
    side_only BEnd h = let e = not_passed _ (λ a. one_end a h) in search tests depth 8
    side_only Neither h = let (e, f) = simp facts at h in search tests depth 8
