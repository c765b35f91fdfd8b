-- The codes of a network by the tests that lead to them.
use Rattle.std.proofs.Common.{◌≡◌, ℕ, ◌*◌, ◌≤◌, true, false, not, eqb, List, [], ◌∷◌, refl, sym, ◌∙◌}
use Rattle.rules.specs.declared.BoxPlan.{BoxPlan}
use Rattle.rules.specs.declared.StemSide.{StemSide}
use Rattle.rules.specs.declared.StemSide.TheVariants.{Neither}
use Rattle.rules.specs.Rows.{◌if◌, first, any_of, list_of, filled}
use Rattle.rules.specs.Track.{Track}
use Rattle.rules.specs.Loop.{has_loop}
use Rattle.rules.specs.Network.{ends_fault, segment_fault, plan_fault_at, box_fault_at, unlisted_fault, network_rows}
use Rattle.rules.specs.StemSide.{stem_side_at}
use Rattle.rules.proofs.Tests.{first-none, first_hit, first_skip, or_left, or_right, or-false, or-false-left}
use Rattle.rules.proofs.Rows.{any_false_iff}
use Rattle.network.specs.Sided.{sided_fault_at}
use Rattle.network.specs.Places.{place_count}
use Rattle.network.proofs.Sides.{boxes_by_sides}
use Rattle.network.proofs.Listed.{unlisted_by_places}

-- Where 6 finds nothing, it finds nothing at the ends.
ends_found : (n m : ℕ) (track : Track) (way : ℕ → ℕ) → any_of n (segment_fault m track way) ≡ false → any_of n (ends_fault m track) ≡ false
unfolding segment_fault
ends_found n m track way e = (any_false_iff n _).1 (λ s l h. or-false-left _ _ ((any_false_iff n _).0 e s l h))

-- Codes 6 to 9, each by the tests before it, and none.
module _ (n m : ℕ) (track : Track) (way : ℕ → ℕ) (plans : List BoxPlan) where
  abbrev Code : ℕ → Type 0
  Code c = first (network_rows n m track way plans) ≡ c

  abbrev sides : List StemSide
  sides = filled 96 Neither (list_of m (stem_side_at track plans))

  pub network_6 : any_of n (segment_fault m track way) ≡ true → Code 6
  unfolding network_rows
  network_6 e = sym (first_hit _ _ _ e refl)

  module _ (ends : any_of n (segment_fault m track way) ≡ false) where
    pub network_7 : any_of m (plan_fault_at n plans) ≡ true → Code 7
    unfolding network_rows
    network_7 e = sym (first_skip _ _ _ ends (first_hit _ _ _ e refl))

    module _ (kinds : any_of m (plan_fault_at n plans) ≡ false) (few : m ≤ 96) where
      by_sides : any_of m (sided_fault_at track plans sides) ≡ any_of m (box_fault_at track plans)
      by_sides = boxes_by_sides n m track (ends_found n m track way ends) plans sides kinds few refl

      pub listing_8 : any_of m (sided_fault_at track plans sides) ≡ true → Code 8
      unfolding network_rows
      listing_8 e =
          sym (first_skip _ _ _ ends (first_skip _ _ _ kinds (first_hit _ _ _ (or_left _ _ (sym by_sides ∙ e)) refl)))

      module _ (boxes : any_of m (sided_fault_at track plans sides) ≡ false) where
        by_places : not (eqb (place_count m plans) (2 * n)) ≡ any_of n (unlisted_fault track plans)
        by_places = unlisted_by_places n m track plans (ends_found n m track way ends) kinds (sym by_sides ∙ boxes)

        pub unlisted_8 : not (eqb (place_count m plans) (2 * n)) ≡ true → Code 8
        unfolding network_rows
        unlisted_8 e =
            let listed = or_right (any_of m (box_fault_at track plans)) _ (sym by_places ∙ e) in
            sym (first_skip _ _ _ ends (first_skip _ _ _ kinds (first_hit _ _ _ listed refl)))

        module _ (segments : not (eqb (place_count m plans) (2 * n)) ≡ false) where
          past_8 : (c : ℕ) → c ≡ first (9 if has_loop n track ∷ []) → Code c
          unfolding network_rows
          past_8 c e =
              let listed = or-false _ _ (sym by_sides ∙ boxes) (sym by_places ∙ segments) in
              sym (first_skip _ _ _ ends (first_skip _ _ _ kinds (first_skip _ _ _ listed e)))

          pub network_9 : has_loop n track ≡ true → Code 9
          network_9 e = past_8 9 (first_hit _ _ _ e refl)

          pub network_0 : has_loop n track ≡ false → Code 0
          network_0 e = past_8 0 (first_skip _ _ _ e (sym first-none))

pub ruleset codes = (network_6, network_7, listing_8, unlisted_8, network_9, network_0)
