-- Laws of sums.
use Rattle.std.proofs.Common.{◌≡◌, ◌≢◌, ℕ, zero, suc, ◌+◌, ◌≤◌, List, length, get_or, take, sum_by, refl, sym, ap, ◌∙◌, add-one, arith}
use Rattle.std.proofs.Math.Decide.{ℕ_discrete}
use Rattle.std.proofs.lemmas.List.Sums.{sum_by_more}
use Rattle.rules.specs.declared.BoxPlan.{BoxPlan}
use Rattle.rules.specs.Rows.{nth}
use Rattle.rules.specs.Track.{no_box_plan}
use Rattle.network.specs.Places.{sum_of, place_count}

-- The places of boxes 1 .. m, by the first m plans.
pub places_taken : (plans : List BoxPlan) (m : ℕ) → m ≤ length plans → sum_by (λ p. p.kind + 1) (take m plans) ≡ place_count m plans
unfolding place_count sum_of nth
places_taken plans zero h = refl
places_taken plans (suc m) h =
    ap (λ k. sum_by (λ p. p.kind + 1) (take k plans)) (sym (add-one m))
    ∙ sum_by_more (λ p. p.kind + 1) plans m no_box_plan (omega arith)
    ∙ ap (λ k. k + ((get_or plans m no_box_plan).kind + 1)) (places_taken plans m (omega arith))

-- Summands that are the same.
pub sum_same : (f g : ℕ → ℕ) (n : ℕ) → ((i : ℕ) → 1 ≤ i → i ≤ n → f i ≡ g i) → sum_of n f ≡ sum_of n g
unfolding sum_of
sum_same f g zero h = refl
sum_same f g (suc n) h =
    let e = sum_same f g n (λ i l k. h i l (omega arith)) in
    let d = h (suc n) (omega arith) (omega arith) in
    omega arith

-- All summands are 0, but for one, or for two.
pub sum_none : (f : ℕ → ℕ) (n : ℕ) → ((i : ℕ) → 1 ≤ i → i ≤ n → f i ≡ 0) → sum_of n f ≡ 0
unfolding sum_of
sum_none f zero h = refl
sum_none f (suc n) h =
    let e = sum_none f n (λ i l k. h i l (omega arith)) in
    let d = h (suc n) (omega arith) (omega arith) in
    omega arith

pub sum_one : (f : ℕ → ℕ) (n x : ℕ) → 1 ≤ x → x ≤ n → ((i : ℕ) → 1 ≤ i → i ≤ n → i ≢ x → f i ≡ 0) → sum_of n f ≡ f x
unfolding sum_of
sum_one f zero x l k h = absurd (omega arith)
sum_one f (suc n) x l k h =
    elim (ℕ_discrete x (suc n)) [
      | yes e ↦
          let d = sum_none f n (λ i a b. h i a (omega arith) (λ c. absurd (omega arith))) in
          rw e (omega arith)
      | no e ↦
          let d = sum_one f n x l (omega arith) (λ i a b c. h i a (omega arith) c) in
          let z = h (suc n) (omega arith) (omega arith) (λ c. e (sym c)) in
          omega arith
    ]

pub sum_two : (f : ℕ → ℕ) (n x y : ℕ) → 1 ≤ x → x ≤ n → 1 ≤ y → y ≤ n → x ≢ y
    → ((i : ℕ) → 1 ≤ i → i ≤ n → i ≢ x → i ≢ y → f i ≡ 0) → sum_of n f ≡ f x + f y
unfolding sum_of
sum_two f zero x y l k a b d h = absurd (omega arith)
sum_two f (suc n) x y l k a b d h =
    elim (ℕ_discrete x (suc n)) [
      | yes e ↦
          let other = sum_one f n y a (omega arith) (λ i p q c. h i p (omega arith) (λ w. absurd (omega arith)) c) in
          rw e (omega arith)
      | no e ↦ elim (ℕ_discrete y (suc n)) [
        | yes z ↦
            let other = sum_one f n x l (omega arith) (λ i p q c. h i p (omega arith) c (λ w. absurd (omega arith))) in
            rw z (omega arith)
        | no z ↦
            let rest = sum_two f n x y l (omega arith) a (omega arith) d (λ i p q. h i p (omega arith)) in
            let last = h (suc n) (omega arith) (omega arith) (λ c. e (sym c)) (λ c. z (sym c)) in
            omega arith
      ]
    ]

-- Sums of sums, summand by summand and in the other order.
pub sum_add : (f g : ℕ → ℕ) (n : ℕ) → sum_of n (λ i. f i + g i) ≡ sum_of n f + sum_of n g
unfolding sum_of
sum_add f g zero = refl
sum_add f g (suc n) = let e = sum_add f g n in omega arith

pub sum_swap : (f : ℕ → ℕ → ℕ) (m n : ℕ) → sum_of m (λ b. sum_of n (λ s. f b s)) ≡ sum_of n (λ s. sum_of m (λ b. f b s))
unfolding sum_of
sum_swap f zero n = sym (sum_none (λ s. 0) n (λ i l k. refl))
sum_swap f (suc m) n =
    let e = sum_swap f m n in
    let d = sum_add (λ s. sum_of m (λ b. f b s)) (λ s. f (suc m) s) n in
    omega arith
