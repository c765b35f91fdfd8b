-- Codes 1 to 5 by the tests that lead to them, the file's codes after them, and what a file without them has.
use Rattle.std.proofs.Common.{ℕ, ◌≤◌, ◌<◌, ◌≡◌, ◌≢◌, refl, sym, ◌∙◌, ap, true, false, not, List, [], ◌∷◌, ◌++◌, eqb, length, arith, le-ltb}
use Rattle.rules.specs.Ends.{Refusal}
use Rattle.rules.specs.Rows.{Row, ◌if◌, first}
use Rattle.rules.specs.Network.{head_rows, limits_fault}
use Rattle.rules.specs.Placing.{without_place, table_code, parts_code, tells_place, parts_refusal, table_refusal}
use Rattle.rules.specs.File.{marked, version_in, segment_count, box_count, train_count, file_length, file_code, file_refusal, decode, early_rows}
use Rattle.rules.proofs.Coded.{file_coded}
use Rattle.rules.proofs.Refusals.{code_of, placeless, refused_alike}
use Rattle.rules.proofs.Accepted.{limits_iff}
use Rattle.rules.proofs.Files.{held-read}
use Rattle.rules.proofs.Tests.{tests, facts, EachCode, outside-false_iff, not_of_true, not_of_false, first-none, first_zero_iff, first_hit, first_skip, first-before}
use Rattle.tablefile.specs.Whole.{early_code, Whole}

-- The head's rows of a file, and their code.
abbrev head_of : List ℕ → List Row
head_of bytes = head_rows (version_in bytes) (segment_count bytes) (box_count bytes) (train_count bytes)

abbrev pub head_code : List ℕ → ℕ
head_code bytes = first (head_of bytes)

module _ (bytes : List ℕ) where
  -- Codes 1 to 5, each by the tests before it.
  pub early_1 : length bytes < 8 → without_place 1 ≡ without_place (early_code bytes)
  unfolding early_code early_rows
  early_1 h = let e : 1 ≡ early_code bytes = search tests in ap without_place e

  module _ (long : 8 ≤ length bytes) where
    pub early_2 : marked bytes ≡ false → without_place 2 ≡ without_place (early_code bytes)
    unfolding early_code early_rows
    early_2 b = let e : 2 ≡ early_code bytes = search tests in ap without_place e

    module _ (b : marked bytes ≡ true) where
      past_mark : {c : ℕ} →
          c ≡ first (head_of bytes ++ (5 if not (eqb (length bytes) (file_length bytes)) ∷ [])) →
          without_place c ≡ without_place (early_code bytes)
      unfolding early_code early_rows
      past_mark e = ap without_place (first_skip _ _ _ (le-ltb _ _ long) (first_skip _ _ _ (not_of_true _ b) e))

      pub early_head : (x : Refusal) → x ≡ without_place (head_code bytes) → x.code ≢ 0 → x ≡ without_place (early_code bytes)
      early_head x is n = is ∙ past_mark (first-before _ _ (λ z. n (code_of is ∙ z)))

      module _ (z : without_place 0 ≡ without_place (head_code bytes)) where
        pub early_5 : eqb (length bytes) (file_length bytes) ≡ false → without_place 5 ≡ without_place (early_code bytes)
        unfolding head_rows
        early_5 l =
            let (version, (limits, _)) = simp first_zero_iff at (sym (code_of z)) in
            past_mark (first_skip _ _ _ version (first_skip _ _ _ limits (first_hit _ _ _ (not_of_false _ l) refl)))

        pub early_0 : eqb (length bytes) (file_length bytes) ≡ true → without_place 0 ≡ without_place (early_code bytes)
        unfolding head_rows
        early_0 l =
            let (version, (limits, _)) = simp first_zero_iff at (sym (code_of z)) in
            past_mark (first_skip _ _ _ version (first_skip _ _ _ limits (first_skip _ _ _ (not_of_true _ l) (sym first-none))))

  -- A file that codes 1 to 5 refuse has that code; one that they let through has its table's code, and is whole.
  pub file_early : (early_code bytes ≡ 0 → ⊥) → early_code bytes ≡ file_code bytes
  unfolding file_code early_code early_rows head_rows
  file_early n = first-before _ _ n

  -- Codes 1 to 5 are about no place of a route.
  pub early_placeless : tells_place (early_code bytes) ≡ false
  unfolding EachCode early_code early_rows head_rows tells_place
  early_placeless = placeless (early_rows bytes) (refl, (refl, (refl, (refl, (refl, refl)))))

  file_late : early_code bytes ≡ 0 → table_code (decode bytes) ≡ file_code bytes
  unfolding file_code table_code parts_code decode early_code early_rows head_rows
  file_late e =
      let (long, (mark, (version, (limits, (exact, _))))) = simp first_zero_iff at e in
      let held = held-read bytes ((limits_iff _ _ _).0 limits).segments_high in
      sym (first_skip _ _ _ held (first_skip _ _ _ version (first_skip _ _ _ limits refl)))
      ∙ first_skip _ _ _ long (first_skip _ _ _ mark (first_skip _ _ _ version (first_skip _ _ _ limits (first_skip _ _ _ exact refl))))

  pub file_refused_late : early_code bytes ≡ 0 → table_refusal (decode bytes) ≡ file_refusal bytes
  unfolding file_refusal table_refusal parts_refusal table_code
  file_refused_late e = refused_alike _ _ _ _ refl (file_late e)

  pub whole : early_code bytes ≡ 0 → Whole bytes
  unfolding early_code early_rows head_rows limits_fault
  whole e =
      let (_, (_, (_, (limits, (exact, _))))) = simp (facts, first_zero_iff, outside-false_iff) at e in
      let few : (segment_count bytes ≤ 96) × (box_count bytes ≤ 96) × (train_count bytes ≤ 16) = omega (arith, limits) in
      record { segments = few.0; boxes = few.1; trains = few.2; exact = exact }

-- What decides of a file's head.
pub ruleset codes = (early_1, early_2, early_head, early_5, early_0, whole, file_coded)
