-- Why a file is refused, and the routes of its trains.
use Rattle.std.proofs.Common.{ℕ, ◌≡◌, ◌≢◌, sym, ◌∙◌, ap, true, false, List, eq-eqb}
use Rattle.std.proofs.Math.Decide.{ℕ_discrete}
use Rattle.rules.specs.declared.Table.{Table}
use Rattle.rules.specs.Ends.{Refusal}
use Rattle.rules.specs.Rows.{outside}
use Rattle.rules.specs.Placing.{without_place, table_refusal}
use Rattle.rules.specs.File.{train_count, file_refusal, decode, route_start, route_in, route_refusal, route_part, route_from}
use Rattle.rules.proofs.Coded as Errors
use Rattle.rules.proofs.Tests.{outside-false_iff}
use Rattle.rules.proofs.Refusals.{code_of, file_coded, refused_nowhere, then_refused, then_hit, then_none}
use Rattle.tablefile.specs.Whole.{early_code, Whole}
use Rattle.tablefile.specs.Places.{HasTrain}
use Rattle.tablefile.proofs.Codes.{file_early, early_placeless, file_refused_late, whole}

module _ (bytes : List ℕ) where
  -- A file that codes 1 to 5 refuse is refused by their code, and one that they let through as its table is.
  pub refused_early : (x : Refusal) → x.code ≢ 0 → x ≡ without_place (early_code bytes) → x ≡ file_refusal bytes
  unfolding file_refusal
  refused_early x n is =
      refused_nowhere _ _ x (early_code bytes) is (early_placeless bytes) (file_early bytes (λ z. n (code_of is ∙ z)))

  pub refused_late : (x : Refusal) (t : Table) → early_code bytes ≡ 0 → t ≡ decode bytes → x ≡ table_refusal t → x ≡ file_refusal bytes
  refused_late x t z d is = is ∙ ap table_refusal d ∙ file_refused_late bytes z

  -- A file that is not refused, with its table: codes 1 to 5 let it through, so that it is whole.
  module _ (z : without_place 0 ≡ file_refusal bytes) (t : Table) (d : t ≡ decode bytes) where
    accepted_early : early_code bytes ≡ 0
    accepted_early =
        elim (ℕ_discrete (early_code bytes) 0) [
          | yes e ↦ e
          | no n ↦ file_early bytes n ∙ sym (code_of z ∙ file_coded bytes)
        ]

    pub accepted_whole : Whole bytes
    accepted_whole = whole bytes accepted_early

    -- The route of train i, by whether there is such a train.
    module _ (i : ℕ) where
      counted : outside t.k i ≡ outside (train_count bytes) i
      unfolding decode
      counted = ap (λ (t : Table). outside t.k i) d

      pub no_train : outside t.k i ≡ true → without_place 14 ≡ route_refusal bytes i
      unfolding route_refusal
      no_train h = sym (then_hit (file_refusal bytes) (sym (code_of z)) 14 _ (sym counted ∙ h))

      module _ (h : outside t.k i ≡ false) where
        pub some_train : without_place 0 ≡ route_refusal bytes i
        unfolding route_refusal
        some_train = sym (then_none (file_refusal bytes) (sym (code_of z)) 14 _ (sym counted ∙ h))

        pub has_train : HasTrain bytes i
        has_train =
            let within = (outside-false_iff _ _).0 (sym counted ∙ h) in
            record { whole = accepted_whole; low = within.0; high = within.1 }

        pub route_start_is : route_start bytes i ≡ route_from bytes i
        unfolding route_from
        route_start_is = rw (eq-eqb _ _ (code_of (sym some_train)))

        pub route_is : route_in bytes i ≡ route_part bytes i
        unfolding route_part
        route_is = rw (eq-eqb _ _ (code_of (sym some_train)))

-- What decides of a file, and of the route of one of its trains.
pub ruleset files = (refused_early, refused_late, Errors.file_coded, code_of)

pub ruleset routes = (no_train, some_train, route_start_is, route_is, then_refused, Errors.file_coded, code_of)
