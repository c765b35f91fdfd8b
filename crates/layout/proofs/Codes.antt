-- A table's head, its network and its trains, one after the other.
use Rattle.std.proofs.Common.{◌≡◌, ◌∙◌, ℕ, ◌≢◌, false, true, List, ◌++◌, refl, sym}
use Rattle.rules.specs.declared.BoxPlan.{BoxPlan}
use Rattle.rules.specs.declared.TrainPlan.{TrainPlan}
use Rattle.rules.specs.declared.Table.{Table}
use Rattle.rules.specs.Ends.{Refusal}
use Rattle.rules.specs.Rows.{Row, first}
use Rattle.rules.specs.Track.{Track, track_of, way_of}
use Rattle.rules.specs.Network.{ways_fault, head_rows, network_rows}
use Rattle.rules.specs.Placing.{without_place, routes_fault, placing_rows, parts_code, tells_place, refusal_by, parts_refusal, table_refusal}
use Rattle.rules.proofs.Tests.{EachCode, first-before, first_hit, first_skip, first_zero_iff}
use Rattle.rules.proofs.Refusals.{code_of, placeless, refused_nowhere, refused_alike}

module _ (version n m k : ℕ) (track : Track) (way : ℕ → ℕ) (plans : List BoxPlan) (trains : List TrainPlan) (routes : List ℕ) where
  abbrev head_here : List Row
  head_here = head_rows version n m k

  abbrev network_here : List Row
  network_here = network_rows n m track way plans

  abbrev placing_here : List Row
  placing_here = placing_rows n k track way trains routes

  abbrev code_here : ℕ
  code_here = parts_code version n m k track way plans trains routes

  abbrev refusal_here : Refusal
  refusal_here = parts_refusal version n m k track way plans trains routes

  -- A way that the version cannot hold.
  pub held_refuses : ways_fault version n way ≡ true → without_place 3 ≡ refusal_here
  unfolding parts_refusal parts_code tells_place
  held_refuses fault = refused_nowhere _ _ _ 3 refl refl (first_hit _ _ _ fault refl)

  -- The codes of head and network are about no place of a route.
  head_placeless : tells_place (first head_here) ≡ false
  unfolding EachCode head_rows tells_place
  head_placeless = placeless head_here (refl, (refl, refl))

  network_placeless : tells_place (first network_here) ≡ false
  unfolding EachCode network_rows tells_place
  network_placeless = placeless network_here (refl, (refl, (refl, (refl, refl))))

  network_clear : first network_here ≡ 0 → first (network_here ++ placing_here) ≡ first placing_here
  unfolding network_rows
  network_clear e =
      let (ends, (kinds, (listing, (loop, _)))) = simp first_zero_iff at e in
      sym (first_skip _ _ _ ends (first_skip _ _ _ kinds (first_skip _ _ _ listing (first_skip _ _ _ loop refl))))

  module _ (held : ways_fault version n way ≡ false) where
    head_clear : first head_here ≡ 0 → code_here ≡ first (network_here ++ placing_here)
    unfolding parts_code head_rows
    head_clear e =
        let (version, (limits, _)) = simp first_zero_iff at e in
        sym (first_skip _ _ _ held (first_skip _ _ _ version (first_skip _ _ _ limits refl)))

    head_counts : first head_here ≢ 0 → first head_here ≡ code_here
    unfolding parts_code
    head_counts z = first_skip _ _ _ held (first-before _ _ z)

    -- What refuses the head, the network or the trains refuses the table, where nothing before does; x is why.
    pub head_refuses : (x : Refusal) → x ≡ without_place (first head_here) → x.code ≢ 0 → x ≡ refusal_here
    unfolding parts_refusal
    head_refuses x is some = refused_nowhere _ _ x _ is head_placeless (head_counts (λ z. some (code_of is ∙ z)))

    module _ (head : without_place 0 ≡ without_place (first head_here)) where
      beyond_head : code_here ≡ first (network_here ++ placing_here)
      beyond_head = head_clear (sym (code_of head))

      pub network_refuses : (x : Refusal) → x ≡ without_place (first network_here) → x.code ≢ 0 → x ≡ refusal_here
      unfolding parts_refusal
      network_refuses x is some =
          refused_nowhere _ _ x _ is network_placeless (first-before _ _ (λ z. some (code_of is ∙ z)) ∙ sym beyond_head)

      pub placing_refuses : without_place 0 ≡ without_place (first network_here) → (x : Refusal)
          → x ≡ refusal_by (first placing_here) (routes_fault n k track trains routes) → x ≡ refusal_here
      unfolding parts_refusal
      placing_refuses network x is = refused_alike _ _ x _ is (sym (beyond_head ∙ network_clear (sym (code_of network))))

pub ruleset refusals = (held_refuses, head_refuses, network_refuses, placing_refuses)

-- What a function answered for the parts of a table, r, is why the table is refused.
pub parts_answer : (t : Table) (r : Refusal) {track : Track} {way : ℕ → ℕ} → track ≡ track_of t → way ≡ way_of t
    → r ≡ parts_refusal t.version t.n t.m t.k track way t.boxes t.trains t.routes → r ≡ table_refusal t
unfolding table_refusal
parts_answer t r made passed e = rw (made, passed) at e
