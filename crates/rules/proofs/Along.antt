-- No train covers a segment against its way: what a box has reserved for a train, the train passes along its way.
use Prim.Native.Nat.{ℕ, zero, suc, ◌≤◌}
use mathlib.Core.Path.{◌≡◌, refl, sym, ◌∙◌, ap}
use mathlib.Core.Bool.{true, false, false≢true}
use mathlib.Core.List.{List, [], ◌∷◌}
use native.Mathlib.Decide.{ℕ_discrete}
use native.Mathlib.Omega.{arith}
use borrow.Author.Tests.{eqb-false, ne_eqb}
use lib.Dec.{eqb-suc-zero}
use Rattle.rules.specs.declared.BoxPlan.{BoxPlan}
use Rattle.rules.specs.declared.Table.{Table}
use Rattle.rules.specs.declared.SwitchBox.{SwitchBox}
use Rattle.rules.specs.declared.Holding.{Holding}
use Rattle.rules.specs.declared.Holding.TheVariants.{NextAt, LockAt}
use Rattle.rules.specs.declared.Request.{Request}
use Rattle.rules.specs.declared.Request.TheVariants.{Reserve}
use Rattle.rules.specs.declared.Message.TheVariants.{Sent}
use Rattle.rules.specs.declared.Train.{Train}
use Rattle.rules.specs.declared.Line.{Line}
use Rattle.rules.specs.declared.Outcome.{Outcome}
use Rattle.rules.specs.declared.Around.{Around}
use Rattle.rules.specs.Rows.{first}
use Rattle.rules.specs.Track.{plan_at, train_plan_at, track_of, way_of, runs_against}
use Rattle.rules.specs.Line.{no_box, box_at, train_at, put_train, holder_of, set_holder, request_box, holding_box, holding, gives_back, start_line, starts_on, start_holder, start_box_with, start_box, around, around_on}
use Rattle.rules.specs.Steps.{Step, grant_rows, box_rows, stands, given, freed, granted, sensed, released, step}
use Rattle.rules.specs.History.{line_after}
use Rattle.rules.specs.Safety.{TrainOf, Fixed, on_route}
use Rattle.rules.proofs.Tests.{facts, cond_each, first_hit}
use Rattle.rules.proofs.Accepted.{Accepted}
use Rattle.rules.proofs.Frames.{put, every_box, train-alone, place_read, holder_own, holder_other}
use Rattle.rules.proofs.Steps.{box_says}
use Rattle.rules.proofs.StepKinds.{Does, refuses, sends, denies, grants, hears, retries, enters, clears, does}
use Rattle.rules.proofs.StepRows.{next_grant_iff, granted_each}
use Rattle.rules.proofs.Start.{each-start-box}
use Rattle.rules.proofs.Moves.{fixed_stays}

-- A train of direction 0 or 1 that does not run against a segment.
pub along_way : (d way : ℕ) → d ≤ 1 → runs_against d way ≡ false → (way ≡ 1 → d ≡ 0) × (way ≡ 2 → d ≡ 1)
unfolding runs_against
along_way zero way low e = (λ _. refl, λ two. absurd (eqb-false way 2 e two))
along_way (suc d) way low e = (λ one. absurd (eqb-false way 1 (rw eqb-suc-zero at e) one), λ _. omega arith)

module _ (t : Table) where
  -- If i is a train of the table, it passes segment s along its way; so do those for which a box has segments reserved.
  abbrev pub PassesAlong : ℕ → ℕ → Type 0
  PassesAlong s i = TrainOf t i → runs_against (train_plan_at t i).direction (way_of t s) ≡ false

  abbrev pub AlongAt : BoxPlan → SwitchBox → Type 0
  AlongAt p x = (s : ℕ) → PassesAlong s (holder_of p x s)

  abbrev pub AlongOn : Line → Type 0
  AlongOn l = (b : ℕ) → AlongAt (plan_at t b) (box_at l b)

  -- Nobody is no train.
  nobody : (s : ℕ) → PassesAlong s 0
  nobody s k = absurd (omega arith)

  module _ (p : BoxPlan) where
    -- A reservation set for one who passes along, and one that is free.
    set_along : (x : SwitchBox) (s i : ℕ) → PassesAlong s i → AlongAt p x → AlongAt p (set_holder p x s i)
    set_along x s i new old z =
        elim (ℕ_discrete z s) [
          | yes e ↦ rw e (holder_own p x s i (PassesAlong s) (nobody s) new)
          | no m ↦ rw (holder_other p x s i m) (old z)
        ]

    -- What a box gives, once rows 31 and 22 have stopped nothing; what it frees; and the boxes of Enter and Clear.
    given_along : (v : Around) (x : SwitchBox) (z : Holding) → (v.against ≡ false → PassesAlong v.next v.number)
        → first (grant_rows v p x z) ≡ 0 → AlongAt p x → AlongAt p (given v p x z)
    unfolding given holder_of
    given_along v x (NextAt b) along free old = set_along x v.next v.number (along ((next_grant_iff v p x b).0 free).0) old
    given_along v x (LockAt b) along free old = old

    freed_along : (v : Around) (x : SwitchBox) (z : Holding) → AlongAt p x → AlongAt p (freed v p x z)
    unfolding freed holder_of
    freed_along v x (NextAt b) old = set_along x v.next 0 (nobody _) old
    freed_along v x (LockAt b) old = old

    granted_along : (v : Around) (x : SwitchBox) (q : Request) → (v.against ≡ false → PassesAlong v.next v.number)
        → first (box_rows v p x q) ≡ 0 → AlongAt p x → AlongAt p (granted v p x q)
    unfolding box_rows
    granted_along v x q along free old =
        granted_each (AlongAt p) v p x q (λ asks new. given_along v x (holding q) along (rw (asks, new) at free) old)
        (λ _ _. freed_along v x (holding q) old) old

    sensed_along : (x : SwitchBox) → AlongAt p x → AlongAt p (sensed x)
    unfolding sensed holder_of
    sensed_along x old = old

    released_along : (x : SwitchBox) (s z : ℕ) → AlongAt p x → AlongAt p (released p x s z)
    unfolding released holder_of
    released_along x s z old = set_along _ z 0 (nobody z) (set_along _ s 0 (nobody s) old)

  -- A line with a train and a box put back, and with a train alone.
  put_along : (l : Line) (i : ℕ) (r : Train) (b : ℕ) (x : SwitchBox) → AlongAt (plan_at t b) x → AlongOn l → AlongOn (put l i r b x)
  put_along l i r b x this h = every_box l i r b x (λ c y. AlongAt (plan_at t c) y) this h

  alone : (l : Line) (i : ℕ) (r : Train) → AlongOn l → AlongOn (put_train l i r)
  alone l i r h = rw (train-alone l i r 0) at (put_along l i r 0 (box_at l 0) (h 0) h)

  -- What stands around a train, and plans, on a line with the table's directions.
  around_way : (l : Line) → Fixed t l → (i : ℕ) → TrainOf t i
      → (around l i).against ≡ runs_against (train_plan_at t i).direction (way_of t (around l i).next)
  unfolding around around_on
  around_way l f i k =
      let next = (around l i).next in
      ap (λ (u : Table). runs_against (train_at l i).direction (way_of u next)) f.table
      ∙ ap (λ d. runs_against d (way_of t next)) (f.directions i k)

  around_along : (l : Line) → Fixed t l → (i : ℕ) → (around l i).against ≡ false → PassesAlong (around l i).next (around l i).number
  unfolding around around_on
  around_along l f i e k = sym (around_way l f i k) ∙ e

  plan_fixed : (l : Line) → Fixed t l → (b : ℕ) → plan_at l.table b ≡ plan_at t b
  plan_fixed l f b = ap (λ (u : Table). plan_at u b) f.table

  -- Every step keeps it.
  keeps_along : (l : Line) → Fixed t l → (s : Step) (o : Outcome) → Does l s o → AlongOn l → AlongOn o.line
  keeps_along l f s o (refuses n other) h = h
  keeps_along l f s o (sends w) h = alone l _ _ h
  keeps_along l f s o (denies w n) h = alone l _ _ h
  keeps_along l f s o (grants {q} w) h =
      let plan = plan_fixed l f (request_box q) in
      put_along l _ _ _ _ (rw plan (granted_along _ (around l s.train) _ q (around_along l f s.train) (rw plan at w.code) (h (request_box q)))) h
  keeps_along l f s o (hears w) h = alone l _ _ h
  keeps_along l f s o (retries w) h = alone l _ _ h
  keeps_along l f s o (enters w) h = put_along l _ _ _ _ (sensed_along _ _ (h _)) h
  keeps_along l f s o (clears w) h = put_along l _ _ _ _ (rw (plan_fixed l f _) (released_along _ _ _ _ (h _))) h

  pub always_along : (l : Line) → Fixed t l → AlongOn l → (steps : List Step) → AlongOn (line_after step l steps)
  unfolding line_after
  always_along l f h [] = h
  always_along l f h (s ∷ rest) =
      let d = does l s in
      always_along (step l s).line (fixed_stays d f) (keeps_along l f s _ d h) rest

  -- A train passes what is reserved for it along its way.
  pub reserved_along : (l : Line) → AlongOn l → (b s i : ℕ) → holder_of (plan_at t b) (box_at l b) s ≡ i → PassesAlong s i
  reserved_along l h b s i e = rw e at (h b s)

  -- So a train that runs against the way of its next segment has it at no box, and is answered 31.
  module _ (l : Line) (f : Fixed t l) (h : AlongOn l) where
    elsewhere : (i b : ℕ) → TrainOf t i → runs_against (train_plan_at t i).direction (way_of t (around l i).next) ≡ true
        → stands (around l i) (plan_at l.table b) (box_at l b) (NextAt b) ≡ false
    unfolding stands around around_on
    elsewhere i b k against =
        ne_eqb _ i (λ own. false≢true (sym (reserved_along l h b _ i (rw (plan_fixed l f b) at own) k) ∙ against))

    pub way_told : (s : Step) (b : ℕ) → s.kind ≡ 3 → s.box ≡ 0 → TrainOf t s.train
        → (train_at l s.train).message ≡ Sent (Reserve b)
        → runs_against (train_plan_at t s.train).direction (way_of t (around l s.train).next) ≡ true → (step l s).code ≡ 31
    unfolding box_rows grant_rows holding gives_back request_box holding_box
    way_told s b kind box k asked against =
        box_says l s (Reserve b) kind box (rw f.table k) asked
        ∙ rw (elsewhere s.train b k against) (sym (first_hit _ _ 31 (around_way l f s.train k ∙ against) refl))

-- On the start line only first segments are reserved.
module _ (t : Table) (a : Accepted t) where
  start_holder_along : (b s j : ℕ) → j ≤ t.k → PassesAlong t s (start_holder (track_of t) t.trains t.routes b s j)
  unfolding start_holder starts_on train_plan_at
  start_holder_along b s zero high = nobody t s
  start_holder_along b s (suc j) high =
      cond_each (PassesAlong t s) (starts_on (track_of t) t.trains t.routes b s (suc j)) (suc j) _
      (λ e k. let first : on_route t (suc j) 1 ≡ s = (simp facts at e).0 in rw first at (a.along (suc j) k))
      (λ _. start_holder_along b s j (omega arith))

  start_box_along : (b : ℕ) → AlongAt t (plan_at t b) (start_box t b)
  unfolding start_box start_box_with holder_of plan_at
  start_box_along b s =
      let p = plan_at t b in
      let x = start_box t b in
      place_read (PassesAlong t s) s p.stem x.stem _ (λ e. rw e (start_holder_along b p.stem t.k (omega arith))) λ _.
      place_read (PassesAlong t s) s p.left x.left _ (λ e. rw e (start_holder_along b p.left t.k (omega arith))) λ _.
      place_read (PassesAlong t s) s p.right x.right _ (λ e. rw e (start_holder_along b p.right t.k (omega arith))) λ _.
      nobody t s

  none_along : (p : BoxPlan) → AlongAt t p no_box
  unfolding holder_of
  none_along p s =
      place_read (PassesAlong t s) s p.stem 0 _ (λ _. nobody t s) λ _.
      place_read (PassesAlong t s) s p.left 0 _ (λ _. nobody t s) λ _.
      place_read (PassesAlong t s) s p.right 0 _ (λ _. nobody t s) λ _. nobody t s

  pub start_along : AlongOn t (start_line t)
  start_along = each-start-box t a (λ b. AlongAt t (plan_at t b)) start_box_along (λ b. none_along (plan_at t b))
