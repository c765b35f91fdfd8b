-- What a step does to places, positions, table and routes.
use Prim.Native.Nat.{ℕ, ◌+◌, ◌-◌, ◌≤◌}
use mathlib.Core.Path.{◌≡◌, refl, sym, ◌∙◌}
use mathlib.Core.Logic.Iff
use mathlib.Core.Logic.{◌↔◌, ◌≢◌}
use mathlib.Core.Bool.{true, false, false≢true}
use mathlib.Core.List.{List, [], ◌∷◌}
use native.Mathlib.Decide.{ℕ_discrete}
use native.Mathlib.Omega.{arith}
use Rattle.rules.specs.declared.BoxPlan.{BoxPlan}
use Rattle.rules.specs.declared.Table.{Table}
use Rattle.rules.specs.declared.Holding.{Holding}
use Rattle.rules.specs.declared.Holding.TheVariants.{NextAt, LockAt}
use Rattle.rules.specs.declared.Request.{Request}
use Rattle.rules.specs.declared.SwitchBox.{SwitchBox}
use Rattle.rules.specs.declared.Train.{Train}
use Rattle.rules.specs.declared.Line.{Line}
use Rattle.rules.specs.declared.Outcome.{Outcome}
use Rattle.rules.specs.Rows.{first}
use Rattle.rules.specs.declared.Around.{Around}
use Rattle.rules.specs.Line.{box_at, train_at, put_train, set_holder, holding}
use Rattle.rules.specs.Steps.{Step, grant_rows, box_rows, given, freed, granted, entered, sensed, cleared, released, step}
use Rattle.rules.specs.History.{Event, ◌answered◌, Place, accepted, moved, line_after}
use Rattle.rules.specs.Safety.{TrainOf, Fixed, place_in, place_of}
use Rattle.rules.proofs.Tests.{facts, not_passed}
use Rattle.rules.proofs.Frames.{put, Sized, table_put, routes_put, train_put, train_other, box_other, every_train, every_box, train_back, train-alone}
use Rattle.rules.proofs.StepRows.{lock_grant_iff, granted_each}
use Rattle.rules.proofs.Settled.{Alike, message_alike, sending_alike, heard_alike}
use Rattle.rules.proofs.StepKinds.{request_kind_lem, Does, refuses, sends, denies, grants, hears, retries, enters, clears, does}

-- An event is an accepted step of this kind of train i.
accepted_move_iff : (kind i : ℕ) (e : Event)
    → (accepted kind i e ≡ true) ↔ (((e.step.kind ≡ kind) × (e.step.train ≡ i)) × (e.answer ≡ 0))
unfolding accepted
accepted_move_iff kind i e = simp facts Iff.rfl

-- Train i's place after an event: as it was where the event is no accepted move of it, and after an Enter and a Clear.
module _ (i : ℕ) (p : Place) (e : Event) where
  no_move : (5 ≤ e.step.kind → e.step.kind ≤ 6 → e.step.train ≡ i → e.answer ≡ 0 → ⊥)
      → (kind : ℕ) → 5 ≤ kind → kind ≤ 6 → accepted kind i e ≡ false
  no_move n kind low high =
      not_passed _ λ h.
      let ((k, t), a) = (accepted_move_iff kind i e).0 h in
      n (omega arith) (omega arith) t a

  stays : (5 ≤ e.step.kind → e.step.kind ≤ 6 → e.step.train ≡ i → e.answer ≡ 0 → ⊥) → p ≡ moved i p e
  unfolding moved
  stays n = rw (no_move n 5 (omega arith) (omega arith), no_move n 6 (omega arith) (omega arith))

  enters_next : e.step.kind ≡ 5 → e.step.train ≡ i → e.answer ≡ 0
      → record { place = p.place + 1; covered = p.covered + 1 } ≡ moved i p e
  unfolding moved
  enters_next k t a = rw ((accepted_move_iff 5 i e).1 ((k, t), a))

  clears_tail : e.step.kind ≡ 6 → e.step.train ≡ i → e.answer ≡ 0
      → record { place = p.place; covered = p.covered - 1 } ≡ moved i p e
  unfolding moved
  clears_tail k t a =
      rw (not_passed (accepted 5 i e) (λ h. absurd (omega (arith, (accepted_move_iff 5 i e).0 h))), (accepted_move_iff 6 i e).1 ((k, t), a))

-- A box becomes another whose position differs only where the sensor is passive before and after.
pub record Still (x y : SwitchBox) : Type 0 where
  pub before : x.sensor ≡ true → y.position ≡ x.position
  pub after : y.sensor ≡ true → y.position ≡ x.position

unmoved : {x y : SwitchBox} → y.position ≡ x.position → Still x y
unmoved e = record { before = λ _. e; after = λ _. e }

-- A box that gives what is asked for: row 23 stops a lock where the sensor is active.
given_still : (v : Around) (p : BoxPlan) (x : SwitchBox) (h : Holding) → first (grant_rows v p x h) ≡ 0 → Still x (given v p x h)
unfolding given set_holder
given_still v p x (NextAt b) e = unmoved refl
given_still v p x (LockAt b) e =
    let (_, (passive, _)) = (lock_grant_iff v p x b).0 e in
    record { before = λ h. absurd (false≢true (sym passive ∙ h)); after = λ h. absurd (false≢true (sym passive ∙ h)) }

freed_still : (v : Around) (p : BoxPlan) (x : SwitchBox) (h : Holding) → Still x (freed v p x h)
unfolding freed set_holder
freed_still v p x (NextAt b) = unmoved refl
freed_still v p x (LockAt b) = unmoved refl

granted_still : (v : Around) (p : BoxPlan) (x : SwitchBox) (q : Request) → first (box_rows v p x q) ≡ 0 → Still x (granted v p x q)
unfolding box_rows
granted_still v p x q e =
    granted_each (Still x) v p x q (λ n m. given_still v p x (holding q) (rw (n, m) at e)) (λ _ _. freed_still v p x (holding q)) (unmoved refl)

-- Records of a train that stand alike are at one place.
pub place_alike : {r x : Train} → Alike r x → place_in r ≡ place_in x
place_alike h = rw (h.place, h.covered)

-- A train becomes another of the same direction and route length, which is at this place.
pub record Runs (r : Train) (at : Place) (to : Train) : Type 0 where
  pub direction : to.direction ≡ r.direction
  pub length : to.length ≡ r.length
  pub place : place_in to ≡ at

-- One that stands alike runs so where the event is no accepted move of it.
runs_alike : {r to : Train} → Alike to r → (i : ℕ) (e : Event)
    → (5 ≤ e.step.kind → e.step.kind ≤ 6 → e.step.train ≡ i → e.answer ≡ 0 → ⊥) → Runs r (moved i (place_in r) e) to
runs_alike h i e n = record { direction = h.direction; length = h.length; place = place_alike h ∙ stays i _ e n }

-- What a step puts back: its train and a box.
record PutBack (l : Line) (s : Step) (o : Outcome) : Type 0 where
  train : Train
  box : ℕ
  switch : SwitchBox
  line : o.line ≡ put l s.train train box switch
  runs : Runs (train_at l s.train) (moved s.train (place_of l s.train) (s answered o.code)) train
  still : Still (box_at l box) switch

-- A train and a box, and a train alone.
module _ (l : Line) (s : Step) (c : ℕ) where
  both : (r : Train) (b : ℕ) (x : SwitchBox)
      → Runs (train_at l s.train) (moved s.train (place_of l s.train) (s answered c)) r
      → Still (box_at l b) x → PutBack l s (record { code = c; line = put l s.train r b x })
  both r b x h k = record { train = r; box = b; switch = x; line = refl; runs = h; still = k }

  alone : (r : Train)
      → Runs (train_at l s.train) (moved s.train (place_of l s.train) (s answered c)) r
      → PutBack l s (record { code = c; line = put_train l s.train r })
  alone r h = rw train-alone at (both r 0 (box_at l 0) h (unmoved refl))

put_back : (l : Line) (s : Step) (o : Outcome) → Does l s o → PutBack l s o
unfolding entered cleared sensed released set_holder
put_back l s o (refuses n other) =
    record {
      train = train_at l s.train;
      box = 0;
      switch = box_at l 0;
      line = sym (train-alone l s.train (train_at l s.train) 0 ∙ train_back l s.train);
      runs = record { direction = refl; length = refl; place = stays _ _ _ (λ _ _ _ a. n a) };
      still = unmoved refl;
    }
put_back l s o (sends {q} h) =
    alone l s 0 _ (runs_alike (sending_alike _ _ q) _ _ (λ low high _ _. request_kind_lem q s.kind (omega arith) high (sym h.kind)))
put_back l s o (denies h n) = alone l s _ _ (runs_alike (message_alike _ _) _ _ (λ _ _ _ a. n a))
put_back l s o (grants {q} h) =
    both l s 0 _ _ _ (runs_alike (message_alike _ _) _ _ (λ a _ _ _. omega (arith, h.kind))) (granted_still _ _ _ q h.code)
put_back l s o (hears {q} {c} h) =
    alone l s c _ (runs_alike (heard_alike _ _ q c) _ _ (λ a _ _ _. omega (arith, h.kind)))
put_back l s o (retries h) = alone l s 0 _ (runs_alike (message_alike _ _) _ _ (λ _ a _ _. omega (arith, h.low)))
put_back l s o (enters h) =
    both l s 0 _ _ _ (record { direction = refl; length = refl; place = enters_next _ _ _ h.kind refl refl }) (unmoved refl)
put_back l s o (clears h) =
    both l s 0 _ _ _ (record { direction = refl; length = refl; place = clears_tail _ _ _ h.kind refl refl }) (unmoved refl)

-- So of the line after the step:
module _ {l : Line} {s : Step} {o : Outcome} (d : Does l s o) where
  -- The table, the routes, and each train's direction and route length stay.
  pub table_stays : o.line.table ≡ l.table
  table_stays = let h = put_back l s o d in rw h.line (table_put l _ _ _ _)

  routes_stay : o.line.routes ≡ l.routes
  routes_stay = let h = put_back l s o d in rw h.line (routes_put l _ _ _ _)

  directions_stay : (i : ℕ) → (train_at o.line i).direction ≡ (train_at l i).direction
  directions_stay =
      let h = put_back l s o d in
      rw h.line (every_train l _ _ _ _ (λ i r. r.direction ≡ (train_at l i).direction) h.runs.direction (λ i. refl))

  lengths_stay : (i : ℕ) → (train_at o.line i).length ≡ (train_at l i).length
  lengths_stay =
      let h = put_back l s o d in
      rw h.line (every_train l _ _ _ _ (λ i r. r.length ≡ (train_at l i).length) h.runs.length (λ i. refl))

  pub fixed_stays : {t : Table} → Fixed t l → Fixed t o.line
  fixed_stays f =
      record {
        table = table_stays ∙ f.table;
        routes = routes_stay ∙ f.routes;
        directions = λ i k. directions_stay i ∙ f.directions i k;
        lengths = λ i k. lengths_stay i ∙ f.lengths i k;
      }

  -- Each train is where the step as an event says.
  pub places_move : Sized l → (i : ℕ) → TrainOf l.table i
      → place_of o.line i ≡ moved i (place_of l i) (s answered o.code)
  places_move room i k =
      let h = put_back l s o d in
      elim (ℕ_discrete i s.train) [
        | yes e ↦ rw (h.line, e, train_put l _ _ _ _ room (rw e at k)) h.runs.place
        | no n ↦ rw (h.line, train_other l _ _ _ _ n) (stays _ _ _ (λ _ _ t _. n (sym t)))
      ]

  -- A box whose sensor is active, before the step or after it, keeps its position.
  pub boxes_still : (b : ℕ) → Still (box_at l b) (box_at o.line b)
  boxes_still =
      let h = put_back l s o d in
      rw h.line (every_box l _ _ _ _ (λ b x. Still (box_at l b) x) h.still (λ b. unmoved refl))

  -- No other train changes, and at most one box.
  pub other_trains : (j : ℕ) → j ≢ s.train → train_at o.line j ≡ train_at l j
  other_trains j n = let h = put_back l s o d in rw h.line (train_other l _ _ _ _ n)

  pub other_boxes : (b : ℕ) × ((c : ℕ) → c ≢ b → box_at o.line c ≡ box_at l c)
  other_boxes = let h = put_back l s o d in (h.box, λ c n. rw h.line (box_other l _ _ _ _ n))

-- The table stays after every list of steps.
pub tables_stay : (l : Line) (steps : List Step) → (line_after step l steps).table ≡ l.table
unfolding line_after
tables_stay l [] = refl
tables_stay l (s ∷ rest) = tables_stay (step l s).line rest ∙ table_stays (does l s)
