-- A single step: what is looked up on the line and decided for it is the step of `rules`.
use Rattle.std.proofs.Common.{◌≡◌, ◌∙◌, ℕ, true, false, not, eqb, ltb, List, Result, sym, ap, le-ltb, eqb-true}
use Rattle.std.specs.Prelude.{is_err}
use Rattle.rules.specs.declared.BoxPlan.{BoxPlan}
use Rattle.rules.specs.declared.SwitchBox.{SwitchBox}
use Rattle.rules.specs.declared.Train.{Train}
use Rattle.rules.specs.declared.Table.{Table}
use Rattle.rules.specs.declared.Line.{Line}
use Rattle.rules.specs.declared.Around.{Around}
use Rattle.rules.specs.declared.errors.FileError.{FileError}
use Rattle.rules.specs.Ends.{Effect}
use Rattle.rules.specs.Errors.{refused}
use Rattle.rules.specs.Rows.{first, outside, nth}
use Rattle.rules.specs.Track.{Track, track_of, way_of, no_box_plan, plan_at}
use Rattle.rules.specs.Placing.{table_code, parts_refusal, table_refusal}
use Rattle.rules.specs.Line.{no_box, no_train, around_train, around, box_at, train_at}
use Rattle.rules.specs.Steps.{Step, apply, form_rows, concerned_box, effect, step}
use Rattle.rules.proofs.Refusals.{table_coded}
use Rattle.rules.proofs.Accepted.{accepted}
use Rattle.checking.proofs.Laws.{refused_tested}
use Rattle.rules.proofs.Steps.{form_row_iff, box_here, step_unknown, step_taken}
use Rattle.traincomputer.specs.Sight.{around_in}

-- A step that 13 does not stop.
module _ (l : Line) (s : Step) (form : 0 ≡ first (form_rows s.kind s.box)) where
  -- 14.
  pub unknown : true ≡ outside l.table.k s.train → record { code = 14; line = l } ≡ step l s
  unknown out = step_unknown l s ((form_row_iff _ _).0 (sym form)) (sym out)

  -- What is decided of the train with record r, around which v stands, at box e with plan p and state x.
  pub decided : (a b ways kinds : List ℕ) {t r : Train} {v : Around} {e : ℕ} {q p : BoxPlan} {y x : SwitchBox} {d : Effect}
      → false ≡ outside l.table.k s.train → around_in a b ways kinds l.routes ≡ around_train l.table l.routes
      → t ≡ no_train → r ≡ nth l.trains s.train t → v ≡ around_in a b ways kinds l.routes s.train r
      → e ≡ concerned_box s.kind v r → q ≡ no_box_plan → p ≡ nth l.table.boxes e q → y ≡ no_box → x ≡ nth l.boxes e y
      → d ≡ effect s.kind s.box v r p x → apply l s.train e d ≡ step l s
  unfolding around train_at plan_at box_at
  decided a b ways kinds {r = r} {v = v} {e = e} {p = p} {x = x} inside shown no-train train view at no-plan plan no-state state done =
      let number = (form_row_iff _ _).0 (sym form) in
      let read : r ≡ train_at l s.train = rw no-train at train in
      let seen : v ≡ around l s.train = rw (read, shown) at view in
      let here : e ≡ box_here l s = rw (seen, read) at at in
      let planned : p ≡ plan_at l.table (box_here l s) = rw (no-plan, here) at plan in
      let stands : x ≡ box_at l (box_here l s) = rw (no-state, here) at state in
      rw (here, done, planned, stands, seen, read) (step_taken l s number (sym inside))

-- What is found at the table of a record, r, is its code; and where that is 0 there is room for its boxes.
pub table_tested : {A : Type 0} (t : Table) (track : Track) (way : ℕ → ℕ) (r : Result A FileError) → track ≡ track_of t → way ≡ way_of t
    → refused r ≡ parts_refusal t.version t.n t.m t.k track way t.boxes t.trains t.routes → is_err r ≡ not (eqb (table_code t) 0)
unfolding table_refusal
table_tested t track way r on ways told = refused_tested r _ (rw (on, ways) at told) ∙ ap (λ c. not (eqb c 0)) (table_coded t)

pub boxes_roomy : (t : Table) → eqb (table_code t) 0 ≡ true → ltb 96 t.m ≡ false
boxes_roomy t e = le-ltb 96 t.m (accepted t (eqb-true _ 0 e)).limits.boxes_high

pub ruleset record_parts = (table_tested, boxes_roomy)
