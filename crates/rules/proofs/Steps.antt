-- A step by row Step: 13, 14, or its effect put back.
use Prim.Native.Nat.{ℕ, ◌≤◌}
use mathlib.Core.Path.{◌≡◌, refl, sym, ◌∙◌, ap}
use mathlib.Core.Logic.Iff
use mathlib.Core.Logic.{◌⊎◌, ◌↔◌, ◌≢◌}
use mathlib.Core.Bool.{Bool, true, false, ◌&&◌}
use lib.Dec.{eqb, leb}
use Rattle.rules.specs.declared.Request.{Request}
use Rattle.rules.specs.declared.Message.{Message}
use Rattle.rules.specs.declared.Message.TheVariants.{Sent}
use Rattle.rules.specs.declared.Line.{Line}
use Rattle.rules.specs.Ends.{Effect}
use Rattle.rules.specs.declared.Outcome.{Outcome}
use Rattle.rules.specs.Rows.{first, outside}
use Rattle.rules.specs.Track.{plan_at}
use Rattle.rules.specs.Line.{around, box_at, train_at, request_box, message_box}
use Rattle.rules.specs.Steps.{Step, box_rows, apply, unless, reply, box_answers, formed, form_rows, step_rows, concerned_box, effect, step}
use Rattle.rules.specs.Safety.{TrainOf}
use Rattle.rules.proofs.Tests.{facts, or-true_iff, outside-false_iff, first-none, first_zero_iff}

-- The kinds that there are.
pub formed_iff : (kind box : ℕ)
    → (formed kind box ≡ true)
    ↔ (((((1 ≤ kind) × (kind ≤ 2)) ⊎ (((3 ≤ kind) × (kind ≤ 6)) × (box ≡ 0))) ⊎ ((7 ≤ kind) × (kind ≤ 8)))
    ⊎ (((9 ≤ kind) × (kind ≤ 10)) × (box ≡ 0)))
unfolding formed
formed_iff kind box =
    let asks : ((leb 1 kind && leb kind 2) ≡ true) ↔ ((1 ≤ kind) × (kind ≤ 2)) = simp facts Iff.rfl in
    let plain : ((leb 3 kind && leb kind 6 && eqb box 0) ≡ true) ↔ (((3 ≤ kind) × (kind ≤ 6)) × (box ≡ 0)) = simp facts Iff.rfl in
    let returns : ((leb 7 kind && leb kind 8) ≡ true) ↔ ((7 ≤ kind) × (kind ≤ 8)) = simp facts Iff.rfl in
    let radio : ((leb 9 kind && leb kind 10 && eqb box 0) ≡ true) ↔ (((9 ≤ kind) × (kind ≤ 10)) × (box ≡ 0)) = simp facts Iff.rfl in
    or-true_iff _ _ (or-true_iff _ _ (or-true_iff _ _ asks plain) returns) radio

-- Row Step stops nothing: there is such a step, and such a train.
pub form_row_iff : (kind box : ℕ) → (first (form_rows kind box) ≡ 0) ↔ (formed kind box ≡ true)
unfolding form_rows
form_row_iff kind box = simp (facts, first_zero_iff, first-none) (λ (form, none). form, λ form. (form, refl))

pub step_row_iff : (k : ℕ) (s : Step) → (first (step_rows k s) ≡ 0) ↔ ((formed s.kind s.box ≡ true) × (outside k s.train ≡ false))
unfolding step_rows form_rows
step_row_iff k s =
    simp (facts, first_zero_iff, first-none) (λ (form, (train, none)). (form, train), λ (form, train). (form, (train, refl)))

module _ (l : Line) (s : Step) where
  -- The box that the step concerns, and what it does there.
  abbrev pub box_here : ℕ
  box_here = concerned_box s.kind (around l s.train) (train_at l s.train)

  abbrev pub effect_here : Effect
  effect_here =
      effect s.kind s.box (around l s.train) (train_at l s.train) (plan_at l.table box_here) (box_at l box_here)

  -- 13, and 14.
  pub step_unformed : (c : ℕ) → c ≡ first (form_rows s.kind s.box) → c ≢ 0 → record { code = c; line = l } ≡ step l s
  unfolding step step_rows form_rows first unless apply
  step_unformed c e some = go (formed s.kind s.box) refl
    where
      go : (b : Bool) → formed s.kind s.box ≡ b → record { code = c; line = l } ≡ step l s
      go true form = absurd (some (e ∙ (form_row_iff s.kind s.box).1 form))
      go false form = rw (e, form) refl

  module _ (form : formed s.kind s.box ≡ true) where
    pub step_unknown : outside l.table.k s.train ≡ true → record { code = 14; line = l } ≡ step l s
    unfolding step step_rows form_rows first unless apply
    step_unknown e = rw (form, e) refl

    pub step_taken : outside l.table.k s.train ≡ false → apply l s.train box_here effect_here ≡ step l s
    unfolding step step_rows form_rows first unless
    step_taken e = rw (form, e) refl

-- Kind 3 of a train whose message is on its way to a box: the code is that of the box's rows.
pub box_says : (l : Line) (s : Step) (q : Request) → s.kind ≡ 3 → s.box ≡ 0 → TrainOf l.table s.train
    → (train_at l s.train).message ≡ Sent q
    → (step l s).code ≡ first (box_rows (around l s.train) (plan_at l.table (request_box q)) (box_at l (request_box q)) q)
unfolding formed concerned_box effect box_answers reply apply message_box
box_says l s q kind box k asked =
    let form : formed s.kind s.box ≡ true = rw (kind, box) in
    ap (λ (o : Outcome). o.code) (sym (step_taken l s form ((outside-false_iff _ _).1 (k.low, k.high))))
    ∙ rw kind (by (train_at l s.train).message asked)
  where
    by : (g : Message) → g ≡ Sent q
        → (apply l s.train (message_box g)
        (box_answers (around l s.train) (train_at l s.train) (plan_at l.table (message_box g)) (box_at l (message_box g)) g)).code
        ≡ first (box_rows (around l s.train) (plan_at l.table (request_box q)) (box_at l (request_box q)) q)
    by g e = rw e
