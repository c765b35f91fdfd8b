-- What the rows of codes of a step say where they stop nothing.
use Prim.Native.Nat.{ℕ, ◌≤◌, ◌<◌}
use mathlib.Core.Path.{◌≡◌, refl, sym, ◌∙◌, ap}
use mathlib.Core.Logic.Iff
use mathlib.Core.Logic.{◌↔◌, ◌≢◌}
use mathlib.Core.Bool.{Bool, true, false, cond, not, ◌&&◌, ◌||◌, false≢true}
use mathlib.Core.List.{List, [], ◌∷◌}
use native.Mathlib.Omega.{arith}
use Rattle.rules.specs.declared.BoxPlan.{BoxPlan}
use Rattle.rules.specs.declared.Table.{Table}
use Rattle.rules.specs.declared.SwitchBox.{SwitchBox}
use Rattle.rules.specs.declared.Holding.{Holding}
use Rattle.rules.specs.declared.Holding.TheVariants.{NextAt, LockAt}
use Rattle.rules.specs.declared.Request.{Request}
use Rattle.rules.specs.declared.Message.{Message}
use Rattle.rules.specs.declared.Message.TheVariants.{Idle, Sent, Answered, Lost}
use Rattle.rules.specs.declared.Train.{Train}
use Rattle.rules.specs.Rows.{◌if◌, first}
use Rattle.rules.specs.declared.Around.{Around}
use Rattle.rules.specs.Line.{around_on, around_train, holder_of, holding, gives_back}
use Rattle.rules.specs.Steps.{is_open, addressed, recorded, at_end, address_rows, record_rows, request_rows, stands, given, freed, granted, enter_rows, clear_rows, another, grant_rows, box_rows}
use Rattle.rules.specs.Invariant.{Open, sent, answered, lost}
use Rattle.rules.proofs.Tests.{facts, cond_each, implies_iff, first-none, first_zero_iff}

-- A holder that is nobody else than train i.
pub another-false_iff : (i holder : ℕ) → (another i holder ≡ false) ↔ (holder ≢ 0 → holder ≡ i)
unfolding another
another-false_iff i holder = simp facts Iff.rfl

-- No message is open.
closed_iff : (g : Message) → (is_open g ≡ false) ↔ (g ≡ Idle)
unfolding is_open
closed_iff Idle = (λ _. refl, λ _. refl)
closed_iff (Sent q) = (λ e. absurd (false≢true (sym e)), λ e. ap is_open e)
closed_iff (Answered q c) = (λ e. absurd (false≢true (sym e)), λ e. ap is_open e)
closed_iff (Lost q) = (λ e. absurd (false≢true (sym e)), λ e. ap is_open e)

pub not_open : {q : Request} {g : Message} → g ≡ Idle → Open q g → ⊥
unfolding is_open
not_open {q} {g} e w = false≢true (sym ((closed_iff g).1 e) ∙ open_message w)
  where
    open_message : {g : Message} → Open q g → is_open g ≡ true
    open_message sent = refl
    open_message answered = refl
    open_message lost = refl

-- Messages of different kinds differ, and an answer has one code.
pub not-answered : {q z : Request} {c : ℕ} → Answered q c ≡ Sent z → ⊥
not-answered e = let z : ◌≡◌ {A = ℕ} 0 1 = cc in omega arith

pub answered-not-lost : {q z : Request} {c : ℕ} → Answered q c ≡ Lost z → ⊥
answered-not-lost e = let z : ◌≡◌ {A = ℕ} 0 1 = cc in omega arith

pub same_code : {q z : Request} {c d : ℕ} → Answered q c ≡ Answered z d → c ≡ d
same_code e = cc

-- An open message has one request.
pub open_same : {q z : Request} {g : Message} → Open q g → Open z g → q ≡ z
open_same sent sent = refl
open_same answered answered = refl
open_same lost lost = refl

-- Codes 16 and 17: the train has a next, and the request is made at its box.
pub address_iff : (v : Around) (r : Train) (q : Request)
    → (first (address_rows v r q) ≡ 0) ↔ ((r.place < r.length) × (addressed v (holding q) ≡ true))
unfolding address_rows at_end
address_iff v r q = simp (facts, first_zero_iff, first-none) (λ e. (e.0, e.1.0), λ e. (e.0, (e.1, refl)))

-- Codes 18 and 29: what is given back is recorded, and what is asked for is not.
record_iff : (v : Around) (r : Train) (q : Request)
    → (first (record_rows v r q) ≡ 0) ↔ (recorded v r (holding q) ≡ gives_back q)
unfolding record_rows first
record_iff v r q = by (gives_back q) (recorded v r (holding q))
  where
    by : (g h : Bool) → (first (18 if (not g && h) ∷ 29 if (g && not h) ∷ []) ≡ 0) ↔ (h ≡ g)
    by true true = (λ _. refl, λ _. refl)
    by true false = (λ e. absurd (omega (arith, e)), λ e. absurd (false≢true e))
    by false true = (λ e. absurd (omega (arith, e)), λ e. absurd (false≢true (sym e)))
    by false false = (λ _. refl, λ _. refl)

-- A request may be sent: no message is open, 16 and 17 do not stop it, nor do 18 and 29.
pub request_iff : (v : Around) (r : Train) (q : Request)
    → (first (request_rows v r q) ≡ 0)
    ↔ ((r.message ≡ Idle) × ((first (address_rows v r q) ≡ 0) × (recorded v r (holding q) ≡ gives_back q)))
unfolding request_rows address_rows at_end
request_iff v r q =
    simp (facts, closed_iff, first_zero_iff, first-none, record_iff) (
      λ (closed, (next, (at, fits))). (closed, ((next, (at, refl)), fits)),
      λ (closed, ((next, (at, none)), fits)). (closed, (next, (at, fits))),
    )

-- What a train asks for, and whether it has recorded that, does not hang on how much it covers, nor on its message.
module _ (t : Table) (routes : List ℕ) (i : ℕ) (r : Train) (covered : ℕ) (message : Message) where
  abbrev pub showing : Train
  showing =
      record {
        direction = r.direction;
        length = r.length;
        place = r.place;
        covered = covered;
        near = r.near;
        far = r.far;
        lock = r.lock;
        message = message;
      }

  addressed_same : (h : Holding) → addressed (around_train t routes i showing) h ≡ addressed (around_train t routes i r) h
  unfolding addressed around_on
  addressed_same (NextAt b) = refl
  addressed_same (LockAt b) = refl

  pub address_same : (q : Request) → address_rows (around_train t routes i showing) showing q ≡ address_rows (around_train t routes i r) r q
  unfolding address_rows at_end
  address_same q = rw (addressed_same (holding q))

  pub recorded_same : (h : Holding) → recorded (around_train t routes i showing) showing h ≡ recorded (around_train t routes i r) r h
  unfolding recorded around_on
  recorded_same (NextAt b) = refl
  recorded_same (LockAt b) = refl

pub lock_address_iff : (v : Around) (b : ℕ) → (addressed v (LockAt b) ≡ true) ↔ ((b ≡ v.ahead) × (v.point ≡ true))
unfolding addressed
lock_address_iff v b = simp facts Iff.rfl

-- A box gives a reservation: the train does not run against the way of its next segment, and nobody else holds that.
pub next_grant_iff : (v : Around) (p : BoxPlan) (x : SwitchBox) (b : ℕ)
    → (first (grant_rows v p x (NextAt b)) ≡ 0) ↔ ((v.against ≡ false) × (another v.number (holder_of p x v.next) ≡ false))
unfolding grant_rows
next_grant_iff v p x b =
    simp (first_zero_iff, first-none) (λ (along, (free, none)). (along, free), λ (along, free). (along, (free, refl)))

-- A box gives its lock: it is nobody else's, its sensor is passive, and front and next are reserved for the train there.
pub lock_grant_iff : (v : Around) (p : BoxPlan) (x : SwitchBox) (b : ℕ)
    → (first (grant_rows v p x (LockAt b)) ≡ 0)
    ↔ ((another v.number x.lock ≡ false)
    × ((x.sensor ≡ false) × ((holder_of p x v.front ≡ v.number) × (holder_of p x v.next ≡ v.number))))
unfolding grant_rows
lock_grant_iff v p x b =
    simp (facts, first_zero_iff, first-none) (
      λ (unheld, (passive, (both, none))). (unheld, (passive, both)),
      λ (unheld, (passive, both)). (unheld, (passive, (both, refl))),
    )

-- A box's answer: yes to a give-back and to what it has for the train already, else by the rows of what is asked for.
pub box_each : (P : ℕ → Type 0) (v : Around) (p : BoxPlan) (x : SwitchBox) (q : Request)
    → P 0 → (gives_back q ≡ false → stands v p x (holding q) ≡ false → P (first (grant_rows v p x (holding q)))) → P (first (box_rows v p x q))
unfolding box_rows first
box_each P v p x q always asked = by (gives_back q) (stands v p x (holding q)) asked
  where
    by : (g s : Bool) → (g ≡ false → s ≡ false → P (first (grant_rows v p x (holding q))))
        → P (first (cond (g || s) [] (grant_rows v p x (holding q))))
    by true s asked = always
    by false true asked = always
    by false false asked = asked refl refl

-- What holds of a box with what is asked for given to the train, of one with what was the train's freed, and of the box as it was,
-- holds of it after its yes.
pub granted_each : (P : SwitchBox → Type 0) (v : Around) (p : BoxPlan) (x : SwitchBox) (q : Request)
    → (gives_back q ≡ false → stands v p x (holding q) ≡ false → P (given v p x (holding q)))
    → (gives_back q ≡ true → stands v p x (holding q) ≡ true → P (freed v p x (holding q))) → P x → P (granted v p x q)
unfolding granted
granted_each P v p x q asks gives same =
    cond_each P (gives_back q) _ _
    (λ e. cond_each P (stands v p x (holding q)) _ _ (gives e) (λ _. same))
    (λ e. cond_each P (stands v p x (holding q)) _ _ (λ _. same) (asks e))

-- Enter: the train is single, has a next, and has recorded what it needs.
pub enter_iff : (v : Around) (r : Train)
    → (first (enter_rows v r) ≡ 0)
    ↔ ((r.covered < 2) × ((r.place < r.length) × ((r.near ≡ true) × ((r.far ≡ true) × (v.point ≡ true → r.lock ≡ true)))))
unfolding enter_rows at_end
enter_iff v r =
    simp (facts, implies_iff, first_zero_iff, first-none) (
      λ (single, (next, ((ends, lock), none))).
          let both : (r.near ≡ true) × (r.far ≡ true) = ends in
          (single, (next, (both.0, (both.1, lock)))),
      λ (single, (next, (near, (far, lock)))).
          let both : (r.near ≡ true) × (r.far ≡ true) = (near, far) in
          (single, (next, ((both, lock), refl))),
    )

-- Clear: the train is crossing.
pub clear_iff : (r : Train) → (first (clear_rows r) ≡ 0) ↔ (2 ≤ r.covered)
unfolding clear_rows
clear_iff r = simp (facts, first_zero_iff, first-none) (omega arith)
