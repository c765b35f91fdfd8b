-- What the record check (code 27) looks for, as facts.
use Prim.Native.Nat.{ℕ, ◌≤◌}
use mathlib.Core.Path.{◌≡◌, refl}
use mathlib.Core.Logic.{◌↔◌}
use mathlib.Core.Bool.{true, false}
use mathlib.Core.List.{List}
use native.Mathlib.Omega.{arith}
use Rattle.rules.specs.declared.BoxPlan.{BoxPlan}
use Rattle.rules.specs.declared.Table.{Table}
use Rattle.rules.specs.declared.SwitchBox.{SwitchBox}
use Rattle.rules.specs.declared.Request.{Request}
use Rattle.rules.specs.declared.Message.{Message}
use Rattle.rules.specs.declared.Message.TheVariants.{Idle, Sent, Answered, Lost}
use Rattle.rules.specs.declared.Train.{Train}
use Rattle.rules.specs.declared.Line.{Line}
use Rattle.rules.specs.Rows.{first}
use Rattle.rules.specs.Track.{plan_at, position_fits, track_of, way_of, point_at}
use Rattle.rules.specs.declared.Around.{Around}
use Rattle.rules.specs.Line.{around_train, box_at, train_at}
use Rattle.rules.specs.Steps.{most_covered, address_rows}
use Rattle.rules.specs.Record.{answer_code, address_fault, message_fault, train_fault, switch_box_fault, trains_fault, switch_boxes_fault, record_fault}
use Rattle.rules.specs.Safety.{TrainOf}
use Rattle.rules.specs.Invariant.{Open, sent, answered, lost}
use Rattle.rules.proofs.Tests.{facts}
use Rattle.rules.proofs.Accepted.{Accepted, BoxOf, Routed, any_train_iff, any_box_iff, routed_iff, accepted_iff}

-- Train i by its record r, its route in `routes`: it has a route, it covers a segment and no more than it may, and it stands on
-- its route, front and tail.
pub record Placed (t : Table) (routes : List ℕ) (i : ℕ) (r : Train) : Type 0 where
  pub route : Routed t.n (track_of t) routes i r.direction r.length
  pub some : 1 ≤ r.covered
  pub most : r.covered ≤ most_covered
  pub tail : r.covered ≤ r.place
  pub front : r.place ≤ r.length

-- A box of this plan on a line of k trains: its position fits, and its holders are trains or nobody.
pub record BoxSound (k : ℕ) (p : BoxPlan) (x : SwitchBox) : Type 0 where
  pub position : position_fits p x.position ≡ true
  pub lock : x.lock ≤ k
  pub stem : x.stem ≤ k
  pub left : x.left ≤ k
  pub right : x.right ≤ k

-- An open message has a request that codes 16 and 17 do not stop, and an answer has one of its box's codes.
pub data MessageSound (v : Around) (r : Train) : Message → Type 0 where
  silent : MessageSound v r Idle
  on_its_way : {q : Request} → first (address_rows v r q) ≡ 0 → MessageSound v r (Sent q)
  answering : {q : Request} {c : ℕ} → first (address_rows v r q) ≡ 0 → answer_code q c ≡ true → MessageSound v r (Answered q c)
  missing : {q : Request} → first (address_rows v r q) ≡ 0 → MessageSound v r (Lost q)

message_iff : (v : Around) (r : Train) (g : Message) → (message_fault v r g ≡ false) ↔ MessageSound v r g
unfolding message_fault address_fault
message_iff v r Idle = (λ _. silent, λ _. refl)
message_iff v r (Sent q) = simp facts (on_its_way, back)
  where
    back : MessageSound v r (Sent q) → first (address_rows v r q) ≡ 0
    back (on_its_way e) = e
message_iff v r (Answered q c) = simp facts (λ (e, f). answering e f, back)
  where
    back : MessageSound v r (Answered q c) → (first (address_rows v r q) ≡ 0) × (answer_code q c ≡ true)
    back (answering e f) = (e, f)
message_iff v r (Lost q) = simp facts (missing, back)
  where
    back : MessageSound v r (Lost q) → first (address_rows v r q) ≡ 0
    back (missing e) = e

pub open_address : {v : Around} {r : Train} {g : Message} {q : Request} → MessageSound v r g → Open q g → first (address_rows v r q) ≡ 0
open_address silent o = elim o [ ]
open_address (on_its_way e) sent = e
open_address (answering e f) answered = e
open_address (missing e) lost = e

pub record LineSound (l : Line) : Type 0 where
  pub table : Accepted l.table
  pub trains : (i : ℕ) → TrainOf l.table i → Placed l.table l.routes i (train_at l i)
  pub messages
      : (i : ℕ) → TrainOf l.table i
      → MessageSound (around_train l.table l.routes i (train_at l i)) (train_at l i) (train_at l i).message
  pub boxes : (b : ℕ) → BoxOf l.table.m b → BoxSound l.table.k (plan_at l.table b) (box_at l b)

-- A train and a box: the check finds nothing exactly where this holds.
train_iff : (t : Table) (routes : List ℕ) (i : ℕ) (r : Train)
    → (train_fault t.n (track_of t) (way_of t) (point_at t) routes i r ≡ false)
    ↔ (Placed t routes i r × MessageSound (around_train t routes i r) r r.message)
unfolding train_fault
train_iff t routes i r =
    simp (facts, routed_iff, message_iff) (
      λ ((((((route, place), front), tail), covered), most), message).
          (record { route = route; some = omega arith; most = omega arith; tail = omega arith; front = omega arith }, message),
      λ (h, message). ((((((h.route, omega arith), omega arith), omega arith), omega arith), omega arith), message),
    )

box-sound_iff : (k : ℕ) (p : BoxPlan) (x : SwitchBox) → (switch_box_fault k p x ≡ false) ↔ BoxSound k p x
unfolding switch_box_fault
box-sound_iff k p x =
    simp facts (
      λ ((((position, lock), stem), left), right).
          record {
            position = position;
            lock = omega arith;
            stem = omega arith;
            left = omega arith;
            right = omega arith;
          },
      λ h. ((((h.position, omega arith), omega arith), omega arith), omega arith),
    )

pub sound_iff : (l : Line) → (record_fault l ≡ false) ↔ LineSound l
unfolding record_fault trains_fault switch_boxes_fault plan_at box_at train_at
sound_iff l =
    simp (facts, any_train_iff, any_box_iff, accepted_iff, train_iff, box-sound_iff) (
      λ ((table, trains), boxes).
          record {
            table = table;
            trains = λ i h. (trains i h).0;
            messages = λ i h. (trains i h).1;
            boxes = boxes;
          },
      λ h. ((h.table, λ i k. (h.trains i k, h.messages i k)), h.boxes),
    )
