-- On a line that the record check passes, the box that a step concerns is one of the table.
use Prim.Native.Nat.{ℕ, ◌≤◌}
use mathlib.Core.Path.{◌≡◌, refl, sym}
use mathlib.Core.Logic.{◌≢◌}
use mathlib.Core.Bool.{false}
use native.Mathlib.Omega.{arith}
use lib.Dec.{eqb}
use Rattle.rules.specs.declared.BoxPlan.{BoxPlan}
use Rattle.rules.specs.declared.SwitchBox.{SwitchBox}
use Rattle.rules.specs.declared.Request.{Request}
use Rattle.rules.specs.declared.Message.{Message}
use Rattle.rules.specs.declared.Message.TheVariants.{Idle, Sent, Answered, Lost}
use Rattle.rules.specs.declared.Line.{Line}
use Rattle.rules.specs.declared.Around.{Around}
use Rattle.rules.specs.Ends.Effect.{Refused}
use Rattle.rules.specs.Line.{around_on, around, train_at, request_box, message_box}
use Rattle.rules.specs.Steps.{box_answers, concerned_box}
use Rattle.rules.specs.Record.{record_fault}
use Rattle.rules.specs.Safety.{TrainOf}
use Rattle.rules.specs.Invariant.{Open, sent, answered, lost}
use Rattle.rules.proofs.Tests.{cond_each}
use Rattle.rules.proofs.Accepted.{BoxOf}
use Rattle.rules.proofs.Sound.{LineSound, open_address, sound_iff}
use Rattle.rules.proofs.Change.{ahead-box, passed_box}
use Rattle.rules.proofs.Requesting.{request_box_lem}

unboxed : {m b : ℕ} → BoxOf m b → b ≢ 0
unboxed h e = omega arith

module _ (l : Line) (sound : record_fault l ≡ false) (i : ℕ) (train : TrainOf l.table i) where
  found : LineSound l
  found = (sound_iff l).0 sound

  -- The box ahead, the box passed, and the box of an open message.
  pub ahead-there : BoxOf l.table.m (around l i).ahead
  unfolding around around_on
  ahead-there = ahead-box found.table (found.trains i train)

  pub passed_there : BoxOf l.table.m (around l i).passed
  unfolding around around_on
  passed_there = passed_box found.table (found.trains i train)

  open_there : {q : Request} → Open q (train_at l i).message → BoxOf l.table.m (request_box q)
  open_there {q} o = request_box_lem found.table (found.trains i train) q (open_address (found.messages i train) o)

  message_there : (g : Message) → (train_at l i).message ≡ g → message_box g ≢ 0 → BoxOf l.table.m (message_box g)
  unfolding message_box
  message_there Idle e n = absurd (n refl)
  message_there (Sent q) e n = open_there (rw e sent)
  message_there (Answered q c) e n = open_there (rw e answered)
  message_there (Lost q) e n = open_there (rw e lost)

  pub asked-there : message_box (train_at l i).message ≢ 0 → BoxOf l.table.m (message_box (train_at l i).message)
  asked-there = message_there _ refl

  -- The box of any step, where there is one.
  abbrev There : ℕ → Type 0
  There b = b ≢ 0 → BoxOf l.table.m b

  pub concerned_there : (kind : ℕ) → There (concerned_box kind (around l i) (train_at l i))
  unfolding concerned_box
  concerned_there kind =
      cond_each There (eqb kind 3) _ _ (λ _. asked-there) λ _.
      cond_each There (eqb kind 5) _ _ (λ _ _. ahead-there) λ _.
      cond_each There (eqb kind 6) _ _ (λ _ _. passed_there) λ _ n. absurd (n refl)

  -- Where the message has no box, kind 3 is refused with 21.
  nothing_sent : (v : Around) (p : BoxPlan) (x : SwitchBox) (g : Message) → (train_at l i).message ≡ g → message_box g ≡ 0
      → box_answers v (train_at l i) p x g ≡ Refused 21
  unfolding box_answers message_box
  nothing_sent v p x Idle e none = refl
  nothing_sent v p x (Sent q) e none = absurd (unboxed (open_there (rw e sent)) none)
  nothing_sent v p x (Answered q c) e none = refl
  nothing_sent v p x (Lost q) e none = refl

  pub unasked : (v : Around) (p : BoxPlan) (x : SwitchBox) → message_box (train_at l i).message ≡ 0
      → Refused 21 ≡ box_answers v (train_at l i) p x (train_at l i).message
  unasked v p x none = sym (nothing_sent v p x _ refl none)

-- Records have room for the trains and boxes of such a line.
pub box_room : (l : Line) → record_fault l ≡ false → {b : ℕ} → BoxOf l.table.m b → b ≤ 96
box_room l sound there = let high = ((sound_iff l).0 sound).table.limits.boxes_high in omega arith

pub train_room : (l : Line) → record_fault l ≡ false → l.table.k ≤ 16
train_room l sound = ((sound_iff l).0 sound).table.limits.trains_high
