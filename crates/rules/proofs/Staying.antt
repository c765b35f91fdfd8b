-- Kinds 1 to 4 and 7 to 10 leave a train where it stands.
use Prim.Native.Nat.{ℕ}
use mathlib.Core.Path.{◌≡◌}
use mathlib.Core.Bool.{Bool, true, false, cond}
use lib.Dec.{eqb}
use Rattle.rules.specs.declared.BoxPlan.{BoxPlan}
use Rattle.rules.specs.declared.SwitchBox.{SwitchBox}
use Rattle.rules.specs.declared.Request.{Request}
use Rattle.rules.specs.declared.Request.TheVariants.{Reserve, Lock, GiveBack, Unlock}
use Rattle.rules.specs.declared.Message.{Message}
use Rattle.rules.specs.declared.Message.TheVariants.{Idle, Sent, Answered, Lost}
use Rattle.rules.specs.declared.Train.{Train}
use Rattle.rules.specs.declared.Around.{Around}
use Rattle.rules.specs.Ends.{Effect}
use Rattle.rules.specs.Ends.Effect.{Refused, Changed}
use Rattle.rules.specs.Rows.{first}
use Rattle.rules.specs.Steps.{request_rows, unless, send, reply, box_answers, train_hears, lose, send_again, alone}
use Rattle.rules.proofs.Settled.{Alike, message_alike, sending_alike, heard_alike}

-- The train after an effect stands as train r does.
pub data Stays (r : Train) : Effect → Type 0 where
  refused : {c : ℕ} → Stays r (Refused c)
  changed : {c : ℕ} {t : Train} {x : SwitchBox} → Alike t r → Stays r (Changed c t x)

module _ (v : Around) (r : Train) (x : SwitchBox) where
  either : (b : Bool) {d e : Effect} → Stays r d → Stays r e → Stays r (cond b d e)
  either true h k = h
  either false h k = k

  send_stays : (q : Request) → Stays r (send v r x q)
  unfolding send unless
  send_stays q = either (eqb (first (request_rows v r q)) 0) (changed (sending_alike v r q)) refused

  hear_stays : (g : Message) → Stays r (train_hears v r x g)
  unfolding train_hears
  hear_stays Idle = refused
  hear_stays (Sent q) = refused
  hear_stays (Answered q c) = changed (heard_alike v r q c)
  hear_stays (Lost q) = refused

  lose_stays : (g : Message) → Stays r (lose r x g)
  unfolding lose
  lose_stays Idle = refused
  lose_stays (Sent q) = changed (message_alike r _)
  lose_stays (Answered q c) = changed (message_alike r _)
  lose_stays (Lost q) = refused

  again_stays : (g : Message) → Stays r (send_again r x g)
  unfolding send_again
  again_stays Idle = refused
  again_stays (Sent q) = refused
  again_stays (Answered q c) = refused
  again_stays (Lost q) = changed (message_alike r _)

  pub alone_stays : (kind box : ℕ) → Stays r (alone kind box v r x)
  unfolding alone
  alone_stays kind box =
      either (eqb kind 1) (send_stays (Reserve box))
      (either (eqb kind 2) (send_stays (Lock box))
      (either (eqb kind 4) (hear_stays r.message)
      (either (eqb kind 7) (send_stays (GiveBack box))
      (either (eqb kind 8) (send_stays (Unlock box))
      (either (eqb kind 9) (lose_stays r.message) (either (eqb kind 10) (again_stays r.message) refused))))))

  pub answer_stays : (p : BoxPlan) (g : Message) → Stays r (box_answers v r p x g)
  unfolding box_answers reply
  answer_stays p Idle = refused
  answer_stays p (Sent q) = changed (message_alike r _)
  answer_stays p (Answered q c) = refused
  answer_stays p (Lost q) = refused

-- So does a train that is changed.
pub stays_alike : {r : Train} {d : Effect} {c : ℕ} {t : Train} {x : SwitchBox} → Stays r d → d ≡ Changed c t x → Alike t r
stays_alike {r} {d} {c} {t} {x} h e = go (rw e at h)
  where
    go : Stays r (Changed c t x) → Alike t r
    go (changed a) = a
