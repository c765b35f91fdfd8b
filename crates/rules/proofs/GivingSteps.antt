-- What the steps of a give-back are on the settled line, and on the atomic one.
use Prim.Native.Nat.{ℕ, ◌+◌, ◌<◌}
use mathlib.Core.Path.{◌≡◌, refl, sym, ◌∙◌}
use mathlib.Core.Logic.{◌≢◌}
use mathlib.Core.Bool.{Bool, true, false, cond}
use native.Mathlib.Omega.{arith}
use Rattle.rules.specs.declared.Holding.{Holding}
use Rattle.rules.specs.declared.Holding.TheVariants.{NextAt, LockAt}
use Rattle.rules.specs.declared.Request.{Request}
use Rattle.rules.specs.declared.Message.TheVariants.{Idle, Sent}
use Rattle.rules.specs.declared.Train.{Train}
use Rattle.rules.specs.declared.Line.{Line}
use Rattle.rules.specs.declared.Around.{Around}
use Rattle.rules.specs.Rows.{first}
use Rattle.rules.specs.Track.{plan_at}
use Rattle.rules.specs.Line.{around_on, around, box_at, train_at, put_train, request_box, holding, gives_back}
use Rattle.rules.specs.Steps.{Step, recorded, request_rows, with_message, without_holding, granted, sending}
use Rattle.rules.specs.Safety.{TrainOf}
use Rattle.rules.specs.Invariant.{Granted, counted, settling, settled, believing, believed, sent, Open, Invariant}
use Rattle.rules.proofs.Frames.{put}
use Rattle.rules.proofs.StepKinds.{after_sending, after_request, after_grant, Sends, Answers}
use Rattle.rules.proofs.StepRows.{address_iff, request_iff}
use Rattle.rules.proofs.Holdings.{recorded_dropped, dropped_recorded, recorded_now, dropped_now}
use Rattle.rules.proofs.Settled.{line-sound, around_alike, message_alike, holding_alike, holding_message, sending_alike, idle_quiet, open_quiet, table-quiet, around-quiet, box-quiet, train_put_quiet, same_quiet}
use Rattle.rules.proofs.SettledSteps.{addressed_open, request-free, message_gone, message_recorded, message_now, idle_train, open_train, SameBut, settles, believes, others_count, grant_line}

-- A train that has sent a request has not recorded what it is about. One that has sent a give-back, once its message is taken away.
pub sending_unrecorded : (v : Around) (r : Train) (q : Request) → recorded v r (holding q) ≡ gives_back q
    → recorded v (sending v r q) (holding q) ≡ false
unfolding sending
sending_unrecorded v r q known = message_recorded v _ (Sent q) (holding q) ∙ by (gives_back q) known
  where
    by : (b : Bool) → recorded v r (holding q) ≡ b → recorded v (cond b (without_holding v r (holding q)) r) (holding q) ≡ false
    by true e = dropped_now v r (holding q)
    by false e = e

without_message : (v : Around) (r : Train) (z : Holding) → (without_holding v r z).message ≡ r.message
unfolding without_holding
without_message v r (NextAt b) = refl
without_message v r (LockAt b) = refl

pub sending_message : (v : Around) (r : Train) (q : Request) → (sending v r q).message ≡ Sent q
unfolding sending with_message
sending_message v r q = refl

sending_gone : (v : Around) (r : Train) (q : Request) → gives_back q ≡ true → r.message ≡ Idle
    → with_message (sending v r q) Idle ≡ without_holding v r (holding q)
unfolding sending with_message
sending_gone v r q gives idle = rw gives (message_gone (without_holding v r (holding q)) (without_message v r (holding q) ∙ idle))

-- The ends of a train's next segment are at two boxes.
ends_differ : {g : Granted} {l : Line} → Invariant g l → {i : ℕ} → TrainOf l.table i → (train_at l i).place < (train_at l i).length
    → (around l i).near_end ≢ (around l i).far_end
unfolding around around_on
ends_differ {l = l} h {i} k next =
    let sound = line-sound h in
    (sound.table.ends _ ((sound.trains i k).route.segment ((train_at l i).place + 1) (omega arith) (omega arith))).differ _

-- What has been granted changes from g to f, for the step's train alone.
module _ {l : Line} {s : Step} {q : Request} (gives : gives_back q ≡ true) {g f : Granted} (same : SameBut s.train g f) where
  -- On the settled line the record is gone when the give-back is sent, and the box alone changes when it is answered.
  pub send-settled : Sends l s q
      → settled f (after_sending l s.train q)
      ≡ put_train (settled g l) s.train (without_holding (around (settled g l) s.train) (train_at (settled g l) s.train) (holding q))
  unfolding around counted
  send-settled w =
      let i = s.train in
      let r = train_at l i in
      let idle = ((request_iff _ _ q).0 w.free).0 in
      let now : Open q (sending (around l i) r q).message = rw (sending_message (around l i) r q) sent in
      train_put_quiet (settling g) (settling f) l i (others_count settles same) (sending (around l i) r q)
      ∙ rw (open_quiet (settling f) _ (sending (around l i) r q) now, gives, sending_gone (around l i) r q gives idle, around-quiet, idle_train (settling g) l i idle)

  pub grant_settled : Answers l s q 0
      → settled f (after_grant l s.train q)
      ≡ put (settled g l) s.train (train_at (settled g l) s.train) (request_box q)
      (granted (around (settled g l) s.train) (plan_at (settled g l).table (request_box q)) (box_at (settled g l) (request_box q)) q)
  grant_settled w =
      let i = s.train in
      rw (grant_line settles l i same q, around-quiet, box-quiet, open_train (settling g) l i {q = q} (rw w.sent sent), table-quiet, gives)

  module _ (h : Invariant g l) where
    -- On the atomic line nothing changes when it is sent; it is carried out when it is answered first, and no row stops it there.
    pub send-believed : Sends l s q → f s.train ≡ false → believed f (after_sending l s.train q) ≡ believed g l
    unfolding around around_on counted
    send-believed w new =
        let i = s.train in
        let r = train_at l i in
        let (idle, (address, known)) = (request_iff (around l i) r q).0 w.free in
        let now : Open q (sending (around l i) r q).message = rw (sending_message (around l i) r q) sent in
        same_quiet (believing g) (believing f) l i (others_count believes same) _
        (open_quiet (believing f) _ (sending (around l i) r q) now
        ∙ rw (gives, new, around_alike _ _ i (sending_alike (around l i) r q), sending_gone (around l i) r q gives idle)
        (dropped_recorded (around l i) r (holding q) (ends_differ h w.train ((address_iff _ r q).0 address).0) (known ∙ gives)
        ∙ sym (idle_quiet (believing g) _ r idle)))

    module _ (w : Answers l s q 0) (new : g s.train ≡ false) where
      waiting : Open q (train_at l s.train).message
      waiting = rw w.sent sent

      pub grant_believed : f s.train ≡ true → believed f (after_grant l s.train q) ≡ after_request (believed g l) s.train q
      unfolding counted
      grant_believed done =
          let i = s.train in
          let r = train_at l i in
          let dropped = recorded_dropped (around l i) (with_message r Idle) (holding q) (message_recorded _ r Idle (holding q) ∙ h.unrecorded i w.train q waiting) in
          rw (grant_line believes l i same q, around-quiet, box-quiet, open_train (believing g) l i waiting, table-quiet, gives, new, done, dropped)

      pub grant_free : first (request_rows (around (believed g l) s.train) (train_at (believed g l) s.train) q) ≡ 0
      unfolding around counted
      grant_free =
          let i = s.train in
          let r = train_at l i in
          let address = addressed_open h i w.train q waiting in
          rw (around-quiet, open_train (believing g) l i waiting, gives, new)
          (request-free l.table l.routes i r q address (holding_alike _ (holding q) (message_alike r Idle))
          (holding_message _ _ (holding q) ∙ message_now r Idle)
          (recorded_now _ _ (holding q) ((address_iff _ r q).0 address).1 ∙ sym gives))
