-- A line with its trains' messages taken away, as the settled line and the atomic line have it: its trains, and what putting back a
-- train and a box makes of it.
use Prim.Native.Nat.{ℕ, zero, suc, ◌+◌, ◌≤◌, ◌<◌}
use mathlib.Core.Path.{◌≡◌, refl, sym, ◌∙◌, ap}
use mathlib.Core.Logic.{◌≢◌}
use mathlib.Core.Bool.{Bool, true, false, cond, not, ◌&&◌}
use mathlib.Core.List.{List}
use native.Mathlib.Decide.{ℕ_discrete, dec_lt}
use native.Mathlib.Numerals.{add-one}
use native.Mathlib.Omega.{arith}
use lib.Dec.{eqb}
use lib.ListN.{length, get_or, set, length-set, get_or-eq_default}
use lib.Seq.{ext_get_or, get_or-set_same, get_or-set_other}
use Rattle.rules.specs.declared.Table.{Table}
use Rattle.rules.specs.declared.SwitchBox.{SwitchBox}
use Rattle.rules.specs.declared.Holding.{Holding}
use Rattle.rules.specs.declared.Holding.TheVariants.{NextAt, LockAt}
use Rattle.rules.specs.declared.Request.{Request}
use Rattle.rules.specs.declared.Message.{Message}
use Rattle.rules.specs.declared.Message.TheVariants.{Idle, Sent, Answered, Lost}
use Rattle.rules.specs.declared.Train.{Train}
use Rattle.rules.specs.declared.Line.{Line}
use Rattle.rules.specs.Rows.{first, nth, set_nth, list_of}
use Rattle.rules.specs.declared.Around.{Around}
use Rattle.rules.specs.Line.{no_train, around_on, around_train, around, box_at, train_at, put_train, put_box, holding, gives_back}
use Rattle.rules.specs.Steps.{at_end, address_rows, with_message, with_holding, without_holding, sending, heard, cleared}
use Rattle.rules.specs.Invariant.{Granted, Counts, counted, quiet_by, quiet_train, quiet, Open, sent, answered, lost, Invariant}
use Rattle.rules.proofs.Tests.{cond_each}
use Rattle.rules.proofs.Rows.{list_length, list_at, list_same, list_all}
use Rattle.rules.proofs.Frames.{put, Sized, train_back}
use Rattle.rules.proofs.Sound.{LineSound, sound_iff}

-- A line between two steps is sound, and has room for the trains and boxes of its table.
pub line-sound : {g : Granted} {l : Line} → Invariant g l → LineSound l
line-sound {l = l} h = (sound_iff l).0 h.sound

pub sized : {g : Granted} {l : Line} → Invariant g l → Sized l
sized {l = l} h =
    let limits = (line-sound h).table.limits in
    let trains = h.trains in
    let boxes = h.boxes in
    omega arith

module _ {ℓ} {A : Type ℓ} (d : A) where
  -- A list with each of it changed by its number: what stands in it, and the list with its i-th replaced, where the others are changed as
  -- before.
  abbrev each : (ℕ → A → A) → List A → List A
  each g l = list_of (length l) (λ i. g i (nth l i d))

  each_nth : (g : ℕ → A → A) → ((i : ℕ) → g i d ≡ d) → (l : List A) (i : ℕ) → nth (each g l) i d ≡ g i (nth l i d)
  unfolding nth
  each_nth g e l zero = sym (e zero)
  each_nth g e l (suc i) =
      elim (dec_lt i (length l)) [
        | yes h ↦ rw (list_at _ (length l) i d h, add-one)
        | no n ↦ past (omega arith)
      ]
    where
      past : length l ≤ i → get_or (each g l) i d ≡ g (suc i) (get_or l i d)
      past h =
          let m : length (each g l) ≤ i = simp list_length h in
          rw (get_or-eq_default l d h, get_or-eq_default (each g l) d m, e)

  each_set : (g f : ℕ → A → A) (l : List A) (i : ℕ) (a : A) → ((j : ℕ) → j ≢ i → (x : A) → f j x ≡ g j x)
      → each f (set_nth l i a) ≡ set_nth (each g l) i (f i a)
  unfolding nth set_nth
  each_set g f l zero a same = list_same _ _ (length l) λ j h. same (j + 1) (λ e. omega (arith, e)) _
  each_set g f l (suc i) a same =
      ext_get_or d _ _ (simp (list_length, length-set)) λ j h.
      let k : j < length (set l i a) = simp list_length at h in
      let m : j < length l = simp length-set at k in
      rw (list_at _ (length (set l i a)) j d k, add-one)
      (elim (ℕ_discrete j i) [
        | yes e ↦
            let z : i < length (each g l) = simp list_length (omega arith) in
            rw (e, get_or-set_same l i a d (omega arith), get_or-set_same (each g l) i (f (suc i) a) d z)
        | no n ↦
            rw (get_or-set_other l i j a d n, get_or-set_other (each g l) i j (f (suc i) a) d n, list_at _ (length l) j d m, add-one)
            (same (suc j) (λ e. n (omega (arith, e))) _)
      ])

-- Two records of a train that differ at most in what it has recorded and in its message.
pub record Alike (r x : Train) : Type 0 where
  pub direction : r.direction ≡ x.direction
  pub length : r.length ≡ x.length
  pub place : r.place ≡ x.place
  pub covered : r.covered ≡ x.covered

pub around_alike : (t : Table) (routes : List ℕ) (i : ℕ) {r x : Train} → Alike r x
    → around_train t routes i r ≡ around_train t routes i x
unfolding around_on
around_alike t routes i h = rw (h.direction, h.place, h.covered)

pub address_alike : (t : Table) (routes : List ℕ) (i : ℕ) {r x : Train} → Alike r x → (q : Request)
    → first (address_rows (around_train t routes i x) x q) ≡ 0 → first (address_rows (around_train t routes i r) r q) ≡ 0
unfolding address_rows at_end
address_alike t routes i h q e = rw (around_alike t routes i h, h.place, h.length) e

-- What a train keeps with another message, when it records a holding or drops the record, when it sends, and when it hears an answer.
pub message_alike : (r : Train) (g : Message) → Alike (with_message r g) r
unfolding with_message
message_alike r g = record { direction = refl; length = refl; place = refl; covered = refl }

pub holding_alike : (v : Around) {r x : Train} (h : Holding) → Alike r x → Alike (with_holding v r h) x
unfolding with_holding
holding_alike v (NextAt b) h = record { direction = h.direction; length = h.length; place = h.place; covered = h.covered }
holding_alike v (LockAt b) h = record { direction = h.direction; length = h.length; place = h.place; covered = h.covered }

without_alike : (v : Around) (r : Train) (h : Holding) → Alike (without_holding v r h) r
unfolding without_holding
without_alike v r (NextAt b) = record { direction = refl; length = refl; place = refl; covered = refl }
without_alike v r (LockAt b) = record { direction = refl; length = refl; place = refl; covered = refl }

pub holding_message : (v : Around) (r : Train) (h : Holding) → (with_holding v r h).message ≡ r.message
unfolding with_holding
holding_message v r (NextAt b) = refl
holding_message v r (LockAt b) = refl

pub sending_alike : (v : Around) (r : Train) (q : Request) → Alike (sending v r q) r
unfolding sending with_message
sending_alike v r q = by (gives_back q)
  where
    by : (b : Bool) → Alike (with_message (cond b (without_holding v r (holding q)) r) (Sent q)) r
    by true = let h = without_alike v r (holding q) in record { direction = h.direction; length = h.length; place = h.place; covered = h.covered }
    by false = message_alike r (Sent q)

-- A train with its message taken away: what holds of it with what the message is about recorded, and without, holds of it in either way.
each-counted
    : (P : Train → Type 0) (v : Around) (r : Train) (q : Request) (b : Bool)
    → P (with_holding v (with_message r Idle) (holding q)) → P (with_message r Idle) → P (counted v r q b)
unfolding counted
each-counted P v r q b h k = cond_each P b _ _ (λ _. h) (λ _. k)

counted_alike : (v : Around) (r : Train) (q : Request) (b : Bool) → Alike (counted v r q b) r
counted_alike v r q b =
    let gone = message_alike r Idle in
    each-counted (λ x. Alike x r) v r q b (holding_alike v (holding q) gone) gone

-- So it is when the train hears an answer.
pub heard-counted : (v : Around) (r : Train) (q : Request) (c : ℕ) → heard v r q c ≡ counted v r q (eqb c 0 && not (gives_back q))
unfolding heard counted
heard-counted v r q c = refl

pub heard_alike : (v : Around) (r : Train) (q : Request) (c : ℕ) → Alike (heard v r q c) r
heard_alike v r q c = rw heard-counted (counted_alike v r q _)

pub heard_message : (v : Around) (r : Train) (q : Request) (c : ℕ) → (heard v r q c).message ≡ Idle
unfolding with_message
heard_message v r q c = rw heard-counted (each-counted (λ x. x.message ≡ Idle) v r q _ (holding_message _ _ (holding q)) refl)

-- A train clears its tail before or after its message is taken away.
counted-cleared
    : (v w : Around) → v.near_end ≡ w.near_end → v.far_end ≡ w.far_end → (r : Train) (q : Request) (b : Bool)
    → counted v (cleared r) q b ≡ cleared (counted w r q b)
unfolding counted with_message with_holding cleared
counted-cleared v w near far r q b = by (holding q) b
  where
    by : (h : Holding) (b : Bool)
        → cond b (with_holding v (with_message (cleared r) Idle) h) (with_message (cleared r) Idle)
        ≡ cleared (cond b (with_holding w (with_message r Idle) h) (with_message r Idle))
    by (NextAt b) true = rw (near, far)
    by (LockAt b) true = refl
    by h false = refl

-- By what counts as recorded: a train without a message is as it was; one with an open message.
module _ (n : Counts) (v : Around) (r : Train) where
  pub idle_quiet : r.message ≡ Idle → quiet_train n v r ≡ r
  unfolding quiet_train quiet_by
  idle_quiet e = ap (quiet_by n v r) e

  pub open_quiet : {q : Request} → Open q r.message → quiet_train n v r ≡ counted v r q (n v.number (gives_back q))
  unfolding quiet_train quiet_by
  open_quiet {q} o = by o
    where
      by : {g : Message} → Open q g → quiet_by n v r g ≡ counted v r q (n v.number (gives_back q))
      by sent = refl
      by answered = refl
      by lost = refl

  -- It stays where it stands, whatever its message.
  stands-quiet : Alike (quiet_train n v r) r
  unfolding quiet_train quiet_by
  stands-quiet = by r.message
    where
      by : (g : Message) → Alike (quiet_by n v r g) r
      by Idle = record { direction = refl; length = refl; place = refl; covered = refl }
      by (Sent q) = counted_alike v r q _
      by (Answered q c) = counted_alike v r q _
      by (Lost q) = counted_alike v r q _

  -- It may clear its tail before or after, seen from the same number and with next at the same ends.
  pub clears_quiet : (w : Around) → w.number ≡ v.number → w.near_end ≡ v.near_end → w.far_end ≡ v.far_end
      → quiet_train n w (cleared r) ≡ cleared (quiet_train n v r)
  unfolding quiet_train quiet_by cleared
  clears_quiet w number near far = by r.message
    where
      pending : (q : Request)
          → counted w (cleared r) q (n w.number (gives_back q)) ≡ cleared (counted v r q (n v.number (gives_back q)))
      pending q = counted-cleared w v near far r q _ ∙ ap (λ (i : ℕ). cleared (counted v r q (n i (gives_back q)))) number

      by : (g : Message) → quiet_by n w (cleared r) g ≡ cleared (quiet_by n v r g)
      by Idle = refl
      by (Sent q) = pending q
      by (Answered q c) = pending q
      by (Lost q) = pending q

  -- It hangs on what counts for this train alone.
  same_counts : (m : Counts) → ((b : Bool) → m v.number b ≡ n v.number b) → quiet_train m v r ≡ quiet_train n v r
  unfolding quiet_train quiet_by
  same_counts m e = by r.message
    where
      by : (g : Message) → quiet_by m v r g ≡ quiet_by n v r g
      by Idle = refl
      by (Sent q) = rw (e (gives_back q))
      by (Answered q c) = rw (e (gives_back q))
      by (Lost q) = rw (e (gives_back q))

-- The line with all messages taken away so: its table, trains and boxes.
module _ (n : Counts) (l : Line) where
  pub table-quiet : (quiet n l).table ≡ l.table
  unfolding quiet
  table-quiet = refl

  module _ (i : ℕ) where
    pub train-quiet : train_at (quiet n l) i ≡ quiet_train n (around l i) (train_at l i)
    unfolding quiet train_at around
    train-quiet =
        each_nth no_train (λ j r. quiet_train n (around_train l.table l.routes j r) r) (λ j. idle_quiet n _ no_train refl) l.trains i

    pub alike_quiet : Alike (train_at (quiet n l) i) (train_at l i)
    alike_quiet = rw train-quiet (stands-quiet n _ (train_at l i))

    pub around-quiet : around (quiet n l) i ≡ around l i
    unfolding around quiet
    around-quiet = around_alike _ _ i alike_quiet

    pub box-quiet : box_at (quiet n l) i ≡ box_at l i
    unfolding quiet box_at
    box-quiet = refl

  -- Where no train has a message, it is the line itself.
  pub line_quiet : ((i : ℕ) → (train_at l i).message ≡ Idle) → quiet n l ≡ l
  unfolding quiet train_at
  line_quiet none =
      let trains = list_same (λ i. quiet_train n (around l i) (train_at l i)) (λ i. train_at l i) (length l.trains)
      (λ i h. idle_quiet n (around l (i + 1)) (train_at l (i + 1)) (none (i + 1))) in
      rw (trains, list_all l.trains no_train)

-- The line with train i put back as r, alone or with a box. What counts may have changed, for train i alone.
module _ (n m : Counts) (l : Line) (i : ℕ) (same : (j : ℕ) → j ≢ i → (b : Bool) → m j b ≡ n j b) (r : Train) where
  pub train_put_quiet : quiet m (put_train l i r) ≡ put_train (quiet n l) i (quiet_train m (around_train l.table l.routes i r) r)
  unfolding quiet put_train train_at around around_on
  train_put_quiet =
      rw (each_set no_train (λ j z. quiet_train n (around_train l.table l.routes j z) z)
      (λ j z. quiet_train m (around_train l.table l.routes j z) z) l.trains i r (λ j e z. same_counts n _ z m (same j e)))

  pub put_quiet : (b : ℕ) (x : SwitchBox)
      → quiet m (put l i r b x) ≡ put (quiet n l) i (quiet_train m (around_train l.table l.routes i r) r) b x
  unfolding quiet put_train put_box train_at around
  put_quiet b x = ap (λ (k : Line). put_box k b x) train_put_quiet

  pub same_quiet : quiet_train m (around_train l.table l.routes i r) r ≡ quiet_train n (around l i) (train_at l i)
      → quiet m (put_train l i r) ≡ quiet n l
  same_quiet e = train_put_quiet ∙ rw (e, ← train-quiet) (train_back (quiet n l) i)
