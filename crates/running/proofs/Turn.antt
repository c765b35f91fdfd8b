-- A step as the loop takes it: what it looks up and has decided is the step of `rules`, and what is kept of the line is kept.
use Rattle.std.proofs.Common.{ℕ, suc, ◌-◌, ◌≤◌, ◌<◌, ◌≡◌, ◌≢◌, refl, sym, ◌∙◌, ap, true, false, List, arith, ne_eqb, get_or, set, length-set}
use Rattle.rules.specs.declared.Table.{Table}
use Rattle.rules.specs.declared.SwitchBox.{SwitchBox}
use Rattle.rules.specs.declared.Train.{Train}
use Rattle.rules.specs.declared.Line.{Line}
use Rattle.rules.specs.declared.Around.{Around}
use Rattle.rules.specs.declared.Outcome.{Outcome}
use Rattle.rules.specs.declared.errors.StepError.{StepError}
use Rattle.rules.specs.Ends.{Effect}
use Rattle.rules.specs.Ends.Effect.{Refused, Changed}
use Rattle.rules.specs.Errors.{step_code}
use Rattle.rules.specs.Rows.{first, outside, nth, set_nth}
use Rattle.rules.specs.Track.{no_box_plan, plan_at}
use Rattle.rules.specs.Line.{no_box, no_train, around_train, around, box_at, train_at, put_train, put_box, message_box}
use Rattle.rules.specs.Steps.{Step, apply, enter, clear, box_answers, alone, formed, form_rows, concerned_box, effect, step}
use Rattle.rules.specs.Record.{record_fault}
use Rattle.rules.specs.Safety.{TrainOf}
use Rattle.rules.proofs.Tests.{outside-false_iff}
use Rattle.rules.proofs.Accepted.{BoxOf}
use Rattle.rules.proofs.Coded.{step_coded}
use Rattle.rules.proofs.Steps.{form_row_iff, box_here, effect_here, step_unformed, step_unknown, step_taken}
use Rattle.rules.proofs.Checked.{sound_here, sound-next}
use Rattle.rules.proofs.Settled.{Alike, around_alike}
use Rattle.rules.proofs.Staying.{stays_alike, answer_stays, alone_stays}
use Rattle.rules.proofs.Concerned.{ahead-there, passed_there, asked-there, unasked, box_room, train_room}
use Rattle.columns.specs.declared.Columns.{Columns}
use Rattle.traincomputer.specs.Sight.{around_in}
use Rattle.running.specs.Loop.{standing, Seen, Kept, no_around}
use Rattle.running.proofs.Views.{seen-moved, seen_stays}

-- 13: the line stays as it is.
pub unformed : (l : Line) (s : Step) (e : StepError) → step_code e ≡ first (form_rows s.kind s.box)
    → record { code = step_code e; line = l } ≡ step l s
unformed l s e is = step_unformed l s (step_code e) is (step_coded e)

-- 14, of a line l with what is kept of it; it is the line m.
pub unknown : {k : Columns} {l m : Line} {seen : List Around} → Kept k l seen → l ≡ m → (s : Step)
    → 0 ≡ first (form_rows s.kind s.box) → true ≡ outside l.table.k s.train → record { code = 14; line = m } ≡ step m s
unknown {l = l} h view s passes out = rw (← view) (step_unknown l s ((form_row_iff _ _).0 (sym passes)) (sym out))

-- A step of the train at index i that these do not stop.
pub record Taken (t : Table) (s : Step) (i : ℕ) : Type 0 where
  pub form : formed s.kind s.box ≡ true
  pub inside : outside t.k s.train ≡ false
  pub index : i ≡ s.train - 1

-- The effect d of a step of the train at index i at box e: put back, it is the step.
pub record Turned (l : Line) (s : Step) (i e : ℕ) (d : Effect) : Type 0 where
  pub is : apply l (suc i) e d ≡ step l s

-- Such a step on a line that the record check passes.
module _ (l : Line) (s : Step) (i : ℕ) (sound : record_fault l ≡ false) (w : Taken l.table s i) where
  train_there : TrainOf l.table s.train
  train_there = let number = (outside-false_iff _ _).0 w.inside in omega arith

  numbered : s.train ≡ suc i
  numbered = let low = train_there.low in omega (arith, w.index)

  train_inside : (1 ≤ s.train) × (s.train ≤ 16)
  train_inside =
      let there = train_there in
      let room = train_room l sound in
      (there.low, omega arith)

  pub train_read : get_or l.trains i no_train ≡ train_at l s.train
  unfolding train_at nth
  train_read = rw numbered refl

  -- What is decided of the train, around which v stands, at box e is the step.
  pub turned : (v : Around) → v ≡ around l s.train → (e : ℕ) (d : Effect) → e ≡ concerned_box s.kind v (get_or l.trains i no_train)
      → d ≡ effect s.kind s.box v (get_or l.trains i no_train) (plan_at l.table e) (box_at l e) → Turned l s i e d
  turned v v-is e d e-is d-is =
      let box : e ≡ box_here l s = rw (v-is, train_read) at e-is in
      let same : d ≡ effect_here l s = rw (box, v-is, train_read) at d-is in
      record { is = rw (← numbered, same, box) (step_taken l s w.form w.inside) }

-- Such a step of a line l with what is kept of it; it is the line m.
pub record Going (k : Columns) (l m : Line) (seen : List Around) (s : Step) (i : ℕ) : Type 0 where
  pub from : Kept k l seen
  pub view : l ≡ m
  pub taken : Taken l.table s i

pub goes : {k : Columns} {l m : Line} {seen : List Around} {s : Step} {i : ℕ} → Kept k l seen → l ≡ m
    → 0 ≡ first (form_rows s.kind s.box) → false ≡ outside l.table.k s.train → i ≡ s.train - 1 → Going k l m seen s i
goes h view passes there i-is =
    record { from = h; view = view; taken = record { form = (form_row_iff _ _).0 (sym passes); inside = sym there; index = i-is } }

module _ {k : Columns} {l m : Line} {seen : List Around} {s : Step} {i : ℕ} (g : Going k l m seen s i) where
  checked : record_fault l ≡ false
  checked = sound_here l g.from.sound

  there : TrainOf l.table s.train
  there = train_there l s i checked g.taken

  here : s.train ≡ suc i
  here = numbered l s i checked g.taken

  pub train_within : (1 ≤ s.train) × (s.train ≤ 16)
  train_within = train_inside l s i checked g.taken

  low : i < 16
  low = omega (arith, train_within, here)

  -- The train's record, and what stands around it.
  abbrev train : Train
  train = get_or l.trains i no_train

  read : train ≡ train_at l s.train
  read = train_read l s i checked g.taken

  abbrev view : Around
  view = get_or seen i no_around

  viewed : view ≡ around l s.train
  unfolding around train_at nth
  viewed = rw here (g.from.looked.is i low)

  -- The box ahead, the box passed and the box of a message are there.
  within : {e : ℕ} → BoxOf l.table.m e → (1 ≤ e) × (e ≤ 96)
  within box = (box.low, box_room l checked box)

  pub ahead-within : (1 ≤ view.ahead) × (view.ahead ≤ 96)
  ahead-within = rw viewed (within (ahead-there l checked _ there))

  pub passed-within : (1 ≤ view.passed) × (view.passed ≤ 96)
  passed-within = rw viewed (within (passed_there l checked _ there))

  pub asked-within : (e : ℕ) → e ≡ message_box train.message → e ≢ 0 → (1 ≤ e) × (e ≤ 96)
  asked-within e e-is some = rw (e-is, read) (within (asked-there l checked _ there (rw (e-is, read) at some)))

  -- What is decided is the step, by the kind.
  decides : (e : ℕ) (d : Effect) → e ≡ concerned_box s.kind view train
      → d ≡ effect s.kind s.box view train (plan_at l.table e) (box_at l e) → Turned l s i e d
  decides = turned l s i checked g.taken view viewed

  pub answers : {e j : ℕ} {d : Effect} → s.kind ≡ 3 → e ≡ message_box train.message → e ≢ 0 → j ≡ e - 1
      → d ≡ box_answers view train (get_or l.table.boxes j no_box_plan) (get_or l.boxes j no_box) train.message → Turned l s i (suc j) d
  unfolding concerned_box effect plan_at box_at nth
  answers {e} {j} {d} kind e-is some j-is d-is =
      let box : message_box train.message ≡ suc j = sym e-is ∙ (let low = asked-within e e-is some in omega arith) in
      decides (suc j) d (rw (kind, box)) (rw kind d-is)

  pub unanswered : {e : ℕ} → s.kind ≡ 3 → e ≡ message_box train.message → e ≡ 0 → Turned l s i 0 (Refused 21)
  unfolding concerned_box effect
  unanswered kind e-is none =
      let box : message_box train.message ≡ 0 = sym e-is ∙ none in
      decides 0 (Refused 21) (rw (kind, box)) (rw (kind, read) (unasked l checked _ there view (plan_at l.table 0) (box_at l 0) (rw read at box)))

  pub enters : {j : ℕ} {d : Effect} → s.kind ≡ 5 → j ≡ view.ahead - 1
      → d ≡ enter view train (get_or l.boxes j no_box) → Turned l s i (suc j) d
  unfolding concerned_box effect box_at nth
  enters {j} {d} kind j-is d-is =
      let box : view.ahead ≡ suc j = (let low = ahead-within in omega arith) in
      decides (suc j) d (rw (kind, box)) (rw kind d-is)

  pub clears : {j : ℕ} {d : Effect} → s.kind ≡ 6 → j ≡ view.passed - 1
      → d ≡ clear view train (get_or l.table.boxes j no_box_plan) (get_or l.boxes j no_box) → Turned l s i (suc j) d
  unfolding concerned_box effect plan_at box_at nth
  clears {j} {d} kind j-is d-is =
      let box : view.passed ≡ suc j = (let low = passed-within in omega arith) in
      decides (suc j) d (rw (kind, box)) (rw kind d-is)

  pub goes_alone : {x : SwitchBox} {d : Effect} → s.kind ≢ 3 → s.kind ≢ 5 → s.kind ≢ 6 → x ≡ no_box
      → d ≡ alone s.kind s.box view train x → Turned l s i 0 d
  unfolding concerned_box effect box_at nth
  goes_alone {x} {d} three five six none e =
      decides 0 d (rw (ne_eqb _ 3 three, ne_eqb _ 5 five, ne_eqb _ 6 six)) (rw (ne_eqb _ 3 three, ne_eqb _ 5 five, ne_eqb _ 6 six) (rw none at e))

  -- A refused step leaves all as it is.
  pub refuses : {e c : ℕ} → Turned l s i e (Refused c) → record { code = c; line = m } ≡ step m s
  unfolding apply
  refuses z = rw (← g.view) z.is

  -- After a step that is not refused: the code c, the boxes b, record r of its train, and v of what stands around trains.
  pub record After (c : ℕ) (b : List SwitchBox) (r : Train) (v : List Around) : Type 0 where
    pub is : record { code = c; line = standing l.table b (set l.trains i r) l.routes } ≡ step m s
    pub kept : Kept k (standing l.table b (set l.trains i r) l.routes) v

  after : {c : ℕ} {b : List SwitchBox} {r : Train} {v : List Around} → record { code = c; line = standing l.table b (set l.trains i r) l.routes } ≡ step l s
      → Seen (around_train l.table l.routes) (set l.trains i r) v 16 → After c b r v
  after {c} {b} {r} {v} e looked =
      let line : (step l s).line ≡ standing l.table b (set l.trains i r) l.routes = sym (ap (λ (o : Outcome). o.line) e) in
      record {
        is = rw (← g.view) e;
        kept = record {
          shown = g.from.shown;
          sound = rw line at (sound-next l g.from.sound s);
          places = length-set l.trains i r ∙ g.from.places;
          looked = looked;
        };
      }

  stays : {r : Train} → Alike r train → Seen (around_train l.table l.routes) (set l.trains i r) seen 16
  stays a = seen_stays g.from.looked g.from.places i low _ (around_alike l.table l.routes (suc i) a)

  -- A box's answer, the two moves, and a step of the train alone.
  pub answered : {e j c : ℕ} {r : Train} {x : SwitchBox} → s.kind ≡ 3 → e ≡ message_box train.message → e ≢ 0 → j ≡ e - 1
      → Changed c r x ≡ box_answers view train (get_or l.table.boxes j no_box_plan) (get_or l.boxes j no_box) train.message
      → After c (set l.boxes j x) r seen
  unfolding apply put_train put_box set_nth
  answered kind e-is some j-is d-is =
      after (answers kind e-is some j-is d-is).is (stays (stays_alike (answer_stays _ _ _ _ _) (sym d-is)))

  moved : {j c : ℕ} {r : Train} {x : SwitchBox} {v : Around} → Turned l s i (suc j) (Changed c r x)
      → v ≡ around_in k.a k.b k.ways k.kinds l.routes s.train r → After c (set l.boxes j x) r (set seen i v)
  unfolding apply put_train put_box set_nth
  moved z v-is = after z.is (seen-moved g.from.looked g.from.places i low _ _ (rw (g.from.shown, here) at v-is))

  pub entered : {j c : ℕ} {r : Train} {x : SwitchBox} {v : Around} → s.kind ≡ 5 → j ≡ view.ahead - 1
      → Changed c r x ≡ enter view train (get_or l.boxes j no_box) → v ≡ around_in k.a k.b k.ways k.kinds l.routes s.train r
      → After c (set l.boxes j x) r (set seen i v)
  entered kind j-is d-is = moved (enters kind j-is d-is)

  pub cleared : {j c : ℕ} {r : Train} {x : SwitchBox} {v : Around} → s.kind ≡ 6 → j ≡ view.passed - 1
      → Changed c r x ≡ clear view train (get_or l.table.boxes j no_box_plan) (get_or l.boxes j no_box)
      → v ≡ around_in k.a k.b k.ways k.kinds l.routes s.train r → After c (set l.boxes j x) r (set seen i v)
  cleared kind j-is d-is = moved (clears kind j-is d-is)

  pub went_alone : {c : ℕ} {r : Train} {x y : SwitchBox} → s.kind ≢ 3 → s.kind ≢ 5 → s.kind ≢ 6 → y ≡ no_box
      → Changed c r x ≡ alone s.kind s.box view train y → After c l.boxes r seen
  unfolding apply put_train put_box set_nth
  went_alone three five six none d-is =
      after (goes_alone three five six none d-is).is (stays (stays_alike (alone_stays _ _ _ _ _) (sym d-is)))
