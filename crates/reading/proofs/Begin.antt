-- The start of a line, train after train and box after box.
use Rattle.std.proofs.Common.{ℕ, ◌+◌, ◌-◌, ◌≤◌, ◌<◌, ◌≡◌, refl, sym, ◌∙◌, ap, true, false, cond, List, ◌++◌, add-one, arith, eq-eqb, ne_eqb, eqb, length, get_or, set, take, replicate, length-set, length-take, get_or-take, get_or-set_same, get_or-set_other, ext_get_or}
use Rattle.std.proofs.lemmas.Bool.{false≢true}
use Rattle.std.proofs.lemmas.List.{set-append_left}
use Rattle.std.proofs.Math.Decide.{ℕ_discrete}
use Rattle.std.proofs.Math.Seq.{take-set-lt}
use Rattle.rules.specs.declared.BoxPlan.{BoxPlan}
use Rattle.rules.specs.declared.TrainPlan.{TrainPlan}
use Rattle.rules.specs.declared.Table.{Table}
use Rattle.rules.specs.declared.Train.{Train}
use Rattle.rules.specs.declared.Message.TheVariants.{Idle}
use Rattle.rules.specs.declared.SwitchBox.{SwitchBox}
use Rattle.rules.specs.Rows.{nth, list_of, filled, outside}
use Rattle.rules.specs.Track.{no_train_plan, no_box_plan, route_at, Track, track_of, far_box}
use Rattle.rules.specs.Line.{no_box, no_train, set_holder, start_train, starts_on, start_holder, start_box_with, start_box, start_line}
use Rattle.rules.proofs.Tests.{outside-false_iff}
use Rattle.rules.proofs.Rows.{nth_at, fill_more, list_length, list_at, list_same, filled_list_at}
use Rattle.reading.specs.Start.{free_box_at, boxes_after}

-- A turn starts the train and the box at index i of the first n plans; d is what `default` makes.
pub train_started : (plans : List TrainPlan) (n i : ℕ) (all : List Train) (d : Train) → i < length (take n plans) → n ≤ 16
    → d.near ≡ false → d.far ≡ false → d.lock ≡ false → d.message ≡ Idle → all ≡ filled 16 no_train (list_of i (start_train plans))
    → set all i (record {
      direction = (get_or (take n plans) i no_train_plan).direction;
      length = (get_or (take n plans) i no_train_plan).length;
      place = 1;
      covered = 1;
      near = d.near;
      far = d.far;
      lock = d.lock;
      message = d.message;
    }) ≡ filled 16 no_train (list_of (i + 1) (start_train plans))
unfolding start_train
train_started plans n i all d h room near far lock message before =
    let low : i < n = omega (arith, length-take n plans) in
    rw (near, far, lock, message, get_or-take n plans i no_train_plan low) (fill_more 16 no_train _ _ _ _ (omega arith) before (rw nth_at))

pub box_started : (plans : List BoxPlan) (n i : ℕ) (all : List SwitchBox) (d : SwitchBox) → i < length (take n plans) → n ≤ 96
    → d.sensor ≡ false → d.lock ≡ 0 → d.stem ≡ 0 → d.left ≡ 0 → d.right ≡ 0 → all ≡ filled 96 no_box (list_of i (free_box_at plans))
    → set all i (record {
      sensor = d.sensor;
      position = (get_or (take n plans) i no_box_plan).position;
      lock = d.lock;
      stem = d.stem;
      left = d.left;
      right = d.right;
    }) ≡ filled 96 no_box (list_of (i + 1) (free_box_at plans))
unfolding free_box_at
box_started plans n i all d h room sensor lock stem left right before =
    let low : i < n = omega (arith, length-take n plans) in
    rw (sensor, lock, stem, left, right, get_or-take n plans i no_box_plan low) (fill_more 96 no_box _ _ _ _ (omega arith) before (rw nth_at))

-- A list of which one record changes.
module _ {ℓ} {A : Type ℓ} where
  list_set : (n : ℕ) (f g : ℕ → A) (d : A) (b : ℕ) →
      b < n → ((k : ℕ) → k < n → (k ≡ b → ⊥) → f (k + 1) ≡ g (k + 1)) → set (list_of n f) b (g (b + 1)) ≡ list_of n g
  list_set n f g d b i h =
      ext_get_or d (set (list_of n f) b (g (b + 1))) (list_of n g)
      (length-set (list_of n f) b (g (b + 1)) ∙ list_length f n ∙ sym (list_length g n))
      (λ k l.
      let j : k < n = simp (length-set, list_length) at l in
      elim (ℕ_discrete k b) [
        | yes e ↦
            let m : b < length (list_of n f) = simp list_length (omega arith) in
            rw e (get_or-set_same (list_of n f) b (g (b + 1)) d m ∙ sym (list_at g n b d i))
        | no e ↦ get_or-set_other (list_of n f) b k (g (b + 1)) d e ∙ list_at f n k d j ∙ h k j e ∙ sym (list_at g n k d j)
      ])

  set-filled : (n : ℕ) (d a : A) (l : List A) (b : ℕ) → b < n → b < length l → set (filled n d l) b a ≡ filled n d (set l b a)
  unfolding filled
  set-filled n d a l b h k =
      sym (take-set-lt n (l ++ replicate n d) b a h) ∙ ap (λ (r : List A). take n r) (set-append_left l (replicate n d) b a k)

-- Train j + 1 is reserved for at the box ahead of it, and nowhere else.
module _ (track : Track) (plans : List BoxPlan) (trains : List TrainPlan) (routes : List ℕ) (j : ℕ) where
  abbrev holder : ℕ → ℕ → ℕ → ℕ
  holder = start_holder track trains routes

  abbrev box_with : ℕ → ℕ → SwitchBox
  box_with = start_box_with track trains routes plans

  abbrev plan_of : ℕ → BoxPlan
  plan_of b = nth plans b no_box_plan

  -- Its first segment, and the box ahead.
  abbrev first_of : ℕ
  first_of = route_at routes (j + 1) 1

  abbrev ahead_of : ℕ
  ahead_of = far_box track (nth trains (j + 1) no_train_plan).direction first_of

  holder_more : (b s : ℕ) → holder b s (j + 1) ≡ cond (starts_on track trains routes b s (j + 1)) (j + 1) (holder b s j)
  unfolding start_holder
  holder_more b s = rw add-one

  holder_here : (b s : ℕ) → ahead_of ≡ b → holder b s (j + 1) ≡ cond (eqb first_of s) (j + 1) (holder b s j)
  unfolding starts_on
  holder_here b s e =
      holder_more b s
      ∙ elim (ℕ_discrete first_of s) [
        | yes p ↦ rw (sym p, eq-eqb first_of first_of refl, eq-eqb ahead_of b e)
        | no n ↦ rw (ne_eqb first_of s n)
      ]

  holder_elsewhere : (b s : ℕ) → (ahead_of ≡ b → ⊥) → holder b s (j + 1) ≡ holder b s j
  unfolding starts_on
  holder_elsewhere b s e =
      holder_more b s
      ∙ elim (ℕ_discrete first_of s) [
        | yes p ↦ rw (sym p, eq-eqb first_of first_of refl, ne_eqb ahead_of b e)
        | no n ↦ rw (ne_eqb first_of s n)
      ]

  -- The box ahead after the train, and any other box.
  box_here_lem : (b : ℕ) → ahead_of ≡ b → set_holder (plan_of b) (box_with j b) first_of (j + 1) ≡ box_with (j + 1) b
  unfolding set_holder start_box_with
  box_here_lem b e =
      let p = plan_of b in
      rw (holder_here b p.stem e, holder_here b p.left e, holder_here b p.right e)

  box_elsewhere : (b : ℕ) → (ahead_of ≡ b → ⊥) → box_with j b ≡ box_with (j + 1) b
  unfolding start_box_with
  box_elsewhere b e =
      let p = plan_of b in
      rw (holder_elsewhere b p.stem e, holder_elsewhere b p.left e, holder_elsewhere b p.right e)

  -- A turn over the train, one of the first k, where `all` are the boxes before it, s its first segment and x the box ahead: one box
  -- changes, or none where x is no box of the table.
  module _
      (k : ℕ) {m : ℕ} {all : List SwitchBox} {s x : ℕ}
      (few : m ≤ 96)
      (listed : j < length (take k trains))
      (before : all ≡ boxes_after m track plans trains routes j)
      (first : s ≡ first_of)
      (ahead : x ≡ far_box track (get_or (take k trains) j no_train_plan).direction s) where
    ahead-is : x ≡ ahead_of
    ahead-is =
        let low : j < k = omega (arith, length-take k trains) in
        ahead ∙ rw (first, nth_at, get_or-take k trains j no_train_plan low)

    pub turn_here :
        outside m x ≡ false →
        set all (x - 1) (set_holder (get_or plans (x - 1) no_box_plan) (get_or all (x - 1) no_box) s (j + 1))
        ≡ boxes_after m track plans trains routes (j + 1)
    unfolding boxes_after
    turn_here e =
        let b = x - 1 in
        let (low, high) = (outside-false_iff m x).0 e in
        let up : x ≡ b + 1 = omega arith in
        let inside : b < m = omega arith in
        let room : b < length (list_of m (box_with j)) = simp list_length (omega arith) in
        let old : get_or all b no_box ≡ box_with j (b + 1) = rw before (filled_list_at (box_with j) no_box 96 m b inside (omega arith)) in
        rw (old, before, first, sym (nth_at plans b no_box_plan), box_here_lem (b + 1) (sym ahead-is ∙ up))
        (set-filled 96 no_box _ _ b (omega arith) room)
        ∙ ap (λ (l : List SwitchBox). filled 96 no_box l)
        (list_set m (box_with j) (box_with (j + 1)) no_box b inside
        (λ i _ q. box_elsewhere (i + 1) (λ r. q (let f : x ≡ i + 1 = ahead-is ∙ r in omega arith))))

    pub turn_nowhere : outside m x ≡ true → all ≡ boxes_after m track plans trains routes (j + 1)
    unfolding boxes_after
    turn_nowhere e =
        before
        ∙ ap (λ (l : List SwitchBox). filled 96 no_box l)
        (list_same (box_with j) (box_with (j + 1)) m
        (λ i h. box_elsewhere (i + 1)
        (λ r. let f : x ≡ i + 1 = ahead-is ∙ r in false≢true (sym ((outside-false_iff m x).1 (omega arith, omega arith)) ∙ e))))

-- Before the first train all boxes are free.
pub none_yet : (m : ℕ) (track : Track) (plans : List BoxPlan) (trains : List TrainPlan) (routes : List ℕ) →
    filled 96 no_box (list_of m (free_box_at plans)) ≡ boxes_after m track plans trains routes 0
unfolding free_box_at boxes_after start_box_with start_holder
none_yet m track plans trains routes = refl

-- The line at its start, by its parts.
pub start_line_lem : (t : Table) (track : Track) (b : List SwitchBox) (r : List Train) →
    track ≡ track_of t →
    b ≡ boxes_after t.m track t.boxes t.trains t.routes t.k →
    r ≡ filled 16 no_train (list_of t.k (start_train t.trains)) →
    record { table = t; boxes = b; trains = r; routes = t.routes } ≡ start_line t
unfolding start_line start_box boxes_after
start_line_lem t track b r made e f = rw (e, f, made)
