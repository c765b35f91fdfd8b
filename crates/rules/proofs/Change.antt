-- Trains and boxes that fit together, on a line without messages; and what a change of one train and one box must observe so that
-- they still do.
use Prim.Native.Nat.{ℕ, ◌+◌, ◌-◌, ◌≤◌, ◌<◌}
use mathlib.Core.Path.{◌≡◌, refl, sym, ◌∙◌}
use mathlib.Core.Logic.{◌⊎◌, ⊎_elim, ◌≢◌}
use mathlib.Core.Bool.{true, ◌||◌}
use mathlib.Core.List.{List}
use native.Mathlib.Omega.{arith}
use Rattle.rules.specs.declared.SwitchBox.{SwitchBox}
use Rattle.rules.specs.declared.Table.{Table}
use Rattle.rules.specs.declared.Train.{Train}
use Rattle.rules.specs.declared.Line.{Line}
use Rattle.rules.specs.Track.{plan_at, route_at}
use Rattle.rules.specs.Loop.{SegmentOf}
use Rattle.rules.specs.Line.{box_at, train_at, put_train, put_box}
use Rattle.rules.specs.Safety.{TrainOf, Covers, place_in, place_of}
use Rattle.rules.specs.Invariant.{box_beyond, CrossesAt, Needs, NeedsLock, UsesLock, Fits, Crossed, Fitting}
use Rattle.rules.proofs.Accepted.{Accepted, BoxOf}
use Rattle.rules.proofs.Boxes.{far_box_lem, joint, joint_stem}
use Rattle.rules.proofs.Routes.{between, far_once}
use Rattle.rules.proofs.Frames.{put, Sized, each-train, each-box, train_put}
use Rattle.rules.proofs.Sound.{Placed}

-- The box beyond a place of a train's route is one of the table.
beyond_box : {t : Table} → Accepted t → {routes : List ℕ} {i : ℕ} {r : Train} → Placed t routes i r
    → (q : ℕ) → 1 ≤ q → q ≤ r.length → BoxOf t.m (box_beyond t routes i r q)
beyond_box a {r} h q low high = far_box_lem a r.direction _ (h.route.segment q low high)

-- So are the box ahead of it, and the box that it passes when it clears its tail.
pub ahead-box : {t : Table} → Accepted t → {routes : List ℕ} {i : ℕ} {r : Train} → Placed t routes i r
    → BoxOf t.m (box_beyond t routes i r r.place)
ahead-box a {r} h = beyond_box a h r.place (omega (arith, h.some, h.tail)) h.front

pub passed_box : {t : Table} → Accepted t → {routes : List ℕ} {i : ℕ} {r : Train} → Placed t routes i r
    → BoxOf t.m (box_beyond t routes i r (r.place + 1 - r.covered))
passed_box a {r} h = beyond_box a h (r.place + 1 - r.covered) (omega (arith, h.tail)) (omega (arith, h.front, h.some))

-- A line without messages on which trains and boxes fit together.
pub record Steady (a : Line) : Type 0 where
  pub accepted : Accepted a.table
  pub sized : Sized a
  pub placed : (i : ℕ) → TrainOf a.table i → Placed a.table a.routes i (train_at a i)
  pub fitting : Fitting a

-- Train i was z and is r now, and needs no more at box c than before.
pub record NoMore (t : Table) (routes : List ℕ) (i : ℕ) (z r : Train) (c : ℕ) : Type 0 where
  pub needs : (s : ℕ) → Needs t routes i r c s → Needs t routes i z c s
  pub locks : NeedsLock t routes i r c → NeedsLock t routes i z c
  pub uses : (y : ℕ) → UsesLock t routes i z c y → UsesLock t routes i r c y
  pub crosses : (q : ℕ) → CrossesAt t routes i r q c → CrossesAt t routes i z q c

pub no_more : {t : Table} {routes : List ℕ} {i : ℕ} {z r : Train} {c : ℕ} {x : SwitchBox}
    → NoMore t routes i z r c → Fits t routes i z c x → Fits t routes i r c x
no_more n f =
    record {
      reserved = λ s w. f.reserved s (n.needs s w);
      locked = λ w. f.locked (n.locks w);
      used = λ e. n.uses _ (f.used e);
      sensed = λ q w. f.sensed q (n.crosses q w);
    }

-- Train i was z and is r now, of the same direction and route length: it still uses a lock where it covers the place for that.
pub uses_by : {t : Table} {routes : List ℕ} {i : ℕ} {z r : Train} → r.direction ≡ z.direction → r.length ≡ z.length
    → {c y : ℕ} (u : UsesLock t routes i z c y) → Covers (place_in r) u.place → UsesLock t routes i r c y
uses_by d e u w =
    record {
      place = u.place;
      covered = w;
      next = rw e u.next;
      there = rw d u.there;
      point = u.point;
      joined = u.joined;
    }

-- What a change of train i to r and of box b to x must observe: the train covers nothing that another covers, it fits together
-- with the box as changed and with every other box, each other train still fits together with the box, and a box is sensed only
-- where it is crossed.
pub record Change (a : Line) (i : ℕ) (r : Train) (b : ℕ) (x : SwitchBox) : Type 0 where
  pub apart
      : (j : ℕ) → TrainOf a.table j → j ≢ i → (p q : ℕ) → Covers (place_in r) p → Covers (place_of a j) q
      → route_at a.routes i p ≢ route_at a.routes j q
  pub here : Fits a.table a.routes i r b x
  pub elsewhere : (c : ℕ) → c ≢ b → Fits a.table a.routes i r c (box_at a c)
  pub others
      : (j : ℕ) → TrainOf a.table j → j ≢ i → Fits a.table a.routes j (train_at a j) b (box_at a b)
      → Fits a.table a.routes j (train_at a j) b x
  pub with_next : (r.near || r.far || r.lock) ≡ true → r.place < r.length
  pub crossed_here
      : x.sensor ≡ true
      → ((q : ℕ) × CrossesAt a.table a.routes i r q b)
      ⊎ (((box_at a b).sensor ≡ true)
      × ((q : ℕ) → CrossesAt a.table a.routes i (train_at a i) q b → CrossesAt a.table a.routes i r q b))
  pub crossed_elsewhere
      : (c : ℕ) → c ≢ b → (q : ℕ) → CrossesAt a.table a.routes i (train_at a i) q c
      → CrossesAt a.table a.routes i r q c

module _ {a : Line} (h : Steady a) {i : ℕ} (k : TrainOf a.table i) {r : Train} {b : ℕ}
    (kb : BoxOf a.table.m b) {x : SwitchBox} (g : Change a i r b x) where
  abbrev after : Line
  after = put a i r b x

  -- What holds of train i as changed, and of the others as they were, holds of all; what holds at box b as changed, and elsewhere,
  -- holds everywhere.
  trains : (P : ℕ → Train → Type 0) → P i r → ((j : ℕ) → TrainOf a.table j → j ≢ i → P j (train_at a j))
      → (j : ℕ) → TrainOf a.table j → P j (train_at after j)
  trains P = each-train a i r b x P h.sized k

  boxes : (P : ℕ → SwitchBox → Type 0) → P b x → ((c : ℕ) → c ≢ b → P c (box_at a c)) → (c : ℕ) → P c (box_at after c)
  boxes P = each-box a i r b x P h.sized kb

  -- Two trains, one of which may be train i as changed.
  abbrev Apart : ℕ → Train → ℕ → Train → Type 0
  Apart i z j y =
      (p q : ℕ) → Covers (place_in z) p → Covers (place_in y) q → route_at a.routes i p ≡ route_at a.routes j q → i ≡ j

  still_apart : (i' : ℕ) → TrainOf a.table i' → (j : ℕ) → TrainOf a.table j → Apart i' (train_at after i') j (train_at after j)
  still_apart =
      trains (λ i' z. (j : ℕ) → TrainOf a.table j → Apart i' z j (train_at after j))
      (trains (Apart i r) (λ p q cp cq e. refl) (λ j kj n p q cp cq e. absurd (g.apart j kj n p q cp cq e)))
      (λ i' ki n.
      trains (Apart i' (train_at a i'))
      (λ p q cp cq e. absurd (g.apart i' ki n q p cq cp (sym e)))
      (λ j kj m. h.fitting.apart i' j ki kj))

  -- Where some train crossed box c, and train i still does if it did, some train crosses it.
  crossed-still
      : (c : ℕ) → (box_at a c).sensor ≡ true
      → ((q : ℕ) → CrossesAt a.table a.routes i (train_at a i) q c → CrossesAt a.table a.routes i r q c)
      → Crossed after c
  unfolding put_train put_box
  crossed-still c e still =
      let w = h.fitting.sensed_crossed c e in
      record {
        train = w.train;
        known = w.known;
        place = w.place;
        crosses =
            trains
            (λ j y. CrossesAt a.table a.routes j (train_at a j) w.place c → CrossesAt a.table a.routes j y w.place c)
            (still w.place)
            (λ j kj n u. u)
            w.train
            w.known
            w.crosses;
      }

  crossed_here : (q : ℕ) → CrossesAt a.table a.routes i r q b → Crossed after b
  unfolding put_train put_box
  crossed_here q w = record { train = i; known = k; place = q; crosses = rw (train_put a i r b x h.sized k) w }

  pub change_fits : Fitting after
  unfolding put_train put_box
  change_fits =
      record {
        apart = λ i' j ki kj. still_apart i' ki j kj;
        fits =
            trains (λ j y. (c : ℕ) → Fits a.table a.routes j y c (box_at after c))
            (boxes (Fits a.table a.routes i r) g.here g.elsewhere)
            (λ j kj n.
            boxes (Fits a.table a.routes j (train_at a j)) (g.others j kj n (h.fitting.fits j kj b))
            (λ c m. h.fitting.fits j kj c));
        with_next = trains (λ j y. (y.near || y.far || y.lock) ≡ true → y.place < y.length) g.with_next
            (λ j kj n. h.fitting.with_next j kj);
        sensed_crossed =
            boxes (λ c y. y.sensor ≡ true → Crossed after c)
            (λ e. ⊎_elim (λ (q, w). crossed_here q w) (λ (f, still). crossed-still b f still) (g.crossed_here e))
            (λ c n e. crossed-still c e (g.crossed_elsewhere c n));
      }

-- A train that crosses a box covers the segment at its stem. So one train at most crosses it.
module _ {a : Line} (h : Steady a) where
  stem_covered : {j : ℕ} → TrainOf a.table j → {q b : ℕ} → CrossesAt a.table a.routes j (train_at a j) q b
      → (p : ℕ) × (Covers (place_of a j) p × ((plan_at a.table b).stem ≡ route_at a.routes j p))
  stem_covered {j} kj {q} {b} w =
      let place = h.placed j kj in
      let d = (train_at a j).direction in
      let low : 1 ≤ q = omega (arith, w.from.behind, place.tail) in
      let high : q < (train_at a j).length = omega (arith, w.to.ahead, place.front) in
      let from = place.route.segment q low (omega arith) in
      let to = place.route.segment (q + 1) (omega arith) (omega arith) in
      let box = rw w.between at (far_box_lem h.accepted d _ from) in
      ⊎_elim
      (λ e. (q, (w.from, e)))
      (λ e. (q + 1, (w.to, e)))
      (joint_stem (joint h.accepted box d _ _ from to w.between (sym (between place.route q low high) ∙ w.between)).1)

  pub crossed_once : {j i : ℕ} → TrainOf a.table j → TrainOf a.table i → {p q b : ℕ}
      → CrossesAt a.table a.routes j (train_at a j) p b → CrossesAt a.table a.routes i (train_at a i) q b → j ≡ i
  crossed_once kj ki v w =
      let (p, (cp, e)) = stem_covered kj v in
      let (q, (cq, f)) = stem_covered ki w in
      h.fitting.apart _ _ kj ki p q cp cq (sym e ∙ f)

-- Train i of such a line.
module _ {a : Line} (h : Steady a) {i : ℕ} (k : TrainOf a.table i) where
  -- It and each box fit together; the segment at a place of its route; its front has a place; what it covers no other covers.
  pub fits : (c : ℕ) → Fits a.table a.routes i (train_at a i) c (box_at a c)
  fits = h.fitting.fits i k

  pub on_route_lem : (q : ℕ) → 1 ≤ q → q ≤ (train_at a i).length → SegmentOf a.table.n (route_at a.routes i q)
  on_route_lem = (h.placed i k).route.segment

  pub front_low : 1 ≤ (train_at a i).place
  front_low = let place = h.placed i k in omega (arith, place.some, place.tail)

  pub apart_still : (j : ℕ) → TrainOf a.table j → j ≢ i → (p q : ℕ) → Covers (place_of a i) p → Covers (place_of a j) q
      → route_at a.routes i p ≢ route_at a.routes j q
  apart_still j kj n p q cp cq e = n (sym (h.fitting.apart i j k kj p q cp cq e))

  -- It does not cross the box ahead of it.
  pub ahead_uncrossed : {q b : ℕ} → CrossesAt a.table a.routes i (train_at a i) q b
      → b ≢ box_beyond a.table a.routes i (train_at a i) (train_at a i).place
  ahead_uncrossed {q} c e =
      let place = h.placed i k in
      let once = far_once h.accepted.no_loop place.route in
      let same = once q (train_at a i).place (omega arith) (omega arith) (omega arith) (omega arith) (c.between ∙ e) in
      omega arith
