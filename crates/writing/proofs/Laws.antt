-- Laws of bytes written one after the other, of the lengths of a file's parts, and of what a table of code 0 has.
use Rattle.std.proofs.Common.{ℕ, zero, suc, ◌+◌, ◌-◌, ◌*◌, ◌≤◌, ◌<◌, ◌≡◌, ◌≢◌, refl, sym, ap, ◌∙◌, Bool, true, false, cond, List, [], ◌∷◌, ◌++◌, length, get_or, take, drop, length-append, length-take, length-drop, get_or-take, get_or-drop, ext_get_or, sum_by, take_all, min, add-zero, zero-add, add-suc, add-one, arith, ltb, lt-ltb, le-ltb, ne_eqb}
use Rattle.std.proofs.Math.ListN.{get_or-eq_default}
use Rattle.std.proofs.lemmas.List.Sums.{sum_by_more}
use Rattle.std.proofs.Math.Decide.{dec_lt}
use Rattle.std.proofs.Math.Seq.{sets-eq}
use Rattle.rules.specs.declared.Table.{Table}
use Rattle.rules.specs.Ends.{Refusal}
use Rattle.rules.specs.Rows.{◌if◌, list_of, join_of}
use Rattle.rules.specs.Track.{no_segment, no_box_plan, no_train_plan, segment_at, plan_at, train_plan_at, route_at}
use Rattle.rules.specs.Network.{has_ways}
use Rattle.rules.specs.Placing.{without_place, table_code, table_refusal}
use Rattle.rules.specs.File.{segment_size, head_bytes, segment_bytes, box_bytes, train_bytes, encode, write_refusal, written}
use Rattle.rules.proofs.Accepted.{accepted}
use Rattle.rules.proofs.Refusals.{code_of, table_coded, then_refused, then_hit, then_none}
use Rattle.rules.proofs.Rows.{nth_at, list_length, list_at, route_at_lem, join_none, join_more, sets_append}
use Rattle.writing.specs.declared.pen.Pen.{Pen}
use Rattle.writing.specs.Written.{Bounded, HasRoom, Written}

-- Nothing written; two lists written one after the other.
pub written_none : (p : Pen) → Written p [] p
written_none p = record { next = omega arith; bytes = refl; size = refl; same = refl }

pub written_append : {v w : List ℕ} {p q r : Pen} → Written p v q → Written q w r → Written p (v ++ w) r
written_append {v} {w} {p} a b =
    record {
      next = simp length-append (omega arith);
      bytes = b.bytes ∙ rw (a.bytes, a.next) (sym (sets_append v w p.buffer.now p.at));
      size = b.size ∙ a.size;
      same = b.same ∙ a.same;
    }

-- Joined lists, one list at a time.
pub written_join_none : (f : ℕ → List ℕ) (p : Pen) → Written p (join_of 0 f) p
written_join_none f p = rw join_none (written_none p)

pub written_join : (f : ℕ → List ℕ) (i : ℕ) {w : List ℕ} {p q r : Pen} → Written p (join_of i f) q → f (i + 1) ≡ w → Written q w r
    → Written p (join_of (i + 1) f) r
written_join f i a e b = rw (join_more, e) (written_append a b)

-- What is written at the front of a buffer is its front, and the rest stays.
pub written_whole : {w : List ℕ} {p q : Pen} → Written p w q → p.at ≡ 0 → length w ≤ length p.buffer.now
    → q.buffer.now ≡ w ++ drop (length w) p.buffer.now
written_whole {w} {p} {q} a z h =
    a.bytes ∙ rw z (sets-eq w p.buffer.now 0 (rw zero-add h) ∙ rw zero-add)

-- A segment record has three bytes at most.
pub segment_size_most : (version : ℕ) → segment_size version ≤ 3
unfolding segment_size
segment_size_most version = by (has_ways version)
  where
    by : (b : Bool) → cond b 3 2 ≤ 3
    by true = omega arith
    by false = omega arith

-- The record of segment i + 1, box i + 1 and train i + 1.
pub segment_bytes_lem : (t : Table) (i n size : ℕ) → i < n → size ≡ segment_size t.version
    → let s = get_or (take n t.segments) i no_segment in segment_bytes t (i + 1) ≡ take size (s.a ∷ s.b ∷ s.way ∷ [])
unfolding segment_bytes segment_at segment_size
segment_bytes_lem t i n size h e = rw (nth_at, get_or-take, e) (by (has_ways t.version) _ _ _)
  where
    by : (b : Bool) (x y z : ℕ) → x ∷ y ∷ cond b (z ∷ []) [] ≡ take (cond b 3 2) (x ∷ y ∷ z ∷ [])
    by true x y z = refl
    by false x y z = refl

pub box_bytes_lem : (t : Table) (i n : ℕ) → i < n
    → let p = get_or (take n t.boxes) i no_box_plan in box_bytes t (i + 1) ≡ p.kind ∷ p.stem ∷ p.left ∷ p.right ∷ p.position ∷ []
unfolding box_bytes plan_at
box_bytes_lem t i n h = rw (nth_at, get_or-take)

-- The first n places of a train's route, as a part of the routes.
route_bytes : (routes : List ℕ) (i n : ℕ) → i < 16 → n ≤ 64 → length routes ≡ 1024
    → list_of n (route_at routes (i + 1)) ≡ take n (take (1024 - 64 * i) (drop (64 * i) routes))
route_bytes routes i n h k e =
    ext_get_or 0 _ _ (simp (list_length, length-take, length-drop) (omega arith)) λ p l.
    let below : p < n = rw list_length at l in
    let within : p < 1024 - 64 * i = omega arith in
    list_at _ n p 0 below ∙ route_at_lem routes i p (omega arith) ∙ sym (rw (get_or-take, get_or-take, get_or-drop))

pub plan_bounded : (t : Table) (i n : ℕ) → Bounded t → i < n → n ≡ t.k → (get_or (take n t.trains) i no_train_plan).length ≤ 64
unfolding train_plan_at
plan_bounded t i n b h e = rw get_or-take (rw nth_at at (b.routes i (omega arith)))

pub train_bytes_lem : (t : Table) (i n m : ℕ) → Bounded t → i < n → n ≡ t.k → length t.routes ≡ 1024
    → let p = get_or (take n t.trains) i no_train_plan in m ≡ p.length
    → train_bytes t (i + 1) ≡ p.direction ∷ p.length ∷ take m (take (1024 - 64 * i) (drop (64 * i) t.routes))
unfolding train_bytes train_plan_at
train_bytes_lem t i n m b h k e l =
    let plan = get_or (take n t.trains) i no_train_plan in
    let r = route_bytes t.routes i plan.length (omega (arith, b.trains)) (plan_bounded t i n b h k) e in
    rw (nth_at, ← get_or-take n t.trains i no_train_plan h, l, r)

-- The i-th of joined lists ends within them.
join_grows : (f : ℕ → List ℕ) (i m : ℕ) → length (join_of i f) ≤ length (join_of (i + m) f)
join_grows f i zero = rw add-zero (omega arith)
join_grows f i (suc m) = rw (add-suc, ← add-one, join_more, length-append) (omega (arith, join_grows f i m))

pub join_within : (f : ℕ → List ℕ) (i n : ℕ) → i < n → length (join_of i f) + length (f (i + 1)) ≤ length (join_of n f)
join_within f i n h =
    let e : i + 1 + (n - (i + 1)) ≡ n = omega arith in
    let g : length (join_of (i + 1) f) ≤ length (join_of n f) = rw e at (join_grows f (i + 1) (n - (i + 1))) in
    rw (join_more, length-append) at g

-- One list more, of a function that writes where there is room for it: there is, where there is room for the first n of them.
pub put_join : (f : ℕ → List ℕ) (i n : ℕ) {w : List ℕ} {p q r : Pen} → i < n → HasRoom p (length (join_of n f)) → Written p (join_of i f) q
    → f (i + 1) ≡ w → (HasRoom q (length w) → Written q w r) → Written p (join_of (i + 1) f) r
put_join f i n h room a e b = written_join f i a e (b (omega (arith, a, room, join_within f i n h, ap length e)))

-- The parts make the file.
pub encode_length : (t : Table)
    → length (encode t)
    ≡ length (head_bytes t) + length (join_of t.n (segment_bytes t)) + length (join_of t.m (box_bytes t)) + length (join_of t.k (train_bytes t))
unfolding encode
encode_length t = simp length-append

pub written_file : (t : Table) {p q r s u : Pen} → Written p (head_bytes t) q → Written q (join_of t.n (segment_bytes t)) r
    → Written r (join_of t.m (box_bytes t)) s → Written s (join_of t.k (train_bytes t)) u → Written p (encode t) u
unfolding encode
written_file t w x y z = written_append (written_append (written_append w x) y) z

-- The length of the train records: two bytes each, and the routes. A train past the places has no route.
train_length : (t : Table) (i : ℕ) → length (train_bytes t (i + 1)) ≡ 2 + (get_or t.trains i no_train_plan).length
unfolding train_bytes train_plan_at
train_length t i = rw nth_at (omega (arith, list_length (route_at t.routes (i + 1)) (get_or t.trains i no_train_plan).length))

routes_length : (t : Table) (k : ℕ) → length (join_of k (train_bytes t)) ≡ 2 * k + sum_by (λ p. p.length) (take k t.trains)
routes_length t zero = rw join_none
routes_length t (suc k) =
    rw (← add-one k, join_more, length-append, train_length, routes_length t k) (elim (dec_lt k (length t.trains)) [
      | yes h ↦ omega (arith, sum_by_more (λ p. p.length) t.trains k no_train_plan h)
      | no h ↦
          let past : length t.trains ≤ k = omega arith in
          let none = get_or-eq_default t.trains no_train_plan past in
          rw (take_all (k + 1) t.trains (omega arith), take_all k t.trains past, none) (omega arith)
    ])

pub trains_length : (t : Table) (n : ℕ) → length t.trains ≡ 16 → n ≡ min t.k 16
    → length (join_of t.k (train_bytes t)) ≡ 2 * t.k + sum_by (λ p. p.length) (take n t.trains)
trains_length t n h e =
    rw (routes_length) (elim (dec_lt t.k 16) [
      | yes l ↦
          let m : n ≡ t.k = omega arith in
          rw m
      | no l ↦ rw (take_all t.k t.trains (omega arith), take_all n t.trains (omega arith))
    ])

-- A table of code 0 has its records within their places.
code_bounded : (t : Table) → table_code t ≡ 0 → Bounded t
code_bounded t e =
    let a = accepted t e in
    record {
      segments = a.limits.segments_high;
      boxes = a.limits.boxes_high;
      trains = a.limits.trains_high;
      routes = λ i h. (a.routes (i + 1) (record { low = omega arith; high = omega arith })).high;
    }

-- A table that is not refused.
module _ (t : Table) (e : without_place 0 ≡ table_refusal t) where
  table_zero : (table_refusal t).code ≡ 0
  table_zero = sym (code_of e)

  pub bounded : Bounded t
  bounded = code_bounded t (sym (table_coded t) ∙ table_zero)

  -- A buffer that is too short, and one that is not.
  pub short_refused : (buffer : List ℕ) → length buffer < length (encode t) → without_place 26 ≡ write_refusal t buffer
  unfolding write_refusal
  short_refused buffer h = sym (then_hit (table_refusal t) table_zero 26 _ (lt-ltb _ _ h))

  pub none_refused : (buffer : List ℕ) → length (encode t) ≤ length buffer → without_place 0 ≡ write_refusal t buffer
  unfolding write_refusal
  none_refused buffer h = sym (then_none (table_refusal t) table_zero 26 _ (le-ltb _ _ h))

-- A table that is refused refuses the writer.
pub table_refused : (t : Table) (buffer : List ℕ) {x : Refusal} → x ≡ table_refusal t → x.code ≢ 0 → x ≡ write_refusal t buffer
unfolding write_refusal
table_refused t buffer e h =
    e ∙ sym (then_refused (table_refusal t) (26 if ltb (length buffer) (length (encode t)) ∷ []) (rw e at h))

-- The buffer after it: as it was where it is refused, else with the file at its front.
pub buffer_kept : (t : Table) (buffer : List ℕ) {x : Refusal} → x ≡ write_refusal t buffer → x.code ≢ 0 → buffer ≡ written t buffer
unfolding written
buffer_kept t buffer {x} e h = rw (ne_eqb (write_refusal t buffer).code 0 (rw e at h))

pub file_written : (t : Table) (buffer : List ℕ) {p q : Pen} → without_place 0 ≡ table_refusal t → length (encode t) ≤ length buffer
    → p.at ≡ 0 → p.buffer.now ≡ buffer → Written p (encode t) q → q.buffer.now ≡ written t buffer
unfolding written
file_written t buffer e h z b w = rw (sym (none_refused t e buffer h)) (rw b at (written_whole w z (rw b h)))
