-- Laws of tests over numbered records, and of lists counted from 1.
use Prim.Native.Nat.{ℕ, zero, suc, ◌+◌, ◌-◌, ◌*◌, ◌≤◌, ◌<◌}
use mathlib.Core.Path.{◌≡◌, refl, sym, ◌∙◌, ap}
use mathlib.Core.Logic.{◌↔◌, ◌≢◌}
use mathlib.Core.Bool.{Bool, true, false, or-false as or-none}
use mathlib.Core.List.{List, [], ◌∷◌, ◌++◌, map, append_assoc, append-nil}
use native.Mathlib.Decide.{ℕ_discrete, dec_lt}
use native.Mathlib.Nat.{zero-add, add-zero, suc-add, mul-zero, mul-suc}
use native.Mathlib.Numerals.{add-one}
use native.Mathlib.Omega.{arith}
use borrow.Author.Tests.{lt-ltb, le-ltb}
use lib.ListN.{length, get_or, set, take, replicate, length-append, length-take, length-replicate, get_or-append, get_or-eq_default, length-map}
use lib.Seq.{sets, take_all, length-take-le, get_or-take, get_or-append-add, ext_get_or}
use Rattle.rules.specs.Rows.{any_of, nth, list_from, list_of, join_from, join_of, filled}
use Rattle.rules.specs.Track.{route_at}
use Rattle.rules.proofs.Tests.{or_left, or_right, or-false, or-false-left, or-false_right}

-- A test over the first i records that finds nothing, one record at a time; one that does not find record i + 1, and one that does.
pub any_none : (f : ℕ → Bool) → any_of 0 f ≡ false
unfolding any_of
any_none f = refl

pub any_more : (f : ℕ → Bool) (i : ℕ) → any_of i f ≡ false → f (i + 1) ≡ false → any_of (i + 1) f ≡ false
unfolding any_of
any_more f i e h = rw add-one (or-false (any_of i f) (f (suc i)) e (rw add-one at h))

pub any_skip : (f : ℕ → Bool) (i : ℕ) → f (i + 1) ≡ false → any_of (i + 1) f ≡ any_of i f
unfolding any_of
any_skip f i e = rw (add-one i, rw add-one at e) (or-none (any_of i f))

pub any_found : (f : ℕ → Bool) (n i : ℕ) → i < n → f (i + 1) ≡ true → any_of n f ≡ true
unfolding any_of
any_found f zero i l h = absurd (omega arith)
any_found f (suc n) i l h =
    elim (ℕ_discrete i n) [
      | yes e ↦ or_right (any_of n f) (f (suc n)) (rw (sym e) (rw add-one at h))
      | no e ↦ or_left (any_of n f) (f (suc n)) (any_found f n i (omega arith) h)
    ]

-- Where a test finds record i + 1, the test over all records finds one.
pub none_found : (n : ℕ) (f : ℕ → Bool) (i : ℕ) → i < n → f (i + 1) ≡ true → true ≡ any_of n f
none_found n f i l e = sym (any_found f n i l e)

-- Where a test over all records finds nothing, no record passes it; and the other way round.
pub any_false_at : (f : ℕ → Bool) (n s : ℕ) → any_of n f ≡ false → 1 ≤ s → s ≤ n → f s ≡ false
unfolding any_of
any_false_at f zero s e l h = absurd (omega arith)
any_false_at f (suc n) s e l h =
    elim (ℕ_discrete s (suc n)) [
      | yes p ↦ rw p (or-false_right (any_of n f) (f (suc n)) e)
      | no p ↦ any_false_at f n s (or-false-left (any_of n f) (f (suc n)) e) l (omega arith)
    ]

pub any_false : (f : ℕ → Bool) (n : ℕ) → ((s : ℕ) → 1 ≤ s → s ≤ n → f s ≡ false) → any_of n f ≡ false
unfolding any_of
any_false f zero h = refl
any_false f (suc n) h =
    or-false (any_of n f) (f (suc n)) (any_false f n (λ s a b. h s a (omega arith))) (h (suc n) (omega arith) (omega arith))

pub any_false_iff : (n : ℕ) (f : ℕ → Bool) → (any_of n f ≡ false) ↔ ((s : ℕ) → 1 ≤ s → s ≤ n → f s ≡ false)
any_false_iff n f = (λ e s. any_false_at f n s e, any_false f n)

-- Tests that agree on every record find the same.
pub any_same : (f g : ℕ → Bool) (n : ℕ) → ((s : ℕ) → 1 ≤ s → s ≤ n → f s ≡ g s) → any_of n f ≡ any_of n g
unfolding any_of
any_same f g zero h = refl
any_same f g (suc n) h =
    rw (any_same f g n (λ s a b. h s a (omega arith)), h (suc n) (omega arith) (omega arith))

-- Where the values at 1 .. n differ from those before them, equal values stand at one number.
pub once : (f : ℕ → ℕ) (n : ℕ) → ((p q : ℕ) → 1 ≤ p → p < q → q ≤ n → f p ≢ f q)
    → (p q : ℕ) → 1 ≤ p → p ≤ n → 1 ≤ q → q ≤ n → f p ≡ f q → p ≡ q
once f n h p q a b c d e =
    elim (dec_lt p q) [
      | yes l ↦ absurd (h p q a l d e)
      | no l ↦ elim (dec_lt q p) [ yes g ↦ absurd (h q p c g b (sym e)) | no g ↦ omega arith ]
    ]

module _ {ℓ} {A : Type ℓ} where
  -- The i-th of a list stands at index i - 1; past the end there is none.
  pub nth_at : (l : List A) (i : ℕ) (d : A) → nth l (i + 1) d ≡ get_or l i d
  unfolding nth
  nth_at l i d = rw add-one

  pub nth-before : (l : List A) (i : ℕ) (d : A) → 1 ≤ i → nth l i d ≡ get_or l (i - 1) d
  unfolding nth
  nth-before l zero d h = absurd (omega arith)
  nth-before l (suc i) d h = let e : suc i - 1 ≡ i = omega arith in rw e

  pub nth_past : (l : List A) (i : ℕ) (d : A) → length l < i → nth l i d ≡ d
  unfolding nth
  nth_past l zero d h = refl
  nth_past l (suc i) d h = get_or-eq_default l d (omega arith)

  -- f i, f (i + 1) and so on: how many, and what stands there.
  pub from-length : (f : ℕ → A) (n i : ℕ) → length (list_from i n f) ≡ n
  unfolding list_from
  from-length f zero i = refl
  from-length f (suc n) i = ap suc (from-length f n (suc i))

  pub from_at : (f : ℕ → A) (n j i : ℕ) (d : A) → i < n → get_or (list_from j n f) i d ≡ f (j + i)
  unfolding list_from
  from_at f zero j i d l = absurd (omega arith)
  from_at f (suc n) j zero d l = let e : j + zero ≡ j = omega arith in rw e
  from_at f (suc n) j (suc i) d l =
      let e : j + suc i ≡ suc j + i = omega arith in
      rw e (from_at f n (suc j) i d (omega arith))

  -- Two lists of n are the same where they have the same at each place.
  pub from_same : (f g : ℕ → A) (n i j : ℕ) → ((p : ℕ) → p < n → f (i + p) ≡ g (j + p)) → list_from i n f ≡ list_from j n g
  from_same f g n i j h =
      let len = from-length f n i in
      ext_get_or (f i) (list_from i n f) (list_from j n g) (omega (arith, from-length g n j)) λ p k.
      let l : p < n = omega arith in
      from_at f n i p (f i) l ∙ h p l ∙ sym (from_at g n j p (f i) l)

  -- A list of n + m is the list of its first n and the list of its last m.
  pub from_split : (f : ℕ → A) (n m i : ℕ) → list_from i (n + m) f ≡ list_from i n f ++ list_from (i + n) m f
  unfolding list_from
  from_split f zero m i = simp (zero-add, add-zero)
  from_split f (suc n) m i =
      let e : i + suc n ≡ suc i + n = omega arith in
      rw (suc-add, e) (ap (λ (l : List A). f i ∷ l) (from_split f n m (suc i)))

  -- A list is the list of what stands in it.
  pub from_all : (l : List A) (d : A) → list_from 0 (length l) (λ i. get_or l i d) ≡ l
  from_all l d =
      let len = from-length (λ i. get_or l i d) (length l) 0 in
      ext_get_or d (list_from 0 (length l) (λ i. get_or l i d)) l len λ i h.
      from_at (λ i. get_or l i d) (length l) 0 i d (omega arith) ∙ ap (λ (j : ℕ). get_or l j d) (zero-add i)

  -- f 1 .. f n.
  pub list_none : (f : ℕ → A) → list_of 0 f ≡ []
  unfolding list_of list_from
  list_none f = refl

  pub list_more : (f : ℕ → A) (i : ℕ) → list_of (i + 1) f ≡ list_of i f ++ (f (i + 1) ∷ [])
  unfolding list_of list_from
  list_more f i = from_split f i 1 1 ∙ ap (λ (n : ℕ). list_from 1 i f ++ (f n ∷ [])) (omega arith)

  pub list_length : (f : ℕ → A) (n : ℕ) → length (list_of n f) ≡ n
  unfolding list_of
  list_length f n = from-length f n 1

  pub list_at : (f : ℕ → A) (n i : ℕ) (d : A) → i < n → get_or (list_of n f) i d ≡ f (i + 1)
  unfolding list_of
  list_at f n i d l =
      let e : i + 1 ≡ 1 + i = omega arith in
      rw e (from_at f n 1 i d l)

  pub list_same : (f g : ℕ → A) (n : ℕ) → ((i : ℕ) → i < n → f (i + 1) ≡ g (i + 1)) → list_of n f ≡ list_of n g
  unfolding list_of
  list_same f g n h =
      from_same f g n 1 1 λ i l.
      let e : 1 + i ≡ i + 1 = omega arith in
      rw e (h i l)

  -- A list is the list of its records.
  pub list_all : (l : List A) (d : A) → list_of (length l) (λ i. nth l i d) ≡ l
  unfolding list_of
  list_all l d =
      from_same (λ i. nth l i d) (λ i. get_or l i d) (length l) 1 0
      (λ i h.
      let one : 1 + i ≡ i + 1 = omega arith in
      rw (one, nth_at, zero-add)) ∙ from_all l d

  -- The lists f i, f (i + 1) and so on, one after the other: the first n and the last m.
  join_split : (f : ℕ → List A) (n m i : ℕ) → join_from i (n + m) f ≡ join_from i n f ++ join_from (i + n) m f
  unfolding join_from
  join_split f zero m i = simp (zero-add, add-zero)
  join_split f (suc n) m i =
      let e : i + suc n ≡ suc i + n = omega arith in
      rw (suc-add, e, append_assoc) (ap (λ (l : List A). f i ++ l) (join_split f n m (suc i)))

  -- The lists f 1 .. f n, one after the other.
  pub join_none : (f : ℕ → List A) → join_of 0 f ≡ []
  unfolding join_of join_from
  join_none f = refl

  pub join_more : (f : ℕ → List A) (i : ℕ) → join_of (i + 1) f ≡ join_of i f ++ f (i + 1)
  unfolding join_of join_from
  join_more f i = join_split f i 1 1 ∙ rw append-nil (ap (λ (n : ℕ). join_from 1 i f ++ f n) (omega arith))

  pub join_same : (f g : ℕ → List A) (n : ℕ) → ((i : ℕ) → i < n → f (i + 1) ≡ g (i + 1)) → join_of n f ≡ join_of n g
  join_same f g zero h = join_none f ∙ sym (join_none g)
  join_same f g (suc n) h =
      rw (← add-one, join_more f n, join_more g n, join_same f g n (λ i l. h i (omega arith)), h n (omega arith))

  -- Joined lists, cut before and after list i + 1.
  pub join_cut : (f : ℕ → List A) (n i : ℕ) → i < n → join_of n f ≡ join_of i f ++ (f (i + 1) ++ join_from (i + 2) (n - (i + 1)) f)
  unfolding join_of join_from
  join_cut f n i l =
      let e : n ≡ i + suc (n - (i + 1)) = omega arith in
      let this : 1 + i ≡ i + 1 = omega arith in
      let next : suc (i + 1) ≡ i + 2 = omega arith in
      ap (λ (n : ℕ). join_from 1 n f) e ∙ join_split f i (suc (n - (i + 1))) 1 ∙ rw (this, next)

  -- Joined lists that all have the same length: their length together, and what stands in list i + 1.
  pub join_length : (f : ℕ → List A) (size : ℕ) → ((i : ℕ) → length (f i) ≡ size) → (n : ℕ) → length (join_of n f) ≡ size * n
  join_length f size h zero = rw (join_none, mul-zero)
  join_length f size h (suc n) = rw (← add-one, join_more, length-append, join_length f size h n, h (n + 1), add-one, mul-suc)

  pub join_at : (f : ℕ → List A) (size : ℕ) → ((i : ℕ) → length (f i) ≡ size) → (n i p : ℕ) (d : A) → i < n → p < size → get_or (join_of n f) (size * i + p) d ≡ get_or (f (i + 1)) p d
  join_at f size h n i p d l k =
      rw (← join_length f size h i, join_cut f n i l, get_or-append-add) (get_or-append (f (i + 1)) _ d p (omega (arith, h (i + 1))))

  -- Pieces that stand in a list one after the other, piece i + 1 from place `start i` on: the list up to the first of them,
  -- and the pieces, are the list up to the end of the last.
  pub join_parts : (g : ℕ → A) (f : ℕ → List A) (start size : ℕ → ℕ) (n : ℕ)
      → ((i : ℕ) → i < n → f (i + 1) ≡ list_from (start i) (size i) g)
      → ((i : ℕ) → i < n → start (i + 1) ≡ start i + size i)
      → list_from 0 (start 0) g ++ join_of n f ≡ list_from 0 (start n) g
  join_parts g f start size zero h e = rw (join_none, append-nil)
  join_parts g f start size (suc n) h e =
      let front = join_parts g f start size n (λ i l. h i (omega arith)) (λ i l. e i (omega arith)) in
      rw (← add-one n, join_more, ← append_assoc, front, h n (omega arith), e n (omega arith), from_split, zero-add)

  -- A list filled up: with nothing, its length, with one more, and what stands in it.
  pub filled_none : (n : ℕ) (d : A) → filled n d [] ≡ replicate n d
  unfolding filled
  filled_none n d = let e : length (replicate n d) ≤ n = omega (arith, length-replicate n d) in take_all n (replicate n d) e

  pub filled-length : (n : ℕ) (d : A) (l : List A) → length (filled n d l) ≡ n
  unfolding filled
  filled-length n d l = length-take-le n (l ++ replicate n d) (simp (length-append, length-replicate) (omega arith))

  pub take-replicate : (n p : ℕ) (d : A) → n ≤ p → take n (replicate p d) ≡ replicate n d
  take-replicate zero p d h = refl
  take-replicate (suc n) zero d h = absurd (omega arith)
  take-replicate (suc n) (suc p) d h = ap (λ (l : List A). d ∷ l) (take-replicate n p d (omega arith))

  set_fill : (n p : ℕ) (d a : A) (l : List A) → length l < n → n ≤ length l + p → set (take n (l ++ replicate p d)) (length l) a ≡ take n ((l ++ (a ∷ [])) ++ replicate p d)
  set_fill zero p d a l h k = absurd (omega arith)
  set_fill (suc n) zero d a [] h k = absurd (omega arith)
  set_fill (suc n) (suc p) d a [] h k =
      ap (λ (l : List A). a ∷ l) (take-replicate n p d (omega arith) ∙ sym (take-replicate n (suc p) d (omega arith)))
  set_fill (suc n) p d a (x ∷ l) h k = ap (λ (r : List A). x ∷ r) (set_fill n p d a l (omega arith) (omega arith))

  pub filled-set : (n : ℕ) (d a : A) (l : List A) (i : ℕ) → length l ≡ i → i < n → set (filled n d l) i a ≡ filled n d (l ++ (a ∷ []))
  unfolding filled
  filled-set n d a l i e h = rw (sym e) (set_fill n n d a l (omega arith) (omega arith))

  -- An array that a loop fills, record by record: before the first one, and with one more.
  pub fill_none : (n : ℕ) (d : A) (f : ℕ → A) → replicate n d ≡ filled n d (list_of 0 f)
  fill_none n d f = sym (ap (λ (l : List A). filled n d l) (list_none f) ∙ filled_none n d)

  pub fill_more : (n : ℕ) (d : A) (f : ℕ → A) (i : ℕ) (l : List A) (x : A)
      → i < n → l ≡ filled n d (list_of i f) → x ≡ f (i + 1) → set l i x ≡ filled n d (list_of (i + 1) f)
  fill_more n d f i l x h e v =
      rw (e, v)
      (filled-set n d (f (i + 1)) (list_of i f) i (list_length f i) h
      ∙ ap (λ (r : List A). filled n d r) (sym (list_more f i)))

  pub filled_at : (n : ℕ) (d e : A) (l : List A) (i : ℕ) → i < length l → i < n → get_or (filled n d l) i e ≡ get_or l i e
  unfolding filled
  filled_at n d e l i h k = get_or-take n (l ++ replicate n d) i e k ∙ get_or-append l (replicate n d) e i h

  pub replicate_at : (n i : ℕ) (d : A) → get_or (replicate n d) i d ≡ d
  replicate_at zero i d = refl
  replicate_at (suc n) zero d = refl
  replicate_at (suc n) (suc i) d = replicate_at n i d

  pub filled_rest : (n : ℕ) (d : A) (l : List A) (i : ℕ) → length l ≤ i → get_or (filled n d l) i d ≡ d
  unfolding filled
  filled_rest n d l i h =
      elim (dec_lt i n) [
        | yes k ↦ get_or-take n (l ++ replicate n d) i d k ∙ ap (λ (j : ℕ). get_or (l ++ replicate n d) j d) (omega arith) ∙ get_or-append-add l (replicate n d) (i - length l) d ∙ replicate_at n (i - length l) d
        | no k ↦ get_or-eq_default (take n (l ++ replicate n d)) d (simp length-take (omega arith))
      ]

  -- A list filled up reads as the list itself at each of its places.
  pub filled_same : (n : ℕ) (d : A) (l : List A) (i : ℕ) → i < n → get_or (filled n d l) i d ≡ get_or l i d
  filled_same n d l i h =
      elim (dec_lt i (length l)) [
        | yes k ↦ filled_at n d d l i k h
        | no k ↦ filled_rest n d l i (omega arith) ∙ sym (get_or-eq_default l d (omega arith))
      ]

  -- Where f 1 .. f n are filled up, what stands at place i, from 0; record s; and what is past them.
  pub filled_list_at : (f : ℕ → A) (d : A) (places n i : ℕ) → i < n → i < places → get_or (filled places d (list_of n f)) i d ≡ f (i + 1)
  filled_list_at f d places n i h k =
      filled_same places d (list_of n f) i k ∙ list_at f n i d h

  pub filled_record : (f : ℕ → A) (d : A) (places n s : ℕ) → n ≤ places → 1 ≤ s → s ≤ n → nth (filled places d (list_of n f)) s d ≡ f s
  unfolding nth
  filled_record f d places n zero room low high = absurd (omega arith)
  filled_record f d places n (suc i) room low high = rw (filled_list_at f d places n i high (omega arith), add-one)

  pub filled-nth : (f : ℕ → A) (d : A) (places n s : ℕ) → f 0 ≡ d → n ≤ places → s ≤ n → nth (filled places d (list_of n f)) s d ≡ f s
  unfolding nth
  filled-nth f d places n zero e h k = sym e
  filled-nth f d places n (suc i) e h k = filled_record f d places n (suc i) h (omega arith) k

  pub filled_past : (f : ℕ → A) (d : A) (places n s : ℕ) → n < s → nth (filled places d (list_of n f)) s d ≡ d
  unfolding nth
  filled_past f d places n zero h = refl
  filled_past f d places n (suc i) h = filled_rest places d (list_of n f) i (omega (arith, list_length f n))

  -- What holds of f 1 .. f n and of what they are filled up with holds of every record.
  pub filled_each : (f : ℕ → A) (d : A) (places n : ℕ) (P : ℕ → A → Type 0) → n ≤ places → ((s : ℕ) → 1 ≤ s → s ≤ n → P s (f s))
      → ((s : ℕ) → P s d) → (s : ℕ) → P s (nth (filled places d (list_of n f)) s d)
  unfolding nth
  filled_each f d places n P room these rest zero = rest zero
  filled_each f d places n P room these rest (suc i) =
      elim (dec_lt i n) [
        | yes h ↦ rw (filled_record f d places n (suc i) room (omega arith) h) (these (suc i) (omega arith) h)
        | no h ↦ rw (filled_past f d places n (suc i) (omega arith)) (rest (suc i))
      ]

  -- Stores of two lists joined are those of the first and then those of the second.
  pub sets_append : (v w l : List A) (at : ℕ) → sets l at (v ++ w) ≡ sets (sets l at v) (at + length v) w
  sets_append [] w l at = let e : at + 0 ≡ at = omega arith in rw e
  sets_append (a ∷ v) w l at =
      let e : at + suc (length v) ≡ suc at + length v = omega arith in
      rw e (sets_append v w (set l at a) (suc at))

-- Place p of the route of train i, counted from 1, at its index; no segment stands before the first or past the last of its 64 places.
pub route_index : (routes : List ℕ) (i p j : ℕ) → 1 ≤ i → 1 ≤ p → p ≤ 64 → j ≡ 64 * (i - 1) + p - 1 → route_at routes i p ≡ get_or routes j 0
unfolding route_at
route_index routes zero p j low first last e = absurd (omega arith)
route_index routes (suc i) zero j low first last e = absurd (omega arith)
route_index routes (suc i) (suc p) j low first last e =
    let index : 64 * i + p ≡ j = omega arith in
    rw (lt-ltb p 64 last, index)

pub route_before : (routes : List ℕ) (i : ℕ) → route_at routes i 0 ≡ 0
unfolding route_at
route_before routes zero = refl
route_before routes (suc i) = refl

pub route_past : (routes : List ℕ) (i p : ℕ) → 64 < p → route_at routes i p ≡ 0
unfolding route_at
route_past routes zero p h = refl
route_past routes (suc i) zero h = refl
route_past routes (suc i) (suc p) h = rw (le-ltb p 64 (omega arith))

-- Place p + 1 of the route of train i + 1.
pub route_at_lem : (routes : List ℕ) (i p : ℕ) → p < 64 → route_at routes (i + 1) (p + 1) ≡ get_or routes (64 * i + p) 0
route_at_lem routes i p h = route_index routes (i + 1) (p + 1) _ (omega arith) (omega arith) (omega arith) (omega arith)

-- The length of an array of records, from what a program knows of their values.
pub length_mapped : {X Y : Type 0} (f : X → Y) (l : List X) (n : ℕ) → length (map f l) ≡ n → length l ≡ n
length_mapped f l n e = sym (length-map l f) ∙ e
