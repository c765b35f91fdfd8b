-- What putting back one train and one box of a line changes, and what it leaves alone.
use Prim.Native.Nat.{ℕ, zero, suc, ◌≤◌}
use mathlib.Core.Path.{◌≡◌, refl, sym, ◌∙◌, ap}
use mathlib.Core.Logic.{◌≢◌, inl, inr}
use mathlib.Core.Bool.{Bool, true, false, cond}
use mathlib.Core.List.{List, [], ◌∷◌}
use native.Mathlib.Decide.{ℕ_discrete}
use native.Mathlib.Omega.{arith}
use borrow.Author.Tests.{eq-eqb, ne_eqb, eqb-true, eqb-false}
use lib.Dec.{eqb}
use lib.ListN.{length, get_or, set, length-set}
use lib.Seq.{get_or-set_same, get_or-set_other, set-get_or}
use Rattle.rules.specs.declared.BoxPlan.{BoxPlan}
use Rattle.rules.specs.declared.SwitchBox.{SwitchBox}
use Rattle.rules.specs.declared.Train.{Train}
use Rattle.rules.specs.declared.Line.{Line}
use Rattle.rules.specs.Rows.{nth, set_nth}
use Rattle.rules.specs.Network.{lists}
use Rattle.rules.specs.Line.{no_box, no_train, box_at, train_at, put_train, put_box, holder_of, set_holder}
use Rattle.rules.specs.Safety.{TrainOf}
use Rattle.rules.proofs.Tests.{cond_each}
use Rattle.rules.proofs.Accepted.{BoxOf, on_left, on_right, Stands, lists_iff}

module _ {ℓ} {A : Type ℓ} where
  -- A list with its i-th replaced: what stands there, and elsewhere; what stood there put back; its length.
  nth-set : (l : List A) (i : ℕ) (a d : A) → 1 ≤ i → i ≤ length l → nth (set_nth l i a) i d ≡ a
  unfolding nth set_nth
  nth-set l zero a d low high = absurd (omega arith)
  nth-set l (suc i) a d low high = get_or-set_same l i a d (omega arith)

  nth_other : (l : List A) (i j : ℕ) (a d : A) → j ≢ i → nth (set_nth l i a) j d ≡ nth l j d
  unfolding nth set_nth
  nth_other l i zero a d n = refl
  nth_other l zero (suc j) a d n = refl
  nth_other l (suc i) (suc j) a d n = get_or-set_other l i j a d (λ e. n (ap suc e))

  set_back : (l : List A) (i : ℕ) (d : A) → set_nth l i (nth l i d) ≡ l
  unfolding nth set_nth
  set_back l zero d = refl
  set_back l (suc i) d = set-get_or l i d

  pub set-length : (l : List A) (i : ℕ) (a : A) → length (set_nth l i a) ≡ length l
  unfolding set_nth
  set-length l zero a = refl
  set-length l (suc i) a = length-set l i a

  -- What holds of the i-th as replaced and of all as they were holds of all, whether there is an i-th or not.
  pub set_either : (P : A → Type 0) (l : List A) (i j : ℕ) (a d : A) → (j ≡ i → P a) → P (get_or l j d) → P (get_or (set l i a) j d)
  set_either P [] i j a d h k = k
  set_either P (x ∷ l) zero zero a d h k = h refl
  set_either P (x ∷ l) zero (suc j) a d h k = k
  set_either P (x ∷ l) (suc i) zero a d h k = k
  set_either P (x ∷ l) (suc i) (suc j) a d h k = set_either P l i j a d (λ e. h (ap suc e)) k

  nth_either : (P : ℕ → A → Type 0) (l : List A) (i : ℕ) (a d : A) → P i a → ((j : ℕ) → P j (nth l j d))
      → (j : ℕ) → P j (nth (set_nth l i a) j d)
  unfolding nth set_nth
  nth_either P l i a d h k zero = k zero
  nth_either P l zero a d h k (suc j) = k (suc j)
  nth_either P l (suc i) a d h k (suc j) = set_either (P (suc j)) l i j a d (λ e. rw e h) (k (suc j))

-- The line with train i and box b put back; a line has room for the trains and boxes of its table.
abbrev pub put : Line → ℕ → Train → ℕ → SwitchBox → Line
put l i r b x = put_box (put_train l i r) b x

pub record Sized (l : Line) : Type 0 where
  pub trains : l.table.k ≤ length l.trains
  pub boxes : l.table.m ≤ length l.boxes

module _ (l : Line) (i : ℕ) (r : Train) (b : ℕ) (x : SwitchBox) where
  -- The table and the routes.
  pub table_put : (put l i r b x).table ≡ l.table
  unfolding put_train put_box
  table_put = refl

  pub routes_put : (put l i r b x).routes ≡ l.routes
  unfolding put_train put_box
  routes_put = refl

  -- Train i, and any other; box b, and any other.
  pub train_put : Sized l → TrainOf l.table i → train_at (put l i r b x) i ≡ r
  unfolding put_train put_box train_at
  train_put h k = let room = h.trains in nth-set l.trains i r no_train k.low (omega arith)

  pub train_other : {j : ℕ} → j ≢ i → train_at (put l i r b x) j ≡ train_at l j
  unfolding put_train put_box train_at
  train_other {j} n = nth_other l.trains i j r no_train n

  pub box_put : Sized l → BoxOf l.table.m b → box_at (put l i r b x) b ≡ x
  unfolding put_train put_box box_at
  box_put h k = let room = h.boxes in nth-set l.boxes b x no_box k.low (omega arith)

  pub box_other : {c : ℕ} → c ≢ b → box_at (put l i r b x) c ≡ box_at l c
  unfolding put_train put_box box_at
  box_other {c} n = nth_other l.boxes b c x no_box n

  -- What holds of train i as put back and of the others as they were holds of every train; and of every box.
  pub each-train
      : (P : ℕ → Train → Type 0) → Sized l → TrainOf l.table i → P i r
      → ((j : ℕ) → TrainOf l.table j → j ≢ i → P j (train_at l j))
      → (j : ℕ) → TrainOf l.table j → P j (train_at (put l i r b x) j)
  each-train P h k this others j kj =
      elim (ℕ_discrete j i) [
        | yes e ↦ rw (e, train_put h k) this
        | no n ↦ rw (train_other n) (others j kj n)
      ]

  pub each-box
      : (P : ℕ → SwitchBox → Type 0) → Sized l → BoxOf l.table.m b → P b x
      → ((c : ℕ) → c ≢ b → P c (box_at l c)) → (c : ℕ) → P c (box_at (put l i r b x) c)
  each-box P h k this others c =
      elim (ℕ_discrete c b) [
        | yes e ↦ rw (e, box_put h k) this
        | no n ↦ rw (box_other n) (others c n)
      ]

  -- The same where there is no such train or box, too.
  pub every_train : (P : ℕ → Train → Type 0) → P i r → ((j : ℕ) → P j (train_at l j)) → (j : ℕ) → P j (train_at (put l i r b x) j)
  unfolding put_train put_box train_at
  every_train P this all j = nth_either P l.trains i r no_train this all j

  pub every_box : (P : ℕ → SwitchBox → Type 0) → P b x → ((c : ℕ) → P c (box_at l c)) → (c : ℕ) → P c (box_at (put l i r b x) c)
  unfolding put_train put_box box_at
  every_box P this all c = nth_either P l.boxes b x no_box this all c

-- What stood there put back changes nothing.
box_back : (l : Line) (b : ℕ) → put_box l b (box_at l b) ≡ l
unfolding put_box box_at
box_back l b = rw (set_back l.boxes b no_box)

pub train_back : (l : Line) (i : ℕ) → put_train l i (train_at l i) ≡ l
unfolding put_train train_at
train_back l i = rw (set_back l.trains i no_train)

-- So a train put back by itself is the train put back with any box as it was.
pub train-alone : (l : Line) (i : ℕ) (r : Train) (b : ℕ) → put l i r b (box_at l b) ≡ put_train l i r
unfolding put_train box_at
train-alone l i r b = box_back (put_train l i r) b

-- What holds of the value at each place of a box where segment s stands holds of what is read for s, where the box lists it.
pub place_read : (P : ℕ → Type 0) (s place y rest : ℕ) → (s ≡ place → P y) → (s ≢ place → P rest) → P (cond (eqb s place) y rest)
place_read P s place y rest this others =
    cond_each P (eqb s place) y rest (λ e. this (eqb-true s place e)) (λ n. others (eqb-false s place n))

pub holder-read
    : (p : BoxPlan) (x : SwitchBox) (s : ℕ) (P : ℕ → Type 0) → lists p s ≡ true
    → (s ≡ p.stem → P x.stem) → (s ≡ p.left → P x.left) → (s ≡ p.right → P x.right) → P (holder_of p x s)
unfolding holder_of
holder-read p x s P h stem left right =
    place_read P s p.stem x.stem _ stem λ l.
    place_read P s p.left x.left _ left λ m.
    place_read P s p.right x.right _ right λ n.
    absurd (nowhere l m n ((lists_iff p s).0 h))
  where
    nowhere : s ≢ p.stem → s ≢ p.left → s ≢ p.right → Stands p s → ⊥
    nowhere l m n (inl e) = l (sym e)
    nowhere l m n (inr (y, on_left f e)) = m (sym e)
    nowhere l m n (inr (y, on_right f e)) = n (sym e)

-- The reservation of segment s set at a box: what is read for s, where the box lists it, and where it may not; and for another segment.
other_read : (z s place i y rest rest' : ℕ) → z ≢ s → rest ≡ rest'
    → cond (eqb z place) (cond (eqb s place) i y) rest ≡ cond (eqb z place) y rest'
other_read z s place i y rest rest' n h =
    elim (ℕ_discrete z place) [
      | yes e ↦ rw (eq-eqb z place e, ne_eqb s place (λ f. n (e ∙ sym f)))
      | no m ↦ rw (ne_eqb z place m) h
    ]

module _ (p : BoxPlan) (x : SwitchBox) (s i : ℕ) where
  pub holder_set : lists p s ≡ true → holder_of p (set_holder p x s i) s ≡ i
  unfolding set_holder
  holder_set h =
      holder-read p (set_holder p x s i) s (λ z. z ≡ i) h (λ e. rw (eq-eqb s _ e)) (λ e. rw (eq-eqb s _ e))
      (λ e. rw (eq-eqb s _ e))

  pub holder_own : (P : ℕ → Type 0) → P 0 → P i → P (holder_of p (set_holder p x s i) s)
  unfolding holder_of set_holder
  holder_own P none this = by (eqb s p.stem) _ _ (by (eqb s p.left) _ _ (by (eqb s p.right) _ _ none))
    where
      by : (c : Bool) (y rest : ℕ) → P rest → P (cond c (cond c i y) rest)
      by true y rest h = this
      by false y rest h = h

  pub holder_other : {z : ℕ} → z ≢ s → holder_of p (set_holder p x s i) z ≡ holder_of p x z
  unfolding holder_of set_holder
  holder_other {z} n =
      other_read z s p.stem i x.stem _ _ n
      (other_read z s p.left i x.left _ _ n (other_read z s p.right i x.right 0 0 n refl))
