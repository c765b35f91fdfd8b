-- Arrays that a loop fills list by list (record by record: Rows of `rules`).
use Rattle.std.proofs.Common.{ℕ, zero, suc, ◌+◌, ◌-◌, ◌*◌, ◌≤◌, ◌<◌, min, ◌≡◌, refl, sym, ◌∙◌, ap, List, [], ◌∷◌, ◌++◌, append_assoc, length, take, replicate, length-append, length-take, take-take, take_all, arith}
use Rattle.std.proofs.lemmas.List.{replicate-append-replicate, take-replicate, drop-replicate}
use Rattle.std.proofs.Math.Decide.{dec_lt}
use Rattle.std.proofs.Math.Seq.{take-append_seam, take-append-add, drop-append_seam}
use borrow.Rule.Slice.PartMut.{put_mid}
use Rattle.rules.specs.Rows.{join_of, filled}
use Rattle.rules.proofs.Rows.{join_more, join_length, filled-length}

module _ {A : Type 0} where
  -- A list filled up, by its length, and a list copied behind it.
  filled_by : (n : ℕ) (d : A) (l : List A) → length l ≤ n → filled n d l ≡ l ++ replicate (n - length l) d
  unfolding filled
  filled_by n d l h =
      let e : n ≡ length l + (n - length l) = omega arith in
      ap (λ m. take m (l ++ replicate n d)) e
      ∙ take-append-add l (replicate n d) (n - length l)
      ∙ ap (λ r. l ++ r) (take-replicate (n - length l) n d (omega arith))

  fill_list : (n k : ℕ) (d : A) (l v : List A) →
      length v ≡ k → length l + k ≤ n → put_mid (length l) k (filled n d l) v ≡ filled n d (l ++ v)
  fill_list n k d l v e h =
      let long : length (l ++ v) ≤ n = simp length-append (omega arith) in
      let left : n - length l - k ≡ n - length (l ++ v) = simp length-append (omega arith) in
      let room : length l ≤ n = omega arith in
      rw (filled_by n d l room, filled_by n d (l ++ v) long, take-append_seam, drop-append_seam, drop-replicate, left, append_assoc)

  -- Filling up twice: the first filling adds nothing.
  drop_pad : (n q r : ℕ) (d : A) (l : List A) →
      n ≤ length l + r → take n ((l ++ replicate q d) ++ replicate r d) ≡ take n (l ++ replicate r d)
  drop_pad zero q r d l h = refl
  drop_pad (suc n) q r d [] h =
      rw replicate-append-replicate
      (take-replicate (suc n) (q + r) d (omega arith) ∙ sym (take-replicate (suc n) r d (omega arith)))
  drop_pad (suc n) q r d (x ∷ l) h = ap (λ (s : List A). x ∷ s) (drop_pad n q r d l (omega arith))

  take_pad : (p q : ℕ) (d : A) (v : List A) → p ≤ length v + q → take p (v ++ replicate q d) ≡ take p v ++ replicate (p - length v) d
  take_pad zero q d v h = let e : 0 - length v ≡ 0 = omega arith in rw e
  take_pad (suc p) q d [] h =
      let e : suc p - 0 ≡ suc p = omega arith in
      rw e (take-replicate (suc p) q d (omega arith))
  take_pad (suc p) q d (x ∷ v) h =
      let e : suc p - suc (length v) ≡ p - length v = omega arith in
      rw e (ap (λ (s : List A). x ∷ s) (take_pad p q d v (omega arith)))

  filled_pad : (n p : ℕ) (d : A) (l v : List A) → filled n d (l ++ filled p d v) ≡ filled n d (l ++ take p v)
  unfolding filled
  filled_pad n p d l v =
      ap (λ (s : List A). take n ((l ++ s) ++ replicate n d)) (take_pad p p d v (omega arith))
      ∙ ap (λ (s : List A). take n (s ++ replicate n d)) (sym (append_assoc l (take p v) (replicate (p - length v) d)))
      ∙ drop_pad n (p - length v) n d (l ++ take p v) (omega arith)

  take_min : (m n : ℕ) (l : List A) → take (min m n) l ≡ take n (take m l)
  take_min m n l =
      elim (dec_lt n m) [
        | yes h ↦ let e : min m n ≡ n = omega arith in rw e (sym (take-take n m l (omega arith)))
        | no h ↦ let e : min m n ≡ m = omega arith in rw e (sym (take_all n (take m l) (simp length-take (omega arith))))
      ]

  -- One list more, of which at most 64 are copied.
  pub join_copy : (f : ℕ → List A) (d : A) (i k size : ℕ) (l v w : List A) →
      i < 16 →
      l ≡ filled 1024 d (join_of i (λ s. filled 64 d (f s))) →
      f (i + 1) ≡ take size v →
      k ≡ min size 64 →
      k ≤ length v →
      w ≡ take k v →
      put_mid (64 * i) k l w ≡ filled 1024 d (join_of (i + 1) (λ s. filled 64 d (f s)))
  join_copy f d i k size l v w h e g c room is =
      let g64 : ℕ → List A = λ s. filled 64 d (f s) in
      let j : length (join_of i g64) ≡ 64 * i = join_length g64 64 (λ s. filled-length 64 d (f s)) i in
      let same : w ≡ take 64 (f (i + 1)) = is ∙ rw (c, g) (take_min size 64 v) in
      let long : length w ≡ k = rw is (simp length-take (omega arith)) in
      rw (e, sym j, fill_list 1024 k d (join_of i g64) w long (omega arith), same)
      (sym (filled_pad 1024 64 d (join_of i g64) (f (i + 1))) ∙ ap (λ (s : List A). filled 1024 d s) (sym (join_more g64 i)))
