-- Lent bytes that are a part of other lent bytes: which memory they are, and what stands in it.
use Rattle.std.specs.Prelude.{ℕ, ◌+◌, List, ◌≡◌, drop}
use Rattle.std.specs.Borrow.{Bor}

-- The pointer so many bytes after another, in the same block of memory.
abbrev pub pointer_after : ℕ × ℕ → ℕ → ℕ × ℕ
pointer_after p count = (p.0, p.1 + count)

-- What is left of lent bytes past a place.
pub record RestOf (bytes : Bor (List ℕ)) (at : ℕ) (rest : Bor (List ℕ)) : Type 0 where
  pub pointer : rest.ref_ptr ≡ pointer_after bytes.ref_ptr at
  pub left : rest.now ≡ drop at bytes.now
