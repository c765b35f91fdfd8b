-- What a read puts behind the first bytes of the buffer is what it takes of the reader after theirs.
use Rattle.std.proofs.Common.{◌≡◌, ℕ, ◌+◌, ◌≤◌, List, ◌++◌, length, take, subst, rules, length-take-le, take-add, take_at, drop_at}
use Rattle.std.proofs.lemmas.List.{take-append-le}
use Rattle.std.specs.Io.KnownBytes.{Consumes}
use Rattle.std.proofs.KnownBytes.{Consumes-trans}
use borrow.Rule.Slice.PartMut.{put_mid}
use Rattle.input.proofs.fill.Goals as goal

take_read : (a k n : ℕ) (xs ys : List ℕ) → a ≤ length xs → n ≤ length ys → take a xs ++ take n ys ≡ take (a + n) (put_mid a k xs ys)
take_read a k n xs ys within fits =
    let front = length-take-le a xs within in
    rw (take-add, take_at _ _ _ front, drop_at _ _ _ front, take-append-le n ys _ fits)

pub loop-done-preserved : goal.loop-done-preserved
loop-done-preserved g c =
    let read = c.in-Ok.ensures in
    record {
      within = search rules;
      bytes = subst (Consumes _ _) (take_read _ _ _ _ _ c.loop-done.invariant.within read.bound.0)
          (Consumes-trans _ _ _ _ _ c.loop-done.invariant.bytes read.bytes.0);
    }
