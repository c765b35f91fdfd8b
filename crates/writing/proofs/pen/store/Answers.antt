-- A turn stores one byte more.
use Rattle.std.proofs.Common.{◌≡◌, ◌<◌, ◌+◌, ℕ, List, [], ◌∷◌, length, get_or, take, sym, ◌∙◌, ap, add-one, length-take-le, arith}
use Rattle.std.proofs.Math.ListN.{set}
use Rattle.std.proofs.Math.Seq.{sets, take-suc}
use Rattle.rules.proofs.Rows.{sets_append}
use Rattle.writing.proofs.pen.store.Goals as goal

store_more : (l s : List ℕ) (at j : ℕ) → j < length s → set (sets l at (take j s)) (at + j) (get_or s j 0) ≡ sets l at (take (j + 1) s)
store_more l s at j h =
    let w = take j s in
    let a = get_or s j 0 in
    let e : length w ≡ j = length-take-le j s (omega arith) in
    rw (add-one, take-suc s j 0) (ap (λ (i : ℕ). set (sets l at w) (at + i) a) (sym e) ∙ sym (sets_append w (a ∷ []) l at))

pub loop-i-preserved : goal.loop-i-preserved
loop-i-preserved c = rw c.loop-i.invariant (store_more c.args.buffer.now c.args.bytes.now c.args.at c.loop-i.i (omega arith))
