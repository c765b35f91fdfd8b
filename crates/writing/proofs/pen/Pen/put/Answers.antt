use Rattle.std.proofs.Common.{◌+◌, ◌≡◌, length, refl, ap, arith, ◌∙◌}
use Rattle.std.proofs.Math.Seq.{length-sets}
use Rattle.writing.proofs.pen.Pen.put.Goals as goal

pub returns-then-end-self-clause-written : goal.returns-then-end-self-clause-written
returns-then-end-self-clause-written c = λ h.
    let p = c.args.self.now in
    let n : c.saturating_add-end.result ≡ p.at + length c.args.bytes.now = omega arith in
    let e = c.store.ensures in
    rw n (record { next = refl; bytes = e; size = ap length e ∙ length-sets p.buffer.now p.at c.args.bytes.now; same = refl })
