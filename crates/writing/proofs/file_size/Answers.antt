use Rattle.std.proofs.Common.{◌≡◌, length, rules, arith}
use Rattle.rules.specs.File.{segment_size}
use Rattle.rules.proofs.ReadBack.{encoded_length}
use Rattle.rules.proofs.Rows.{length_mapped}
use Rattle.writing.proofs.Laws.{trains_length}
use Rattle.writing.proofs.file_size.Goals as goal

pub returns : goal.returns
returns c =
    let t = c.args.table.now in
    let h : length t.trains ≡ 16 = search (rules, length_mapped) in
    let w : c.from-width.result ≡ segment_size t.version = omega arith in
    let n : c.from.result ≡ t.n = omega arith in
    rw (w, n) (omega (arith, encoded_length t, trains_length t c.min.result h (omega arith)))
