-- Of a refused file the code is all that is sampled: the empty record has 0 at every place.
use Rattle.std.proofs.Common.{◌≡◌, ℕ, ◌%◌, ◌∙◌, ap, arith, Err}
use Rattle.rules.specs.declared.errors.FileError.{FileError}
use Rattle.rules.specs.Ends.{FileOutcome}
use Rattle.rules.specs.Errors.{refusal_of, outcome}
use Rattle.rules.specs.Track.{no_segment, no_box_plan, no_train_plan}
use Rattle.rules.specs.Line.{no_box, no_train, empty_line, empty_table}
use Rattle.rules.proofs.Rows.{replicate_at}
use Rattle.bench.specs.Sample.{sample}
use Rattle.bench.proofs.bench_read.Goals as goal

sampled_refused : (e : FileError) (i : ℕ) → (refusal_of e).code ≡ sample (outcome (Err e)) i
unfolding empty_line empty_table
sampled_refused e i =
    rw (
      replicate_at 96 i no_box,
      replicate_at 16 i no_train,
      replicate_at {A = ℕ} 1024 i 0,
      replicate_at 96 i no_segment,
      replicate_at 96 i no_box_plan,
      replicate_at 16 i no_train_plan,
    )
    (omega arith)

pub returns-in-Err : goal.returns-in-Err
returns-in-Err c =
    let i = c.args.i % 16 in
    c.from-in-Err.ensures ∙ c.code.ensures ∙ sampled_refused c.in-Err.error i ∙ ap (λ (o : FileOutcome). sample o i) c.in-Err.ensures
