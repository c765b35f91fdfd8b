-- There is such a train in the file.
use Rattle.std.proofs.Common.{sym, ◌∙◌}
use Rattle.tablefile.proofs.Files.{has_train}
use Rattle.tablefile.proofs.route.Goals as goal

pub route-requires : goal.route-requires
route-requires c =
    let t = c.in_ok-table.ensures in
    has_train _ t.refusal _ t.table _ (sym c.outside.ensures ∙ c.if-outside.false)
