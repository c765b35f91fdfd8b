-- The table is the one that is read, or the default.
use Rattle.tablefile.proofs.Empty.{table_read}
use Rattle.tablefile.proofs.head.table.Goals as goal

pub returns : goal.returns
returns c = let head = c.read_head.ensures in table_read _ _ _ head.refusal head.table c.unwrap_or_default.ensures
