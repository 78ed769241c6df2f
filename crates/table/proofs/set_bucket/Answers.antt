-- One word of the buckets. Assumes nothing.
use borrow.Author.Rules.{rules}
use Rattle.table.proofs.Write.{write_bucket}
use Rattle.table.proofs.set_bucket.Goals as goal

pub returns : goal.returns
returns c = record { writes = write_bucket _ _ _ _ (search rules); still_sized = search rules }
