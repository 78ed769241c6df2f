-- One word of the count rows. Assumes nothing.
use borrow.Author.Rules.{rules}
use Rattle.table.proofs.Write.{write_count}
use Rattle.table.proofs.set_count_end.Goals as goal

pub returns : goal.returns
returns c = record { writes = write_count _ _ _ _ _ (search rules) (search rules); still_sized = search rules }
