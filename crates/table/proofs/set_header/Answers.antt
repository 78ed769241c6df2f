-- One word of the header. Assumes nothing.
use borrow.Author.Rules.{rules}
use Rattle.table.proofs.Write.{write_header}
use Rattle.table.proofs.set_header.Goals as goal

pub returns : goal.returns
returns c = record { writes = write_header _ _ _ _ (search rules); still_sized = search rules }
