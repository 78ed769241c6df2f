-- One word of the item rows. Assumes nothing.
use borrow.Author.Rules.{rules}
use Rattle.table.proofs.Write.{write_item}
use Rattle.table.proofs.set_item.Goals as goal

pub returns : goal.returns
returns c = record { writes = write_item _ _ _ _ _ (search rules) (search rules); still_sized = search rules }
