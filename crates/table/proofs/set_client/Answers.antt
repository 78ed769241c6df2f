-- One word of the client rows. Assumes nothing.
use borrow.Author.Rules.{rules}
use Rattle.table.proofs.Write.{write_client}
use Rattle.table.proofs.set_client.Goals as goal

pub returns : goal.returns
returns c = record { writes = write_client _ _ _ _ _ (search rules) (search rules); still_sized = search rules }
