-- Taken off the chain, and then one word. Assumes nothing.
use borrow.Author.Rules.{rules}
use Rattle.table.proofs.Write.{then}
use Rattle.order.proofs.take_row.Goals as goal

pub returns : goal.returns
returns c = record { value = search rules; writes = then c.take_client-r.ensures.writes c.set_client.ensures.writes; still_sized = search rules }
