-- Three words. Assumes nothing.
use borrow.Author.Rules.{rules}
use Rattle.table.proofs.Write.{then}
use Rattle.order.proofs.clear_row.Goals as goal

pub returns : goal.returns
returns c = record { writes = then (then c.set_client.ensures.writes c.set_client-2.ensures.writes) c.set_client-3.ensures.writes; still_sized = search rules }
