-- One word read, and then five written. Assumes nothing.
use borrow.Author.Rules.{rules}
use Rattle.order.proofs.Writes.{free_writes}
use Rattle.order.proofs.free_row.Goals as goal

pub returns : goal.returns
returns c = record { writes = free_writes _ c.header-first.ensures c.clear_row.ensures.writes c.set_client.ensures.writes c.set_header.ensures.writes; still_sized = search rules }
