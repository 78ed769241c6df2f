-- What was read of the header and of the first free row, by the one law for both kinds of rows. Assumes nothing.
use borrow.Author.Rules.{rules}
use lib.Dec.{lit<}
use Rattle.links.proofs.Strands.{item_stands}
use Rattle.links.proofs.Pools.{take_writes}
use Rattle.links.proofs.take_item.Goals as goal

pub returns : goal.returns
returns c = record { value = c.header-r.ensures; writes = take_writes (item_stands _) (lit< tt) (lit< tt) _ (search rules) _ c.header-r.ensures c.item-next.ensures c.set_header.ensures.writes; still_sized = c.set_header.ensures.still_sized }
