-- The one code, by the order's lens. Assumes nothing.
use lib.Dec.{lit<}
use Rattle.links.proofs.Strands.{order_lens, insert_asks, insert_does}
use Rattle.links.proofs.insert_client.Goals as goal

pub insert-requires : goal.insert-requires
insert-requires c = let k = insert_asks (order_lens _ c.requires.sized.small) (lit< tt) c.order.ensures _ _ _ (c.requires.sized, (c.requires.r_lt_q, (c.requires.link, c.requires.later_link))) in record { ends = k.0; row = k.1.0; reach = k.1.1.0; later_reach = k.1.1.1 }

pub returns : goal.returns
returns c = let k = insert_does (order_lens _ c.requires.sized.small) (lit< tt) c.order.ensures _ _ _ (c.requires.sized, (c.requires.r_lt_q, (c.requires.link, c.requires.later_link))) c.insert.ensures in record { writes = k.0; still_sized = k.1 }
