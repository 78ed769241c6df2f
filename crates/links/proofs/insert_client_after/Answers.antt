-- The one code, by the order's lens. Assumes nothing.
use lib.Dec.{lit<}
use Rattle.links.proofs.Strands.{order_lens, after_asks, after_does}
use Rattle.links.proofs.insert_client_after.Goals as goal

pub insert_after-requires : goal.insert_after-requires
insert_after-requires c = let k = after_asks (order_lens _ c.requires.sized.small) (lit< tt) c.order.ensures _ _ (c.requires.sized, (c.requires.r_lt_q, (c.requires.e_lt_q, c.requires.link))) in record { ends = k.0; row = k.1.0; row_of_e = k.1.1.0; reach = k.1.1.1 }

pub returns : goal.returns
returns c = let k = after_does (order_lens _ c.requires.sized.small) (lit< tt) c.order.ensures _ _ (c.requires.sized, (c.requires.r_lt_q, (c.requires.e_lt_q, c.requires.link))) c.insert_after.ensures in record { writes = k.0; still_sized = k.1 }
