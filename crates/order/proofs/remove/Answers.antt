-- `order::remove` meets its contract: the group is left, and then the list, whose links can be followed. Assumes nothing.
use native.Mathlib.Omega.{arith}
use lib.Dec.{lit<}
use Rattle.order.proofs.Counts.{client_row_lem, count_in, strung}
use Rattle.order.proofs.Moving.{unlink_asks}
use Rattle.order.proofs.Writes.{remove_writes}
use Rattle.order.proofs.remove.Goals as goal

pub client-n-requires : goal.client-n-requires
client-n-requires c = record { sized = c.requires.sized; r_lt_q = (client_row_lem c.requires.sized.small c.requires.drawn, lit< tt) }

pub overflow_sub-n : goal.overflow_sub-n
overflow_sub-n c = (count_in c.requires.sized.small c.requires.drawn c.client-n.ensures).0

pub leave_group-requires : goal.leave_group-requires
leave_group-requires c = record { sized = c.requires.sized; r_lt_q = (client_row_lem c.requires.sized.small c.requires.drawn, omega (arith, count_in c.requires.sized.small c.requires.drawn c.client-n.ensures)) }

pub unlink_client-requires : goal.unlink_client-requires
unlink_client-requires c =
    let k = unlink_asks c.requires.sized.small (strung c.requires.sized.small c.requires.drawn _ c.leave_group.ensures.writes _ c.requires.drawn.holds.there) in
    record { sized = c.leave_group.ensures.still_sized; r_lt_q = k.0; link = k.1.0; later_link = k.1.1 }

pub returns : goal.returns
returns c = record { writes = remove_writes (client_row_lem c.requires.sized.small c.requires.drawn) c.client-n.ensures c.leave_group.ensures.writes c.unlink_client.ensures.writes; still_sized = c.unlink_client.ensures.still_sized }
