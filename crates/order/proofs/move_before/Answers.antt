-- `order::move_before` meets its contract: out of the list and in again, or left where it stands. Assumes nothing.
use Rattle.order.proofs.Moving.{unlink_asks, insert_asks, stays_before, goes_before}
use Rattle.order.proofs.move_before.Goals as goal

pub unlink_client-requires : goal.unlink_client-requires
unlink_client-requires c =
    let k = unlink_asks c.requires.sized.small c.requires.drawn in
    record { sized = c.requires.sized; r_lt_q = k.0; link = k.1.0; later_link = k.1.1 }

pub insert_client_before-requires : goal.insert_client_before-requires
insert_client_before-requires c = let (hr, (he, links)) = insert_asks c.requires.sized.small c.requires.drawn c.if-l-r.true c.unlink_client.ensures.writes in
    record { sized = c.unlink_client.ensures.still_sized; r_lt_q = hr; l_lt_q = he; link = links.0 }

pub returns-then-l-r : goal.returns-then-l-r
returns-then-l-r c = record { writes = goes_before c.requires.sized.small c.requires.drawn c.if-l-r.true c.unlink_client.ensures.writes c.requires.not_lighter c.insert_client_before.ensures.writes; still_sized = c.insert_client_before.ensures.still_sized }

pub returns-else-l-r : goal.returns-else-l-r
returns-else-l-r c = record { writes = stays_before c.requires.sized.small c.requires.drawn c.if-l-r.false; still_sized = c.requires.sized }
