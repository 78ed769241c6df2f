-- `order::move_after` meets its contract: out of the list and in again, or left where it stands. Assumes nothing.
use Rattle.order.proofs.Moving.{unlink_asks, insert_asks, stays_after, goes_after}
use Rattle.order.proofs.move_after.Goals as goal

pub unlink_client-requires : goal.unlink_client-requires
unlink_client-requires c =
    let k = unlink_asks c.requires.sized.small c.requires.drawn in
    record { sized = c.requires.sized; r_lt_q = k.0; link = k.1.0; later_link = k.1.1 }

pub insert_client_after-requires : goal.insert_client_after-requires
insert_client_after-requires c = let (hr, (he, links)) = insert_asks c.requires.sized.small c.requires.drawn c.if-e-r.true c.unlink_client.ensures.writes in
    record { sized = c.unlink_client.ensures.still_sized; r_lt_q = hr; e_lt_q = he; link = links.1 }

pub returns-then-e-r : goal.returns-then-e-r
returns-then-e-r c = record { writes = goes_after c.requires.sized.small c.requires.drawn c.if-e-r.true c.unlink_client.ensures.writes c.insert_client_after.ensures.writes; still_sized = c.insert_client_after.ensures.still_sized }

pub returns-else-e-r : goal.returns-else-e-r
returns-else-e-r c = record { writes = stays_after c.requires.sized.small c.requires.drawn c.if-e-r.false; still_sized = c.requires.sized }
