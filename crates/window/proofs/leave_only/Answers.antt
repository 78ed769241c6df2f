-- `window::leave_only` meets its contract: an only item has no neighbour, so the client's words become 0. Assumes nothing.
use lib.Dec.{lit<}
use Rattle.table.proofs.Write.{then}
use Rattle.window.proofs.Shown.{client_row_lem, window_asks}
use Rattle.window.proofs.Writes.{only_writes}
use Rattle.window.proofs.leave_only.Goals as goal

pub set_client-requires : goal.set_client-requires
set_client-requires c = record { sized = c.requires.sized; r_lt_q = (client_row_lem c.requires.item_of, lit< tt) }

pub set_client-requires-2 : goal.set_client-requires-2
set_client-requires-2 c = record { sized = c.set_client.ensures.still_sized; r_lt_q = (client_row_lem c.requires.item_of, lit< tt) }

pub leave_window-requires : goal.leave_window-requires
leave_window-requires c =
    let w = window_asks c.requires.item_of _ (only_writes c.requires.sized c.requires.item_of c.set_client.ensures.writes c.set_client-2.ensures.writes) in
    record { sized = c.set_client-2.ensures.still_sized; r_lt_q = w.0; link = w.1.0; bound = w.1.1 }

pub returns : goal.returns
returns c =
    record {
      writes = then (only_writes c.requires.sized c.requires.item_of c.set_client.ensures.writes c.set_client-2.ensures.writes) c.leave_window.ensures.writes;
      still_sized = c.leave_window.ensures.still_sized;
    }
