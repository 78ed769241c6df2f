-- `window::leave_one` meets its contract: an item that is not its client's only one has a neighbour, so the client's words stay rows. Assumes nothing.
use Rattle.table.proofs.Write.{then}
use Rattle.window.proofs.Shown.{item_row_lem, client_row_lem, own_links, window_asks}
use Rattle.window.proofs.Writes.{one_writes}
use Rattle.window.proofs.leave_one.Goals as goal

pub unlink_own-requires : goal.unlink_own-requires
unlink_own-requires c =
    let m = c.requires.item_of in
    let o = own_links m in
    record { sized = c.requires.sized; c_lt_q = client_row_lem m; r_lt_q = item_row_lem m; link = o.0; later_link = o.1 }

pub leave_window-requires : goal.leave_window-requires
leave_window-requires c =
    let w = window_asks c.requires.item_of _ (one_writes c.requires.sized c.requires.item_of c.unlink_own.ensures.writes) in
    record { sized = c.unlink_own.ensures.still_sized; r_lt_q = w.0; link = w.1.0; bound = w.1.1 }

pub returns : goal.returns
returns c =
    record {
      writes = then (one_writes c.requires.sized c.requires.item_of c.unlink_own.ensures.writes) c.leave_window.ensures.writes;
      still_sized = c.leave_window.ensures.still_sized;
    }
