-- `window::leave_window` meets its contract: out of the window, the row freed, one fewer of those that wait. Assumes nothing.
use Rattle.window.proofs.Writes.{leave_writes}
use Rattle.window.proofs.leave_window.Goals as goal

pub returns : goal.returns
returns c =
    record {
      writes = leave_writes _ _ _ c.header-n.ensures c.unlink_item.ensures.writes c.free_item.ensures.writes c.set_header.ensures.writes;
      still_sized = c.set_header.ensures.still_sized;
    }
