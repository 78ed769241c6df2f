-- `window::join` meets its contract: there is a free row, the links of both ends can be followed, and the count fits. Assumes nothing.
use native.Mathlib.Omega.{arith}
use Rattle.window.proofs.Writes.{join_writes}
use Rattle.window.proofs.Shown.{free_row_lem, requests_before, newest_link, back_link}
use Rattle.window.proofs.join.Goals as goal

pub take_item-r-requires : goal.take_item-r-requires
take_item-r-requires c = record { sized = c.requires.sized; free_item_at_bound = free_row_lem c.requires.room }

pub enter_item-requires : goal.enter_item-requires
enter_item-requires c =
    let m = c.requires.room in
    record {
      sized = c.take_item-r.ensures.still_sized;
      r_lt_q = (omega (arith, c.take_item-r.ensures.value, free_row_lem m), c.requires.c_lt_q);
      link = newest_link m c.requires.c_lt_q;
      back_link = back_link m _ c.take_item-r.ensures.writes;
    }

pub overflow_add-n : goal.overflow_add-n
overflow_add-n c =
    record { fits = omega (arith, c.header-n.ensures, requests_before c.requires.room, c.requires.sized.small) }

pub returns : goal.returns
returns c =
    record {
      writes = join_writes _ _ _ _ _ _ c.header-n.ensures c.take_item-r.ensures.value c.take_item-r.ensures.writes c.enter_item.ensures.writes c.set_header.ensures.writes;
      still_sized = c.set_header.ensures.still_sized;
    }
