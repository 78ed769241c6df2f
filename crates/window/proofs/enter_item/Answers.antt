-- `window::enter_item` meets its contract: to the back of both lists, then the row's two words. Assumes nothing.
use mathlib.Core.Path.{refl}
use Rattle.window.proofs.Writes.{enter_writes}
use Rattle.window.proofs.enter_item.Goals as goal

pub insert_own-requires : goal.insert_own-requires
insert_own-requires c =
    record {
      sized = c.push_item.ensures.still_sized;
      c_lt_q = c.requires.r_lt_q.1;
      r_lt_q = c.requires.r_lt_q.0;
      link = c.requires.link;
      later_link = λ n. absurd (n refl);
    }

pub returns : goal.returns
returns c =
    record {
      writes = enter_writes _ _ _ _ _ c.push_item.ensures.writes c.insert_own.ensures.writes c.set_item.ensures.writes c.set_ticket.ensures.writes;
      still_sized = c.set_ticket.ensures.still_sized;
    }
