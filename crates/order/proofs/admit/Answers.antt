-- `order::admit` meets its contract: a free row is there, so the steps can be made; the lookup keeps the row by its own promise. Assumes nothing.
use mathlib.Core.Path.{refl}
use Rattle.order.proofs.Together.{new_row, new_id, lightest_link, room_after, admits}
use Rattle.order.proofs.admit.Goals as goal

pub take_row-r-requires : goal.take_row-r-requires
take_row-r-requires c = record { sized = c.requires.sized; free_client_at_bound = new_row c.requires.drawn refl }

pub enter-requires : goal.enter-requires
enter-requires c = record { sized = c.take_row-r.ensures.still_sized; r_lt_q = new_row c.requires.drawn c.take_row-r.ensures.value; home = rw (new_id c.requires.drawn _ c.take_row-r.ensures.value c.take_row-r.ensures.writes) c.requires.home }

pub put_first-requires : goal.put_first-requires
put_first-requires c = record { sized = c.enter.ensures.still_sized; r_lt_q = new_row c.requires.drawn c.take_row-r.ensures.value; link = lightest_link c.requires.drawn _ c.take_row-r.ensures.value c.take_row-r.ensures.writes c.enter.ensures.enters }

pub one_more-requires : goal.one_more-requires
one_more-requires c = record { sized = c.put_first.ensures.still_sized; clients_at_bound = room_after c.requires.drawn _ c.take_row-r.ensures.value c.take_row-r.ensures.writes c.enter.ensures.enters c.put_first.ensures.writes }

pub returns : goal.returns
returns c = record { value = c.take_row-r.ensures.value; admits = admits c.requires.drawn _ c.take_row-r.ensures.value c.take_row-r.ensures.writes c.enter.ensures.enters c.put_first.ensures.writes c.one_more.ensures.writes; still_sized = c.one_more.ensures.still_sized }
