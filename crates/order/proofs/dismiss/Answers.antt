-- `order::dismiss` meets its contract: the client is listed, so it can be followed out of its group and the list; the lookup lets it go by its own promise. Assumes nothing.
use Rattle.order.proofs.Counts.{client_row_lem}
use Rattle.order.proofs.Together.{still_listed, somebody, dismisses}
use Rattle.order.proofs.dismiss.Goals as goal

pub leave-requires : goal.leave-requires
leave-requires c = record { sized = c.requires.sized; r_lt_q = client_row_lem c.requires.sized.small c.requires.drawn; a_client = c.requires.a_client }

pub remove-requires : goal.remove-requires
remove-requires c = record { sized = c.leave.ensures.still_sized; drawn = still_listed c.requires.drawn c.leave.ensures.leaves }

pub free_row-requires : goal.free_row-requires
free_row-requires c = record { sized = c.remove.ensures.still_sized; r_lt_q = client_row_lem c.requires.sized.small c.requires.drawn }

pub one_less-requires : goal.one_less-requires
one_less-requires c = record { sized = c.free_row.ensures.still_sized; bound = somebody c.requires.drawn c.leave.ensures.leaves c.remove.ensures.writes c.free_row.ensures.writes }

pub returns : goal.returns
returns c = record { dismisses = dismisses c.requires.drawn c.leave.ensures.leaves c.remove.ensures.writes c.free_row.ensures.writes c.one_less.ensures.writes; still_sized = c.one_less.ensures.still_sized }
