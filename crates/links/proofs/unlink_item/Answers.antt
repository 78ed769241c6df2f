-- The one code, by the window's lens. Assumes nothing.
use lib.Dec.{lit<}
use Rattle.links.proofs.Strands.{window_lens, unlink_asks, unlink_does}
use Rattle.links.proofs.unlink_item.Goals as goal

pub unlink-requires : goal.unlink-requires
unlink-requires c = let k = unlink_asks (window_lens _ c.requires.sized.small) (lit< tt) c.window.ensures _ (c.requires.sized, (c.requires.r_lt_q, (c.requires.link, c.requires.later_link))) in record { ends = k.0; row = k.1.0; reach = k.1.1.0; later_reach = k.1.1.1 }

pub returns : goal.returns
returns c = let k = unlink_does (window_lens _ c.requires.sized.small) (lit< tt) c.window.ensures _ (c.requires.sized, (c.requires.r_lt_q, (c.requires.link, c.requires.later_link))) c.unlink.ensures in record { writes = k.0; still_sized = k.1 }
