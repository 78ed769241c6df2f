-- The one code, by the window's lens. Assumes nothing.
use lib.Dec.{lit<}
use Rattle.links.proofs.Strands.{window_lens, push_asks, push_does}
use Rattle.links.proofs.push_item.Goals as goal

pub push-requires : goal.push-requires
push-requires c = let k = push_asks (window_lens _ c.requires.sized.small) (lit< tt) c.window.ensures _ (c.requires.sized, (c.requires.r_lt_q, c.requires.link)) in record { ends = k.0; row = k.1.0; reach = k.1.1 }

pub returns : goal.returns
returns c = let k = push_does (window_lens _ c.requires.sized.small) (lit< tt) c.window.ensures _ (c.requires.sized, (c.requires.r_lt_q, c.requires.link)) c.push.ensures in record { writes = k.0; still_sized = k.1 }
