-- Its neighbours are what its links show. Assumes nothing.
use Rattle.links.proofs.Places.unlink.Goals as goal

pub turn-requires : goal.turn-requires
turn-requires c = rw (c.link_of-e.ensures, c.link_of-l.ensures) (record { ends = c.requires.ends; reach = c.requires.reach; later_reach = c.requires.later_reach })

pub returns : goal.returns
returns c = cc
