-- The sums fit, since few commands are counted.
use Rattle.std.proofs.Common.{refl}
use Rattle.replay.proofs.Counting.{counted_fit, both_counted}
use Rattle.replay.proofs.both.Goals as goal

pub both-requires : goal.both-requires
both-requires c = counted_fit c.requires.counted.0 c.requires.counted.1 c.requires.blocks_bound

pub returns : goal.returns
returns c = (both_counted c.requires.counted.0 c.requires.counted.1 c.both.ensures, refl)
