-- A refusal lists nobody.
use Rattle.std.proofs.Common.{arith}
use Rattle.replay.proofs.Showing.{none_put}
use Rattle.replay.proofs.waiting.Goals as goal

pub returns-in-Err : goal.returns-in-Err
returns-in-Err c = none_put c.args.t.now c.args.pairs.now c.requires.pairs_len c.in-Err.ensures.reply (omega (arith, c.requires.largest_in_bounds))
