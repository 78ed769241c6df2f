-- What a replay reports, it counts.
use Rattle.replay.proofs.Counting.{answer_counted}
use Rattle.replay.proofs.replayed.Goals as goal

pub returns-in-Ok : goal.returns-in-Ok
returns-in-Ok c = answer_counted c.args.t.now c.args.first c.args.bytes.now c.in-Ok.ensures.reply
