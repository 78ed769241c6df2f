-- The clients are put behind the line.
use Rattle.replay.proofs.Showing.{shown_put}
use Rattle.replay.proofs.show.Goals as goal

pub returns-clause-bytes : goal.returns-clause-bytes
returns-clause-bytes c = (shown_put c.args.r c.args.t.now c.line-at.ensures.0 c.waiting.ensures).0
