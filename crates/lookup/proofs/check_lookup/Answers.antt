-- Where the quick test says yes it is enough; else the exact one answers.
use borrow.Author.Rules.{rules}
use Rattle.lookup.proofs.Quick.{quick}
use Rattle.lookup.proofs.check_lookup.Goals as goal

pub returns-then-by_clients : goal.returns-then-by_clients
returns-then-by_clients c = quick c.requires.sized c.by_clients.ensures c.if-by_clients.true

pub returns-else-by_clients : goal.returns-else-by_clients
returns-else-by_clients c = search rules
