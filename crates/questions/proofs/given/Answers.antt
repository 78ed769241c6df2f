-- A ready table has as many clients as its header says.
use borrow.Author.Rules.{rules}
use Rattle.rules.proofs.Ready.{ready_sized}
use Rattle.questions.proofs.Listings.{given_none, given_all}
use Rattle.questions.proofs.given.Goals as goal

pub header-clients-requires-clause-sized : goal.header-clients-requires-clause-sized
header-clients-requires-clause-sized c = search (ready_sized, rules)

pub returns-then-words-n : goal.returns-then-words-n
returns-then-words-n c = search (given_none, rules)

pub returns-else-words-n : goal.returns-else-words-n
returns-else-words-n c = search (given_all, rules)
