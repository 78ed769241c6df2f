-- The links lead from the heaviest end through the clients, and their words are the plain history's pairs.
use borrow.Author.Rules.{rules}
use Rattle.rules.proofs.Ready.{ready_sized}
use Rattle.questions.proofs.Ends.{heaviest_first}
use Rattle.questions.proofs.Listings.{listing_low, listing_done}
use Rattle.questions.proofs.heaviest.Goals as goal

pub header-first-requires-clause-sized : goal.header-first-requires-clause-sized
header-first-requires-clause-sized c = search (ready_sized, rules)

pub list-requires-clause-sized : goal.list-requires-clause-sized
list-requires-clause-sized c = search (ready_sized, rules)

pub list-requires-clause-below : goal.list-requires-clause-below
list-requires-clause-below c = listing_low _ c.args.out.now c.requires c.in_ok-n.ensures heaviest_first c.header-first.ensures

pub returns-clause-words : goal.returns-clause-words
returns-clause-words c = listing_done _ _ c.requires c.in_ok-n.ensures heaviest_first c.header-first.ensures c.list.ensures
