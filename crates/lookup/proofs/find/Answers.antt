-- The chain of the id's bucket ends, and holds the client of that id if there is one.
use borrow.Author.Rules.{rules}
use Rattle.lookup.proofs.Walks.{first_ends, first_found}
use Rattle.lookup.proofs.find.Goals as goal

pub seek-row-requires : goal.seek-row-requires
seek-row-requires c = search (first_ends, rules)

pub returns : goal.returns
returns c = search (first_found, rules)
