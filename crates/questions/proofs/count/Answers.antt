-- The count of the row that the lookup finds.
use borrow.Author.Rules.{rules}
use Rattle.rules.proofs.Ready.{ready_sized}
use Rattle.questions.proofs.Kept.{ready_kept, ready_some, ready_found, found_low}
use Rattle.questions.proofs.count.Goals as goal

pub find-requires : goal.find-requires
find-requires c = search (ready_sized, ready_kept, ready_some, rules)

pub count_in-requires : goal.count_in-requires
count_in-requires c = let y = c.requires.ready in record { ready = y; link = found_low y (ready_found y c.find.ensures) }

pub returns : goal.returns
returns c = c.count_in.ensures _ (ready_found c.requires.ready c.find.ensures)
