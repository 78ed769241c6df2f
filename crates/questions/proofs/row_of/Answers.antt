-- The lookup finds the row of the client of that id, or nobody.
use borrow.Author.Rules.{rules}
use Rattle.rules.proofs.Ready.{ready_sized}
use Rattle.questions.proofs.Kept.{ready_kept, ready_some, ready_found, found_client, found_nobody}
use Rattle.questions.proofs.row_of.Goals as goal

pub find-row-requires : goal.find-row-requires
find-row-requires c = search (ready_sized, ready_kept, ready_some, rules)

pub returns-then-row : goal.returns-then-row
returns-then-row c = search (ready_found, found_nobody, rules)

pub returns-else-row : goal.returns-else-row
returns-else-row c = let y = c.requires in found_client y (ready_found y c.find-row.ensures) c.if-row.false
