-- At none a bucket's word, else a row's: either way the hook.
use borrow.Author.Rules.{rules}
use Rattle.lookup.proofs.Writers.{link_row, end_writes, row_writes}
use Rattle.lookup.proofs.set_hook.Goals as goal

pub set_client-requires : goal.set_client-requires
set_client-requires c = search (link_row, rules)

pub returns-then-e-eq-NONE : goal.returns-then-e-eq-NONE
returns-then-e-eq-NONE c = search (end_writes, rules)

pub returns-else-e-eq-NONE : goal.returns-else-e-eq-NONE
returns-else-e-eq-NONE c = search (row_writes, rules)
