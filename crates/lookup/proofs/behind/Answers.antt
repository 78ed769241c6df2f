-- The row is still to come (`Comes`); the rows that are left grow fewer.
use borrow.Author.Rules.{rules}
use Rattle.lookup.proofs.Walks.{row_low, row_less, comes_first, comes_next, comes_here}
use Rattle.lookup.proofs.behind.Goals as goal

pub loop-at-init : goal.loop-at-init
loop-at-init c = search (comes_first, rules)

pub client-at-requires : goal.client-at-requires
client-at-requires c = search (row_low, rules)

pub loop-at-smaller : goal.loop-at-smaller
loop-at-smaller c = search (row_less, rules)

pub loop-at-preserved : goal.loop-at-preserved
loop-at-preserved c = search (comes_next, rules)

pub returns : goal.returns
returns c = search (comes_here, rules)
