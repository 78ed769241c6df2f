-- What is found from a row on is found on the whole chain (`Seeking`); the rows that are left grow fewer.
use borrow.Author.Rules.{rules}
use Rattle.lookup.proofs.Walks.{row_low, row_less, seeking_first, seeking_none, seeking_here, seeking_next}
use Rattle.lookup.proofs.seek.Goals as goal

pub loop-at-init : goal.loop-at-init
loop-at-init c = search (seeking_first, rules)

pub client-requires : goal.client-requires
client-requires c = search (row_low, rules)

pub returns-then-client-id : goal.returns-then-client-id
returns-then-client-id c = search (seeking_here, rules)

pub client-at-requires : goal.client-at-requires
client-at-requires c = search (row_low, rules)

pub loop-at-smaller : goal.loop-at-smaller
loop-at-smaller c = search (row_less, rules)

pub loop-at-preserved : goal.loop-at-preserved
loop-at-preserved c = search (seeking_next, rules)

pub returns : goal.returns
returns c = search (seeking_none, rules)
