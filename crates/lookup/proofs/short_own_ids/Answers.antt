-- The ids of the rest are its own exactly where those of the whole are (`Owns`); the rows that are left grow fewer.
use borrow.Author.Rules.{rules}
use Rattle.lookup.proofs.Walks.{row_low, row_less, row_ends}
use Rattle.lookup.proofs.Ids.{owns_first, owns_none, owns_next, owns_not}
use Rattle.lookup.proofs.short_own_ids.Goals as goal

pub loop-at-init : goal.loop-at-init
loop-at-init c = search (owns_first, rules)

pub client-id-requires : goal.client-id-requires
client-id-requires c = search (row_low, rules)

pub client-at-requires : goal.client-at-requires
client-at-requires c = search (row_low, rules)

pub seek-requires : goal.seek-requires
seek-requires c = search (row_ends, rules)

pub returns-then-seek : goal.returns-then-seek
returns-then-seek c = search (owns_not, rules)

pub loop-at-smaller : goal.loop-at-smaller
loop-at-smaller c = search (row_less, rules)

pub loop-at-preserved : goal.loop-at-preserved
loop-at-preserved c = search (owns_next, rules)

pub returns : goal.returns
returns c = search (owns_none, rules)
