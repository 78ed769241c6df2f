-- The chains so far are right and leave that room (`Checks`).
use borrow.Author.Rules.{rules}
use Rattle.lookup.proofs.Rooms.{checks_end, checks_wrong, checks_ids, checks_next}
use Rattle.lookup.proofs.by_buckets.Goals as goal

pub returns-in_default : goal.returns-in_default
returns-in_default c = let w = c.in_default.ensures in search (checks_wrong, rules)

pub returns-then-not-own_ids : goal.returns-then-not-own_ids
returns-then-not-own_ids c = search (checks_ids, rules)

pub loop-b-preserved : goal.loop-b-preserved
loop-b-preserved c = search (checks_next, rules)

pub returns : goal.returns
returns c = search (checks_end, rules)
