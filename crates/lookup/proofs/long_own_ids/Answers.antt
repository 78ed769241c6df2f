-- The ids so far stand side by side, each its own (`Copies`); the rows that are left grow fewer.
use Prim.Native.Nat.{ℕ}
use borrow.Author.Rules.{rules}
use lib.ListN.{take, length-replicate}
use Rattle.lookup.proofs.Walks.{row_low, row_less}
use Rattle.lookup.proofs.Ids.{tells_in, copies_first, copies_low, copies_twin, copies_next, copies_none}
use Rattle.lookup.proofs.long_own_ids.Goals as goal

pub loop-at-init : goal.loop-at-init
loop-at-init c = copies_first c.requires.sized c.requires.ends (length-replicate {A = ℕ} 1000 0)

pub client-x-requires : goal.client-x-requires
client-x-requires c = search (row_low, rules)

pub returns-then-contains : goal.returns-then-contains
returns-then-contains c = let f = tells_in c.client-x.result (take c.loop-at.n c.loop-at.ids) c.contains.ensures.value in search (copies_twin, rules)

pub offset_bounds-ids-n : goal.offset_bounds-ids-n
offset_bounds-ids-n c = search (copies_low, rules)

pub bounds-ids-n : goal.bounds-ids-n
bounds-ids-n c = search (copies_low, rules)

pub overflow_add-n : goal.overflow_add-n
overflow_add-n c = search (copies_low, rules)

pub client-at-requires : goal.client-at-requires
client-at-requires c = search (row_low, rules)

pub loop-at-smaller : goal.loop-at-smaller
loop-at-smaller c = search (row_less, rules)

pub loop-at-preserved : goal.loop-at-preserved
loop-at-preserved c = let f = tells_in c.client-x.result (take c.loop-at.n c.loop-at.ids) c.contains.ensures.value in search (copies_next, rules)

pub returns : goal.returns
returns c = search (copies_none, rules)
