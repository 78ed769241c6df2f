-- `order::leave_group` meets its contract: the ends that are not written stay. Assumes nothing.
use borrow.Author.Rules.{rules}
use Rattle.order.proofs.Writes.{last_left, light_left, heavy_left, ends_left}
use Rattle.order.proofs.leave_group.Goals as goal

pub returns-then-b-r : goal.returns-then-b-r
returns-then-b-r c = search (last_left, rules)

pub returns-else-b-r : goal.returns-else-b-r
returns-else-b-r c = search (light_left, rules)

pub returns-then-b-r-2 : goal.returns-then-b-r-2
returns-then-b-r-2 c = search (heavy_left, rules)

pub returns-else-b-r-2 : goal.returns-else-b-r-2
returns-else-b-r-2 c = search (ends_left, rules)
