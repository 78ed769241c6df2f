-- One word read, two written. Assumes nothing.
use borrow.Author.Rules.{rules}
use Rattle.order.proofs.Writes.{enter_writes}
use Rattle.order.proofs.enter_group.Goals as goal

pub returns : goal.returns
returns c = record { writes = search (enter_writes, rules); still_sized = search rules }
