-- Before turn r the oldest items of the rows below r are noted.
use Rattle.table.specs.Regions.{regions}
use Rattle.items_check.specs.Check.{Expected}
use Rattle.items_check.proofs.expect_oldest.Given as goal

abbrev pub invariant-loop-r : goal.invariant-loop-r
invariant-loop-r l = Expected l.r (regions l.q l.t) l.next
