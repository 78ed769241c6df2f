-- The two arms.
use borrow.Author.Tests.{eq-eqb, ne_eqb}
use Rattle.order.proofs.or_else.Goals as goal

pub returns-then-x-eq-NONE : goal.returns-then-x-eq-NONE
returns-then-x-eq-NONE c = rw (eq-eqb _ _ c.if-x-eq-NONE.true)

pub returns-else-x-eq-NONE : goal.returns-else-x-eq-NONE
returns-else-x-eq-NONE c = rw (ne_eqb _ _ c.if-x-eq-NONE.false)
