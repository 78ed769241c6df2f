-- The steps so far go by clients of other ids (`Coming`).
use native.Mathlib.Omega.{arith}
use borrow.Author.Tests.{eqb-true}
use Rattle.lookup.proofs.Quick.{coming_here}
use Rattle.lookup.proofs.comes_to.Goals as goal

pub returns-then-at-r : goal.returns-then-at-r
returns-then-at-r c = λ e. coming_here c.loop.invariant (omega arith) c.if-at-r.true

pub returns : goal.returns
returns c = λ e. coming_here c.loop.invariant (omega arith) (eqb-true c.loop.at c.args.r e)
