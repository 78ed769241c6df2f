-- The number of commands used, and then the unused bytes. Assumes nothing.
use native.Mathlib.Omega.{arith}
use Rattle.std.proofs.lemmas.Bool.Decides.{nat_tests}
use Rattle.replayer.proofs.used_right.Goals as goal

pub returns-else-contains : goal.returns-else-contains
returns-else-contains c = let k = c.if-contains.ensures in grind (arith, nat_tests)

pub returns-then-contains : goal.returns-then-contains
returns-then-contains c = let k = c.if-contains.ensures in grind (arith, nat_tests)
