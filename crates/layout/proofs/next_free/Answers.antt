-- By the test. Assumes nothing.
use borrow.Author.Tests.{lt-ltb, le-ltb}
use Rattle.layout.proofs.next_free.Goals as goal

pub returns-then-r-q : goal.returns-then-r-q
returns-then-r-q c = rw (lt-ltb _ _ c.if-r-q.true)

pub returns-else-r-q : goal.returns-else-r-q
returns-else-r-q c = rw (le-ltb _ _ c.if-r-q.false)
