-- Both tests, as the kind has them. Assumes nothing.
use borrow.Author.Tests.{le-leb, lt-leb}
use Rattle.table.proofs.LinkedTable.in_range.Goals as goal

pub returns-then-q-ge1 : goal.returns-then-q-ge1
returns-then-q-ge1 c = rw (le-leb 1 _ c.if-q-ge1.true)

pub returns-else-q-ge1 : goal.returns-else-q-ge1
returns-else-q-ge1 c = rw (lt-leb 1 _ c.if-q-ge1.false)
