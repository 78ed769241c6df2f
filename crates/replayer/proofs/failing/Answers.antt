-- The tests stand in the order of the definition. Assumes nothing.
use borrow.Author.Rules.{rules}
use borrow.Author.Tests.{tests}
use Rattle.recording.specs.Block.{failing}
use Rattle.replayer.proofs.failing.Goals as goal

pub returns-then-check-number : goal.returns-then-check-number
unfolding failing
returns-then-check-number c = search (rules, tests)

pub returns-then-from-number : goal.returns-then-from-number
unfolding failing
returns-then-from-number c = search (rules, tests)

pub returns-then-not-used_right : goal.returns-then-not-used_right
unfolding failing
returns-then-not-used_right c = search (rules, tests)

pub returns-then-not-all_known : goal.returns-then-not-all_known
unfolding failing
returns-then-not-all_known c = search (rules, tests)

pub all_known-requires : goal.all_known-requires
all_known-requires c = search (rules, tests)

pub returns : goal.returns
unfolding failing
returns c = search (rules, tests)
