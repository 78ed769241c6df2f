-- `all` says whether a run would carry out the commands before the k-th. Assumes nothing.
use borrow.Author.Rules.{rules}
use Rattle.replayer.proofs.Tests.{none_tested, one_tested, all_tested}
use Rattle.replayer.proofs.all_known.Goals as goal

pub loop-k-init : goal.loop-k-init
loop-k-init c = none_tested (search rules) (search rules) c.used_in-k-end.ensures

pub loop-k-preserved : goal.loop-k-preserved
loop-k-preserved c =
    one_tested c.loop-k.invariant (search rules) c.is_command_at-all.ensures

pub returns : goal.returns
returns c = all_tested c.loop-k.invariant (search rules)
