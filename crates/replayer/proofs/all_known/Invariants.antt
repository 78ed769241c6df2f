-- `all` says whether a run would carry out the commands before the k-th. Assumes nothing.
use Rattle.replayer.proofs.Tests.{KnownTo}
use Rattle.replayer.proofs.all_known.Given as goal

abbrev pub invariant-loop-k : goal.invariant-loop-k
invariant-loop-k l = KnownTo l.b l.k-end l.k l.all
