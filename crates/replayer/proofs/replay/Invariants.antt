-- The invariant is `Replaying`; each way out is one of its laws, and each turn another. Assumes nothing.
use mathlib.Core.Path.{◌≡◌}
use Prim.Native.Nat.{◌≤◌}
use lib.ListN.{length}
use Rattle.run.specs.Seen.{largest}
use Rattle.replayer.proofs.Replaying.{Replaying}
use Rattle.replayer.proofs.replay.Given as goal

abbrev pub invariant-loop-rest : goal.invariant-loop-rest
invariant-loop-rest l = Replaying l.q l.initial.t l.bytes l.first l.t l.rest l.number l.report × (length l.t ≡ length l.initial.t) × (length l.bytes ≤ largest)

abbrev pub decreases-loop-rest : goal.decreases-loop-rest
decreases-loop-rest l = length l.rest
