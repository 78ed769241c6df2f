-- The invariant is `Going`; each stop is one of its laws, and each turn another. Assumes nothing.
use mathlib.Core.Path.{◌≡◌}
use Prim.Native.Nat.{◌≤◌}
use lib.ListN.{length}
use Rattle.run.specs.Seen.{largest}
use Rattle.run.proofs.Going.{Going}
use Rattle.run.proofs.run.Given as goal

abbrev pub invariant-loop-rest : goal.invariant-loop-rest
invariant-loop-rest l = Going l.q l.initial.t l.bytes l.budget l.t l.rest l.done l.seen × (length l.t ≡ length l.initial.t) × (length l.bytes ≤ largest)

abbrev pub decreases-loop-rest : goal.decreases-loop-rest
decreases-loop-rest l = length l.rest
