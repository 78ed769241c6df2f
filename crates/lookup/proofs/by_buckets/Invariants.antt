-- The chains so far are right and leave that room (`Checks`).
use Rattle.lookup.proofs.Rooms.{Checks}
use Rattle.lookup.proofs.by_buckets.Given as goal

abbrev pub invariant-loop-b : goal.invariant-loop-b
invariant-loop-b l = Checks l.q l.t l.n l.b l.room
