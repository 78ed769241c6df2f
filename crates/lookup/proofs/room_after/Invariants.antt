-- What is left after the rest of the chain is left after the whole (`Rooms`); the room grows less.
use Rattle.lookup.proofs.Rooms.{Rooms}
use Rattle.lookup.proofs.room_after.Given as goal

abbrev pub invariant-loop-at : goal.invariant-loop-at
invariant-loop-at l = Rooms l.q l.t l.b l.first l.room l.at l.left

abbrev pub decreases-loop-at : goal.decreases-loop-at
decreases-loop-at l = l.left
