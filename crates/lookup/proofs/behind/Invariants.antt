-- The row is still to come (`Comes`); the rows that are left grow fewer.
use lib.ListN.{length}
use Rattle.lookup.specs.Inside.Reading.{from}
use Rattle.lookup.proofs.Walks.{Comes}
use Rattle.lookup.proofs.behind.Given as goal

abbrev pub invariant-loop-at : goal.invariant-loop-at
invariant-loop-at l = Comes l.q l.t l.first l.r l.at l.last

abbrev pub decreases-loop-at : goal.decreases-loop-at
decreases-loop-at l = length (from l.q l.t l.at)
