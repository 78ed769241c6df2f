-- What is found from a row on is found on the whole chain (`Seeking`); the rows that are left grow fewer.
use lib.ListN.{length}
use Rattle.lookup.specs.Inside.Reading.{from}
use Rattle.lookup.proofs.Walks.{Seeking}
use Rattle.lookup.proofs.seek.Given as goal

abbrev pub invariant-loop-at : goal.invariant-loop-at
invariant-loop-at l = Seeking l.q l.t l.first l.id l.at

abbrev pub decreases-loop-at : goal.decreases-loop-at
decreases-loop-at l = length (from l.q l.t l.at)
