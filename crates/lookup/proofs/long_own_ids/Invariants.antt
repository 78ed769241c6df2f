-- The ids so far stand side by side, each its own (`Copies`); the rows that are left grow fewer.
use lib.ListN.{length}
use Rattle.lookup.specs.Inside.Reading.{from}
use Rattle.lookup.proofs.Ids.{Copies}
use Rattle.lookup.proofs.long_own_ids.Given as goal

abbrev pub invariant-loop-at : goal.invariant-loop-at
invariant-loop-at l = Copies l.q l.t l.first l.ids l.n l.at

abbrev pub decreases-loop-at : goal.decreases-loop-at
decreases-loop-at l = length (from l.q l.t l.at)
