-- The ids of the rest are its own exactly where those of the whole are (`Owns`); the rows that are left grow fewer.
use lib.ListN.{length}
use Rattle.lookup.specs.Inside.Reading.{from}
use Rattle.lookup.proofs.Ids.{Owns}
use Rattle.lookup.proofs.short_own_ids.Given as goal

abbrev pub invariant-loop-at : goal.invariant-loop-at
invariant-loop-at l = Owns l.q l.t l.first l.at

abbrev pub decreases-loop-at : goal.decreases-loop-at
decreases-loop-at l = length (from l.q l.t l.at)
