-- A pair a turn. Assumes nothing.
use lib.ListN.{length}
use Rattle.printer.proofs.Clients.{Listing}
use Rattle.printer.proofs.lines.Given as goal

abbrev pub invariant-loop-rest : goal.invariant-loop-rest
invariant-loop-rest l = Listing l.pairs l.initial.out l.at l.out l.end l.rest

abbrev pub decreases-loop-rest : goal.decreases-loop-rest
decreases-loop-rest l = length l.rest
