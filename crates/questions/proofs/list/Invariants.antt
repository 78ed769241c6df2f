-- The loop keeps `Walked`: the pairs that are still to store make the same output as all of them did at the start.
use Rattle.questions.proofs.Walk.{Walked}
use Rattle.questions.proofs.list.Given as goal

abbrev pub invariant-loop-i : goal.invariant-loop-i
invariant-loop-i l = Walked l.q l.t l.link l.n l.first l.initial.out l.out l.row l.i
