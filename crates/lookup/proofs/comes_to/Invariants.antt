-- The steps so far go by clients of other ids (`Coming`).
use Rattle.lookup.proofs.Quick.{Coming}
use Rattle.lookup.proofs.comes_to.Given as goal

abbrev pub invariant-loop : goal.invariant-loop
invariant-loop l = Coming l.q l.t l.first l.x l.at l.counter
