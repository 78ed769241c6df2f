-- The clients so far are come to, and their pointers are counted (`Walked`).
use Rattle.lookup.proofs.Quick.{Walked}
use Rattle.lookup.proofs.by_clients.Given as goal

abbrev pub invariant-loop-r : goal.invariant-loop-r
invariant-loop-r l = Walked l.q l.t l.r l.links
