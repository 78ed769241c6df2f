-- A command a turn.
use Rattle.record.proofs.Filling.{Filling}
use Rattle.record.proofs.fill.Given as goal

abbrev pub invariant-loop-k : goal.invariant-loop-k
invariant-loop-k l = Filling l.number l.s l.block l.k
