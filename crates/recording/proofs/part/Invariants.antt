-- The sums so far are those of the first i bytes of the part. Assumes nothing.
use Rattle.recording.proofs.Sum.{Summed}
use Rattle.recording.proofs.part.Given as goal

abbrev pub invariant-loop-i : goal.invariant-loop-i
invariant-loop-i l = Summed l.s l.from l.i l.low l.high l.all
