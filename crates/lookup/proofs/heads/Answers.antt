-- So many of the buckets so far hold a row (`Counts`).
use native.Mathlib.Omega.{arith}
use Rattle.lookup.proofs.Quick.{counts_few, counts_next}
use Rattle.lookup.proofs.heads.Goals as goal

pub overflow_add-n : goal.overflow_add-n
overflow_add-n c = omega (arith, counts_few (counts_next c.loop-k.invariant c.bucket.ensures c.from-n.ensures))
