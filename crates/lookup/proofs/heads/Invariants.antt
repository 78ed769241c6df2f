-- So many of the buckets so far hold a row (`Counts`).
use Rattle.table.specs.Regions.{bucket_word}
use Rattle.lookup.proofs.Quick.{Counts}
use Rattle.lookup.proofs.heads.Given as goal

abbrev pub invariant-loop-k : goal.invariant-loop-k
invariant-loop-k l = Counts (bucket_word l.t l.q) l.k l.n
