-- After r turns the first r rows of each kind are chained. Assumes nothing.
use mathlib.Core.Path.{◌≡◌}
use Rattle.table.specs.Regions.{Sized, words}
use Rattle.layout.specs.Laid.{chained}
use Rattle.layout.proofs.chain.Given as goal

abbrev pub invariant-loop-r : goal.invariant-loop-r
invariant-loop-r l = Sized l.q l.t × (l.t ≡ words l.q (chained l.q l.r))
