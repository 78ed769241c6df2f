-- Before turn k the words of the count rows below k are counted.
use mathlib.Core.Path.{◌≡◌}
use Rattle.table.specs.Regions.{regions}
use Rattle.table.specs.Owners.{order_words}
use Rattle.order_check.specs.Check.{rows_held}
use Rattle.order_check.proofs.rows_held.Given as goal

abbrev pub invariant-loop-k : goal.invariant-loop-k
invariant-loop-k l = l.n ≡ rows_held (order_words (regions l.q l.t)) l.k
