-- The whole table by one computed test.
use mathlib.Core.Path.{refl}
use Rattle.spread.proofs.Rule.{is_spread}
use Rattle.spread.proofs.table.Goals as goal

pub invariant_of-result : goal.invariant_of-result
invariant_of-result c = record { by_rule = is_spread refl refl }
