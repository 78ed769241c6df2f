-- The rule, opened here alone. Assumes nothing.
use mathlib.Core.Path.{refl}
use Rattle.rules.specs.History.{turned_away}
use Rattle.steps.proofs.turned_away.Goals as goal

pub returns : goal.returns
unfolding turned_away
returns c = refl
