-- `order::light_end` meets its contract: two words read. Assumes nothing.
use mathlib.Core.Path.{ap₂, ◌∙◌}
use Rattle.order.specs.Moves.{or_else}
use Rattle.order.proofs.light_end.Goals as goal

pub returns : goal.returns
returns c =
    c.or_else.ensures ∙ ap₂ or_else c.count_end-below.ensures c.count_end-own.ensures
