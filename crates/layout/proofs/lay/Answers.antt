-- Cleared, chained, headed: the drawing of the empty picture. Assumes nothing.
use mathlib.Core.Path.{◌∙◌}
use Rattle.layout.proofs.Laws.{laid}
use borrow.Author.Rules.{rules}
use Rattle.layout.proofs.lay.Goals as goal

pub returns : goal.returns
returns c =
    c.head.ensures.drawn _ c.chain.ensures ∙ laid _ (search rules)
