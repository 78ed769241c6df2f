-- The two fills. Assumes nothing.
use Rattle.std.proofs.Common.{rules}
use Rattle.layout.proofs.Laws.{cleared}
use Rattle.layout.proofs.clear.Goals as goal

pub returns : goal.returns
returns c =
    cleared _ _ _ _ _ c.requires c.counts_from-from.ensures (c.fill.ensures.after (λ y e. search rules)) (c.fill-2.ensures.after (λ y e. search rules))
