-- Before turn r the rows below r whose own lists do not end are counted (`Wrong`).
use Rattle.items_check.proofs.WindowTurns.{wrong_more}
use Rattle.items_check.proofs.finished.Goals as goal

pub loop-r-preserved : goal.loop-r-preserved
loop-r-preserved g c = wrong_more c.loop-r.invariant c.own_ends-ends.ensures c.from-wrong.ensures
