-- Before turn r the rows below r whose own lists do not end are counted (`Wrong`).
use Rattle.table.specs.Regions.{regions}
use Rattle.items_check.specs.Check.{column, OwnEnds}
use Rattle.items_check.proofs.WindowTurns.{Wrong}
use Rattle.items_check.proofs.finished.Given as goal

abbrev pub invariant-loop-r : goal.invariant-loop-r
invariant-loop-r g l = Wrong (λ c. OwnEnds (regions l.q l.t) c (column l.noted.met c) (column l.noted.next c) (column l.noted.seen c)) l.wrong l.r
