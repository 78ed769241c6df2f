-- Before each turn what is left to show of the order is what was to be shown at first (`Walked`).
use Prim.Native.Nat.{◌-◌}
use Rattle.table.specs.Regions.{regions}
use Rattle.table.specs.Owners.{order_words}
use Rattle.order_check.specs.Check.{Ranked}
use Rattle.order_check.proofs.Counted.{Walked}
use Rattle.order_check.proofs.ranked.Given as goal

abbrev pub invariant-loop : goal.invariant-loop
invariant-loop l = Walked l.q (order_words (regions l.q l.t)) (l.clients - l.counter) l.at l.prev l.floor l.groups (Ranked l.q (order_words (regions l.q l.t)))
