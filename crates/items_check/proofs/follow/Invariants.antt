-- Before each turn what is left to show of the window and the own lists is what was to be shown at first, and no row was met more often than there were turns.
use mathlib.Core.Logic.{◌↔◌}
use Prim.Native.Nat.{ℕ, ◌-◌, ◌≤◌, ◌<◌}
use Rattle.table.specs.Regions.{regions}
use Rattle.free_check.specs.Listed.{Listed}
use Rattle.items_check.specs.Check.{column, notes, Follows, Window}
use Rattle.items_check.proofs.follow.Given as goal

abbrev pub invariant-loop : goal.invariant-loop
invariant-loop g l =
    ((c : ℕ) → c < l.q → column l.noted.seen c ≤ l.counter)
    × (Listed (l.requests - l.counter) (Follows l.q (regions l.q l.t) l.at l.prev (notes l.noted.met l.noted.next l.noted.seen)) ↔ Window l.q (regions l.q l.t))
