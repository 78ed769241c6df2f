-- Before each turn what is left to show of the chain is what was to be shown at first.
use mathlib.Core.Logic.{◌↔◌}
use Prim.Native.Nat.{◌-◌}
use Rattle.free_check.specs.Free.{words_of, Free}
use Rattle.free_check.proofs.free_rows.Given as goal

abbrev pub invariant-loop : goal.invariant-loop
invariant-loop l = Free l.q l.width l.link (words_of l.from l.width l.t) l.at (l.n - l.counter) ↔ Free l.q l.width l.link (words_of l.from l.width l.t) l.first l.n
