-- Before each turn what is left to show of the window and the own lists is what was to be shown at first, and no row was met more often than there were turns.
use borrow.Author.Rules.{rules}
use mathlib.Core.Path.{refl}
use native.Mathlib.Omega.{arith}
use Rattle.rules.proofs.Tells.{tells_no, tells_so, refuted, told}
use Rattle.free_check.proofs.Listed.{one_less}
use Rattle.items_check.proofs.WindowTurns.{turn, stop, turn_noted, seen_more}
use Rattle.items_check.proofs.follow.Goals as goal

pub returns-then-at-rows : goal.returns-then-at-rows
returns-then-at-rows g c = tells_no (λ w. let f = ((turn _ _ _ _ _ _ c.loop.invariant.1 (omega arith) _ refl).1 w).0 in omega (arith, f.row))

pub returns-then-c-rows : goal.returns-then-c-rows
returns-then-c-rows g c =
    tells_no (λ w. let f = ((turn _ _ _ _ _ _ c.loop.invariant.1 (omega arith) _ c.item-c.ensures).1 w).0 in omega (arith, f.client))

pub returns-then-not-joins : goal.returns-then-not-joins
returns-then-not-joins g c =
    tells_no (λ w. refuted c.joins.ensures c.if-not-joins.true ((turn _ _ _ _ _ _ c.loop.invariant.1 (omega arith) _ c.item-c.ensures).1 w).0.joins)

pub loop-preserved : goal.loop-preserved
loop-preserved g c = (
  seen_more c.loop.noted.seen _ _ _ (search rules) c.loop.invariant.0 (search rules),
  rw (one_less c.header-requests.result c.loop.counter)
      (turn_noted _ _ _ _ c.loop.noted.met c.loop.noted.next c.loop.noted.seen _ c.loop.invariant.1 (omega arith) _ c.item-c.ensures
      (record { row = search rules; client = search rules; joins = told c.joins.ensures c.if-not-joins.false })
      (search rules) (search rules) (search rules) _ c.item.ensures _ c.item-at.ensures),
)

pub returns : goal.returns
returns g c =
    tells_so (stop _ _ _ _ _ _ c.loop.invariant.1 (omega arith)) c.finished.ensures
