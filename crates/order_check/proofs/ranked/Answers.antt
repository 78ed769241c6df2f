-- Before each turn what is left to show of the order is what was to be shown at first (`Walked`).
use borrow.Author.Rules.{rules}
use mathlib.Core.Path.{sym, ◌∙◌}
use native.Mathlib.Omega.{arith}
use Rattle.rules.proofs.Tells.{tells_no, tells_equal, refuted, told}
use Rattle.free_check.proofs.Listed.{one_less}
use Rattle.order_check.proofs.Counted.{next, goes, all_held}
use Rattle.order_check.proofs.ranked.Goals as goal

pub returns-then-rows-at : goal.returns-then-rows-at
returns-then-rows-at c =
    tells_no (λ w. let h = (next _ _ _ _ _ _ _ c.loop.invariant (search rules) (omega arith) w).0 in omega arith)

pub returns-then-not-joins : goal.returns-then-not-joins
returns-then-not-joins c =
    tells_no (λ w. refuted c.joins.ensures c.if-not-joins.true (rw c.client-count.ensures (next _ _ _ _ _ _ _ c.loop.invariant (search rules) (omega arith) w).1))

pub loop-preserved : goal.loop-preserved
loop-preserved c =
    let j = rw c.client-count.ensures at (told c.joins.ensures c.if-not-joins.false) in
    let n = rw c.client-count.ensures at c.from-groups.ensures in
    rw (one_less c.header-clients.result c.loop.counter, c.client-heavier.ensures, c.client-count.ensures)
    (goes _ _ _ _ _ _ _ c.loop.invariant (search rules) (omega arith) c.if-rows-at.false j _ n)

pub returns : goal.returns
returns c =
    let s =
    all_held _ _ _ _ _ _ _ c.loop.invariant (search rules) (omega arith)
    (c.if-at.false, sym c.header-heaviest.ensures ∙ c.if-heaviest-prev.false) (told c.ended.ensures c.if-not-ended.false) in
    tells_equal _ _ (λ e. s.0 (sym c.rows_held.ensures ∙ e), λ w. c.rows_held.ensures ∙ s.1 w)
