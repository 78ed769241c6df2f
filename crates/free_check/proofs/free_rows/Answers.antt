-- Before each turn what is left to show of the chain is what was to be shown at first.
use Prim.Native.Nat.{◌+◌, ◌*◌}
use native.Mathlib.Omega.{arith}
use Rattle.rules.proofs.Tells.{tells_no, refuted, told}
use Rattle.free_check.proofs.Listed.{left_over, one_less}
use Rattle.free_check.proofs.Turns.{row_fits, row_blank, row_word, turn}
use Rattle.free_check.proofs.free_rows.Goals as goal

pub returns-then-past-at : goal.returns-then-past-at
returns-then-past-at c =
    let s = turn _ _ _ _ _ _ c.loop.invariant (omega arith) in
    tells_no (λ w. let h = (s.1 w).0.0 in omega arith)

pub returns-then-not-blank : goal.returns-then-not-blank
returns-then-not-blank c =
    let s = turn _ _ _ _ _ _ c.loop.invariant (omega arith) in
    let b = row_blank _ _ _ (row_fits c.requires c.if-past-at.false) _ c.blank.ensures in
    tells_no (λ w. refuted b c.if-not-blank.true (s.1 w).0.1)

pub loop-preserved : goal.loop-preserved
loop-preserved c =
    let rows = c.args.rows in
    let start = rows.from + rows.width * c.loop.at in
    let b = row_blank c.args.t.now start rows.width (row_fits c.requires c.if-past-at.false) rows.link c.blank.ensures in
    rw (row_word c.args.t.now start rows.width rows.link c.requires.link, one_less c.args.n c.loop.counter)
    (left_over (turn _ _ _ _ _ _ c.loop.invariant (omega arith)) (c.if-past-at.false, told b c.if-not-blank.false))
