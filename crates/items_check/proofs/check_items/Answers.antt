-- The three parts that the check looks for, and what they mean together (`checked`).
use borrow.Author.Rules.{rules}
use native.Mathlib.Omega.{arith}
use Rattle.rules.proofs.Tells.{tells_no, tells_so, refuted, told}
use Rattle.items_check.proofs.Means.{checked}
use Rattle.items_check.proofs.check_items.Goals as goal
use Rattle.items_check.proofs.check_items.Goals.{then-q-n-via-then-q-n, then-q-n-via-else-q-n+then-not-window}

pub returns-then-q-n : goal.returns-then-q-n
returns-then-q-n c =
    checked (search rules)
    (tells_no
    (λ p.
    elim c.then-q-n.branch [
      | then-q-n-via-then-q-n w ↦ omega (arith, p.few)
      | then-q-n-via-else-q-n+then-not-window w ↦ refuted w.window.ensures w.if-not-window.true p.window
    ]))

pub returns : goal.returns
returns c =
    let free = rw (c.header-first.ensures, c.header-n.ensures) at c.free_rows.ensures in
    checked (search rules)
    (tells_so (λ i. record { few = search rules; window = told c.window.ensures c.if-not-window.false; free = i }, λ p. p.free) free)
