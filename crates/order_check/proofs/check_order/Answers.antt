-- The three parts that the check looks for, and what they mean together (`checked`).
use borrow.Author.Rules.{rules}
use native.Mathlib.Omega.{arith}
use Rattle.rules.proofs.Tells.{tells_no, tells_so, refuted, told}
use Rattle.order_check.proofs.Means.{checked}
use Rattle.order_check.proofs.check_order.Goals as goal
use Rattle.order_check.proofs.check_order.Goals.{then-q-clients-via-then-q-clients, then-q-clients-via-else-q-clients+then-not-ranked}

pub returns-then-q-clients : goal.returns-then-q-clients
returns-then-q-clients c =
    checked (search rules)
    (tells_no
    (λ p.
    elim c.then-q-clients.branch [
      | then-q-clients-via-then-q-clients w ↦ omega (arith, p.few)
      | then-q-clients-via-else-q-clients+then-not-ranked w ↦ refuted w.ranked.ensures w.if-not-ranked.true p.ranked
    ]))

pub returns : goal.returns
returns c =
    let free = rw (c.clients_from.ensures, c.header-first.ensures, c.header-clients.ensures) at c.free_rows.ensures in
    checked (search rules)
    (tells_so (λ i. record { few = search rules; ranked = told c.ranked.ensures c.if-not-ranked.false; free = i }, λ p. p.free) free)
