-- The clients so far are come to, and their pointers are counted (`Walked`).
use native.Mathlib.Omega.{arith}
use Rattle.lookup.proofs.Quick.{walked_few, walked_all, walked_blank, walked_on}
use Rattle.lookup.proofs.by_clients.Goals.{then-client-ne0+else-not-stands, else-client-ne0}
use Rattle.lookup.proofs.by_clients.Goals as goal

pub overflow_add-links : goal.overflow_add-links
overflow_add-links c =
    omega (arith, walked_few (walked_on c.loop-r.invariant c.loop-r-test.true c.client.ensures c.if-client-ne0.true (c.stands.ensures c.if-not-stands.false) c.client-next.ensures c.from-links.ensures))

pub loop-r-preserved : goal.loop-r-preserved
loop-r-preserved c =
    let m = c.loop-r.invariant in
    let is = c.client.ensures in
    elim c.if-client-ne0.branch [
      | then-client-ne0+else-not-stands w ↦
          rw w.links-is
          (walked_on m c.loop-r-test.true is w.if-client-ne0.true (w.stands.ensures w.if-not-stands.false) w.client-next.ensures w.from-links.ensures)
      | else-client-ne0 w ↦ rw w.links-is (walked_blank m c.loop-r-test.true is w.if-client-ne0.false)
    ]

pub returns : goal.returns
returns c = λ e. walked_all c.loop-r.invariant c.loop-r.auto.r-end c.loop-r-test.false e
