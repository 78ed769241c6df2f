-- Each part that fails shows that the table is not sound, and the last one tells the whole. Assumes nothing.
use Rattle.rules.proofs.Tells.{told}
use Rattle.verdict.proofs.Passed.{zeros_fail, clients_fail, lookup_fail, items_tell}
use Rattle.verdict.proofs.whole.Goals as goal

pub returns-then-not-zeros : goal.returns-then-not-zeros
returns-then-not-zeros c = zeros_fail _ c.requires.mark_at_value.1 c.zeros.ensures c.if-not-zeros.true

pub returns-then-not-check_order : goal.returns-then-not-check_order
returns-then-not-check_order c = clients_fail _ c.requires.mark_at_value.1 c.check_order.ensures c.if-not-check_order.true

pub returns-then-not-check_lookup : goal.returns-then-not-check_lookup
returns-then-not-check_lookup c =
    lookup_fail _ c.requires.mark_at_value.1 _ c.header-n.ensures c.check_lookup.ensures c.if-not-check_lookup.true

pub returns : goal.returns
returns c =
    items_tell _ c.requires.mark_at_value.1 _ c.header-n.ensures c.requires.sized c.requires.le_q c.requires.mark_at_value.0 (told c.zeros.ensures c.if-not-zeros.false)
    (told c.check_order.ensures c.if-not-check_order.false) c.check_lookup.ensures c.if-not-check_lookup.false c.check_items.ensures
