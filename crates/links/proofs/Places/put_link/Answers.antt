-- The test picks the place that `link_at` picks. Assumes nothing.
use mathlib.Core.Path.{sym}
use borrow.Author.Tests.{eq-eqb, ne_eqb}
use Rattle.links.proofs.Places.put_link.Goals as goal

pub set_link-requires : goal.set_link-requires
set_link-requires c = c.requires.f_in_bounds c.if-e-eq-NONE.false

pub returns-then-e-eq-NONE : goal.returns-then-e-eq-NONE
returns-then-e-eq-NONE c = rw (eq-eqb _ _ (sym c.if-e-eq-NONE.true))

pub returns-else-e-eq-NONE : goal.returns-else-e-eq-NONE
returns-else-e-eq-NONE c =
    rw (ne_eqb _ _ (λ z. c.if-e-eq-NONE.false (sym z))) c.set_link.ensures
