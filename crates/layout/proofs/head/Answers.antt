-- Six words of the header. Assumes nothing.
use Rattle.table.proofs.Write.{then}
use Rattle.layout.proofs.head.Goals as goal

pub returns : goal.returns
returns c =
    then
    (then
    (then
    (then (then c.set_header.ensures.writes c.set_header-2.ensures.writes) c.set_header-3.ensures.writes)
    c.set_header-4.ensures.writes)
    c.set_header-5.ensures.writes)
    c.set_header-6.ensures.writes
