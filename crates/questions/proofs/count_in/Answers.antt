-- The row that the lookup gave holds the client's count; where it gave none, no request is the client's.
use lib.Dec.{lit<}
use Rattle.rules.proofs.Ready.{ready_sized}
use Rattle.questions.proofs.Tell.{nobody_counts, client_counts}
use Rattle.questions.proofs.count_in.Goals as goal

pub returns-then-r-eq-NONE : goal.returns-then-r-eq-NONE
returns-then-r-eq-NONE c = λ id f. nobody_counts c.requires.ready f c.if-r-eq-NONE.true

pub client-requires : goal.client-requires
client-requires c = record { sized = ready_sized c.requires.ready; r_lt_q = (c.requires.link c.if-r-eq-NONE.false, lit< tt) }

pub returns : goal.returns
returns c = λ id f. client_counts c.requires.ready f c.if-r-eq-NONE.false c.client.ensures
