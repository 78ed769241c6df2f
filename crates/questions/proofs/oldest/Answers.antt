-- The client's row holds the row of its oldest request, whose ticket is the plain history's; where there is no row, there is no such client.
use lib.Dec.{lit<}
use Rattle.std.proofs.lemmas.Result.{err_from_is_err_and}
use Rattle.rules.proofs.Ready.{ready_sized}
use Rattle.questions.proofs.Ends.{oldest_end}
use Rattle.questions.proofs.Kept.{client_low}
use Rattle.questions.proofs.Tell.{nobody_tells, row_low, client_tells}
use Rattle.questions.proofs.oldest.Goals as goal

pub returns-in_err-row : goal.returns-in_err-row
returns-in_err-row c = let p = err_from_is_err_and c.from_residual.result c.from_residual.ensures.1 in rw (p.1, p.2) (nobody_tells c.requires.ready oldest_end _ c.in_err-row.ensures)

pub client-i-requires : goal.client-i-requires
client-i-requires c = record { sized = ready_sized c.requires.ready; r_lt_q = (client_low c.requires.ready _ (c.in_ok-row.ensures).0, lit< tt) }

pub ticket-requires : goal.ticket-requires
ticket-requires c =
    record { sized = ready_sized c.requires.ready; r_lt_q = row_low c.requires.ready oldest_end _ _ c.in_ok-row.ensures c.client-i.ensures }

pub returns : goal.returns
returns c = client_tells c.requires.ready oldest_end _ _ c.in_ok-row.ensures c.client-i.ensures c.ticket.ensures
