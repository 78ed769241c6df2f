-- Read from its client's row and its own.
use lib.Dec.{lit<}
use Rattle.rules.proofs.Ready.{ready_sized}
use Rattle.questions.proofs.Kept.{client_low}
use Rattle.steps.proofs.Leaving.{item_low, owner_there, item_told}
use Rattle.steps.proofs.request_in.Goals as goal

pub client-id-requires : goal.client-id-requires
client-id-requires c = record { sized = ready_sized c.requires.ready; r_lt_q = (client_low c.requires.ready _ (owner_there c.requires.ready _ c.requires.waits.0 _ c.requires.waits.1), lit< tt) }

pub ticket-ticket-requires : goal.ticket-ticket-requires
ticket-ticket-requires c = record { sized = ready_sized c.requires.ready; r_lt_q = item_low c.requires.ready _ c.requires.waits.0 }

pub returns : goal.returns
returns c =
    item_told c.requires.ready _ c.requires.waits.0 _ c.requires.waits.1 c.client-id.ensures c.ticket-ticket.ensures
