-- Its client is dismissed; then the item leaves, and the table is the drawing of the picture without the request.
use Rattle.rules.proofs.Ready.{ready_sized}
use Rattle.steps.proofs.Leaving.{last_asks, last_still, last_left}
use Rattle.steps.proofs.leave_only.Goals as goal

pub request_in-gone-requires : goal.request_in-gone-requires
request_in-gone-requires c = record { ready = c.requires.ready; waits = c.requires.waits }

pub dismiss-requires : goal.dismiss-requires
dismiss-requires c =
    let k = last_asks c.requires.ready _ c.requires.waits.0 _ c.requires.waits.1 c.requires.c_value in
    record { sized = ready_sized c.requires.ready; drawn = k.0; a_client = k.1 }

pub leave_only-requires : goal.leave_only-requires
leave_only-requires c = record { sized = c.dismiss.ensures.still_sized; item_of = last_still c.requires.ready _ c.requires.waits.0 _ c.requires.waits.1 c.requires.c_value c.dismiss.ensures.dismisses }

pub returns : goal.returns
returns c = record { value = c.request_in-gone.ensures; t_after = last_left c.requires.ready _ c.requires.waits.0 _ c.requires.waits.1 c.requires.c_value c.dismiss.ensures.dismisses c.leave_only.ensures.writes }
