-- Its client is lowered; then the item leaves, and the table is the drawing of the picture without the request.
use mathlib.Core.Path.{sym, ◌∙◌, subst}
use Prim.Native.Nat.{◌≤◌}
use Rattle.rules.proofs.Ready.{ready_sized}
use Rattle.steps.proofs.Leaving.{counted, more_asks, more_still, more_left}
use Rattle.steps.proofs.leave_one.Goals as goal

pub request_in-gone-requires : goal.request_in-gone-requires
request_in-gone-requires c = record { ready = c.requires.ready; waits = c.requires.waits }

pub lower-requires : goal.lower-requires
lower-requires c = record { sized = ready_sized c.requires.ready; drawn = more_asks c.requires.ready _ c.requires.waits.0 _ c.requires.waits.1 (subst (λ n. 2 ≤ n) c.requires.n_value.0 c.requires.n_value.1); n_value = c.requires.n_value.0 ∙ sym (counted c.requires.ready _ c.requires.waits.0 _ c.requires.waits.1) }

pub leave_one-requires : goal.leave_one-requires
leave_one-requires c = record { sized = c.lower.ensures.still_sized; item_of = more_still c.requires.ready _ c.requires.waits.0 _ c.requires.waits.1 (subst (λ n. 2 ≤ n) c.requires.n_value.0 c.requires.n_value.1) c.lower.ensures.writes }

pub returns : goal.returns
returns c = record { value = c.request_in-gone.ensures; t_after = more_left c.requires.ready _ c.requires.waits.0 _ c.requires.waits.1 (subst (λ n. 2 ≤ n) c.requires.n_value.0 c.requires.n_value.1) c.lower.ensures.writes c.leave_one.ensures.writes }
