-- A table that is not refused is ready, so the ticket is of what it shows; a refused one is not read. Assumes nothing.
use Rattle.std.proofs.lemmas.Result.{err_from_is_err_and}
use Rattle.rules.specs.History as history
use Rattle.limiter.proofs.Lent.{part_most, part_long, part_ready}
use Rattle.limiter.proofs.Answers.{call_refuses, call_answers}
use Rattle.limiter.proofs.Calls.{telling}
use Rattle.limiter.proofs.oldest.Goals as goal

pub size-requires : goal.size-requires
size-requires c = part_most _ c.in_ok-q.ensures

pub slice_bounds-oldest-end : goal.slice_bounds-oldest-end
slice_bounds-oldest-end c = part_long _ c.in_ok-q.ensures c.size.ensures

pub oldest-requires : goal.oldest-requires
oldest-requires c = record { ready = part_ready _ c.in_ok-q.ensures c.size.ensures }

pub returns-in_err-q : goal.returns-in_err-q
returns-in_err-q c =
    let p = err_from_is_err_and c.from_residual.result c.from_residual.ensures.1 in
    let k = call_refuses (telling history.oldest_ticket _) _ c.in_err-q.ensures in rw (p.1, p.2) (record { reply = k.0; numbers = k.1 })

pub returns : goal.returns
returns c = let k = call_answers (telling history.oldest_ticket _) _ c.in_ok-q.ensures c.size.ensures c.oldest.ensures in record { reply = k.0; numbers = k.1 }
