-- A table that is not refused is ready, so the step is on what it shows; a refused one is left as it was. Assumes nothing.
use mathlib.Core.Path.{ap, ◌∙◌}
use borrow.Author.Rules.{rules}
use Rattle.std.proofs.lemmas.Result.{err_from_is_err_and}
use Rattle.rules.specs.Steps as steps
use Rattle.answers.specs.Offered.{served_of}
use Rattle.steps.proofs.Few.{serve_few}
use Rattle.limiter.proofs.Lent.{part_most, part_fits, part_long, part_ready}
use Rattle.limiter.proofs.Answers.{call_refuses, call_answers}
use Rattle.limiter.proofs.Calls.{serving}
use Rattle.limiter.proofs.Changed.{refused_words, changed_words}
use Rattle.limiter.proofs.serve.Goals as goal

pub size-requires : goal.size-requires
size-requires c = part_most _ c.in_ok-q.ensures

pub slice_bounds-serve-end : goal.slice_bounds-serve-end
slice_bounds-serve-end c = part_fits _ c.in_ok-q.ensures c.size.ensures

pub slice_bounds-serve-end-2 : goal.slice_bounds-serve-end-2
slice_bounds-serve-end-2 c = part_long _ c.in_ok-q.ensures c.size.ensures

pub serve-requires : goal.serve-requires
serve-requires c = record { ready = part_ready _ c.in_ok-q.ensures c.size.ensures }

pub returns-in_err-q : goal.returns-in_err-q
returns-in_err-q c =
    let p = err_from_is_err_and c.from_residual.result c.from_residual.ensures.1 in
    let f = c.in_err-q.ensures in
    let (reply, numbers) = call_refuses serving _ f in
    let w = refused_words steps.served _ 24 f in
    rw (p.1, p.2) (record { reply = reply; numbers = numbers; words = w.0; few = w.1 })

pub returns : goal.returns
returns c =
    let f = c.in_ok-q.ensures in
    let is = c.size.ensures in
    let words = changed_words steps.served _ f is c.serve.ensures.words 24 (search rules) (serve_few (part_ready _ f is)) in
    let (reply, numbers) = call_answers serving _ f is (c.ok_or.ensures.value ∙ ap served_of c.serve.ensures.reply) in
    record { reply = reply; numbers = numbers; words = words.0; few = words.1 }
