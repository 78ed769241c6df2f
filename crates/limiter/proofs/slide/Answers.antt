-- A table that is not refused is ready, so the step is on what it shows; a refused one is left as it was. Assumes nothing.
use mathlib.Core.Path.{ap}
use borrow.Author.Rules.{rules}
use Rattle.std.proofs.lemmas.Result.{err_from_is_err_and}
use Rattle.rules.specs.Steps as steps
use Rattle.steps.proofs.Few.{slide_few}
use Rattle.std.specs.Prelude.{Ok}
use Rattle.limiter.proofs.Lent.{part_most, part_fits, part_long, part_ready}
use Rattle.limiter.proofs.Answers.{call_refuses, call_answers}
use Rattle.limiter.proofs.Calls.{sliding}
use Rattle.limiter.proofs.Changed.{refused_words, changed_words}
use Rattle.limiter.proofs.slide.Goals as goal

pub size-requires : goal.size-requires
size-requires c = part_most _ c.in_ok-q.ensures

pub slice_bounds-slide-end : goal.slice_bounds-slide-end
slice_bounds-slide-end c = part_fits _ c.in_ok-q.ensures c.size.ensures

pub slice_bounds-slide-end-2 : goal.slice_bounds-slide-end-2
slice_bounds-slide-end-2 c = part_long _ c.in_ok-q.ensures c.size.ensures

pub slide-requires : goal.slide-requires
slide-requires c = record { ready = part_ready _ c.in_ok-q.ensures c.size.ensures }

pub returns-in_err-q : goal.returns-in_err-q
returns-in_err-q c =
    let p = err_from_is_err_and c.from_residual.result c.from_residual.ensures.1 in
    let f = c.in_err-q.ensures in
    let (reply, numbers) = call_refuses sliding _ f in
    let w = refused_words (λ P. steps.slid P c.args.id c.args.ticket) _ 48 f in
    rw (p.1, p.2) (record { reply = reply; numbers = numbers; words = w.0; few = w.1 })

pub returns : goal.returns
returns c =
    let f = c.in_ok-q.ensures in
    let is = c.size.ensures in
    let words = changed_words (λ P. steps.slid P c.args.id c.args.ticket) _ f is c.slide.ensures.words 48 (search rules) (slide_few (part_ready _ f is) c.args.id c.args.ticket) in
    let (reply, numbers) = call_answers sliding _ f is (ap Ok c.slide.ensures.reply) in
    record { reply = reply; numbers = numbers; words = words.0; few = words.1 }
