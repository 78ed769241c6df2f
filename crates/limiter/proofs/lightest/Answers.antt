-- A table that is not refused is ready, so the listing is of what it shows; a refused one is not read. Assumes nothing.
use lib.ListN.{length}
use Rattle.std.proofs.lemmas.Result.{err_from_is_err_and}
use Rattle.rules.specs.History as history
use Rattle.rules.specs.Picture.{plain}
use Rattle.questions.specs.Output.{listed_words}
use Rattle.limiter.specs.Lent.{lent}
use Rattle.limiter.proofs.Lent.{refuses, part_most, part_long, part_ready, answers}
use Rattle.limiter.proofs.Answers.{call_refuses, call_answers}
use Rattle.limiter.proofs.Calls.{listing_of}
use Rattle.limiter.proofs.lightest.Goals as goal

pub size-requires : goal.size-requires
size-requires c = part_most _ c.in_ok-q.ensures

pub slice_bounds-lightest-end : goal.slice_bounds-lightest-end
slice_bounds-lightest-end c = part_long _ c.in_ok-q.ensures c.size.ensures

pub lightest-requires : goal.lightest-requires
lightest-requires c = part_ready _ c.in_ok-q.ensures c.size.ensures

pub returns-in_err-q : goal.returns-in_err-q
returns-in_err-q c =
    let p = err_from_is_err_and c.from_residual.result c.from_residual.ensures.1 in
    let f = c.in_err-q.ensures in
    let (reply, numbers) = call_refuses (listing_of c.args.k (length c.args.out.now)) _ f in
    rw (p.1, p.2) (record { reply = reply; numbers = numbers; words = refuses _ f (λ _. c.args.out.now) (listed_words history.lightest c.args.k (plain (lent c.args.t.now)) c.args.out.now) })

pub returns : goal.returns
returns c = let f = c.in_ok-q.ensures in
    let (reply, numbers) = call_answers (listing_of c.args.k (length c.args.out.now)) _ f c.size.ensures c.lightest.ensures.reply in
    record { reply = reply; numbers = numbers; words = answers _ f c.size.ensures (λ _. c.args.out.now) (λ P. listed_words history.lightest c.args.k (plain P) c.args.out.now) c.lightest.ensures.words }
