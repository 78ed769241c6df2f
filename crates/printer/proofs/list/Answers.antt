-- The listing has room for every client, and its words go out pair by pair. Assumes nothing.
use mathlib.Core.Path.{sym, ◌∙◌}
use native.Mathlib.Omega.{arith}
use Rattle.rules.specs.Picture.{plain}
use Rattle.rules.specs.Sound.{picture}
use Rattle.printer.proofs.Listed.{never_refused, listed_few, listed_words_lem, listed_part, listed_fits}
use Rattle.printer.proofs.list.Goals as goal

pub unwrap-n-requires : goal.unwrap-n-requires
unwrap-n-requires c = never_refused _ (plain (picture c.args.t.now)) c.args.pairs.now c.requires.ready.1 c.heaviest.ensures.reply

pub overflow_mul-n : goal.overflow_mul-n
overflow_mul-n c = omega (arith, listed_few _ (plain (picture c.args.t.now)) c.args.pairs.now c.requires.ready.1 (sym c.unwrap-n.ensures ∙ c.heaviest.ensures.reply))

pub slice_bounds-lines-end : goal.slice_bounds-lines-end
slice_bounds-lines-end c = listed_fits _ (plain (picture c.args.t.now)) c.args.pairs.now c.requires.ready.1 (sym c.unwrap-n.ensures ∙ c.heaviest.ensures.reply) c.heaviest.ensures.words

pub slice_bounds-lines-end-2 : goal.slice_bounds-lines-end-2
slice_bounds-lines-end-2 c = listed_part _ (plain (picture c.args.t.now)) c.args.pairs.now c.requires.ready.1 (sym c.unwrap-n.ensures ∙ c.heaviest.ensures.reply) c.heaviest.ensures.words

pub lines-requires : goal.lines-requires
lines-requires c = rw (listed_words_lem _ (plain (picture c.args.t.now)) c.args.pairs.now c.requires.ready.1 (sym c.unwrap-n.ensures ∙ c.heaviest.ensures.reply) c.heaviest.ensures.words) c.requires.room

pub returns : goal.returns
returns c = rw (listed_words_lem _ (plain (picture c.args.t.now)) c.args.pairs.now c.requires.ready.1 (sym c.unwrap-n.ensures ∙ c.heaviest.ensures.reply) c.heaviest.ensures.words) at c.lines.ensures
