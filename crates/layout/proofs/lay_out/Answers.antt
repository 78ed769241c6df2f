-- Each return is one case of `lay_out_number`. Assumes nothing.
use mathlib.Core.Path.{sym, ◌∙◌}
use lib.Seq.{length-take-le}
use Rattle.rules.proofs.Decide.{range_decides}
use Rattle.layout.proofs.Calls.{out_of_range_lem, too_short_lem, sized_part, laid_out_lem}
use borrow.Author.Rules.{rules}
use Rattle.layout.proofs.lay_out.Goals as goal

pub returns-then-not-in_range : goal.returns-then-not-in_range
returns-then-not-in_range c = let k = out_of_range_lem _ _ (sym c.in_range.ensures ∙ c.if-not-in_range.true) in record { number = k.0; words = k.1 }

pub size-need-requires : goal.size-need-requires
size-need-requires c = ((range_decides _).0 (sym c.in_range.ensures ∙ c.if-not-in_range.false)).1

pub returns-then-t-need : goal.returns-then-t-need
returns-then-t-need c = let k = too_short_lem _ _ (sym c.in_range.ensures ∙ c.if-not-in_range.false) _ c.size-need.ensures c.if-t-need.true in record { number = k.0; words = k.1 }

pub slice_bounds-lay-end : goal.slice_bounds-lay-end
slice_bounds-lay-end c = search rules

pub slice_bounds-lay-end-2 : goal.slice_bounds-lay-end-2
slice_bounds-lay-end-2 c = sym (length-take-le _ _ (search rules))

pub lay-requires : goal.lay-requires
lay-requires c = let k = sized_part _ _ (sym c.in_range.ensures ∙ c.if-not-in_range.false) _ c.size-need.ensures c.if-t-need.false in record { sized = k.0; le_q = k.1 }

pub returns : goal.returns
returns c = let k = laid_out_lem _ _ (sym c.in_range.ensures ∙ c.if-not-in_range.false) _ c.size-need.ensures c.if-t-need.false _ c.lay.ensures in record { number = k.0; words = k.1 }
