-- Each return is one test of the verdict. Assumes nothing.
use mathlib.Core.Path.{sym, ◌∙◌}
use lib.Seq.{length-take-le}
use Rattle.rules.proofs.Decide.{range_decides}
use Rattle.rules.proofs.Verdict.{under_header, other_mark, other_places, short_for_places}
use Rattle.verdict.proofs.Tests.{refused, sized_part, marked_part, not_sound, is_sound}
use borrow.Author.Rules.{rules}
use Rattle.verdict.proofs.of.Goals as goal

pub returns-then-t-lt-HEADER_WORDS : goal.returns-then-t-lt-HEADER_WORDS
returns-then-t-lt-HEADER_WORDS c = refused _ 1 (under_header _ c.if-t-lt-HEADER_WORDS.true)

pub returns-then-t-ne-MARK : goal.returns-then-t-ne-MARK
returns-then-t-ne-MARK c = refused _ 2 (other_mark _ c.if-t-lt-HEADER_WORDS.false c.if-t-ne-MARK.true)

pub returns-then-not-in_range : goal.returns-then-not-in_range
returns-then-not-in_range c =
    refused _ 2 (other_places _ c.if-t-lt-HEADER_WORDS.false c.if-t-ne-MARK.false (sym c.in_range.ensures ∙ c.if-not-in_range.true))

pub size-need-requires : goal.size-need-requires
size-need-requires c = ((range_decides _).0 (sym c.in_range.ensures ∙ c.if-not-in_range.false)).1

pub returns-then-t-need : goal.returns-then-t-need
returns-then-t-need c =
    refused _ 1 (short_for_places _ c.if-t-lt-HEADER_WORDS.false c.if-t-ne-MARK.false (sym c.in_range.ensures ∙ c.if-not-in_range.false) (rw (← c.size-need.ensures) c.if-t-need.true))

pub slice_bounds-whole-end : goal.slice_bounds-whole-end
slice_bounds-whole-end c = sym (length-take-le _ _ (search rules))

pub whole-requires : goal.whole-requires
whole-requires c =
    let r = sym c.in_range.ensures ∙ c.if-not-in_range.false in
    record {
      sized = sized_part _ c.if-t-lt-HEADER_WORDS.false c.if-t-ne-MARK.false r _ c.size-need.ensures c.if-t-need.false;
      le_q = ((range_decides _).0 r).0;
      mark_at_value = marked_part _ c.if-t-lt-HEADER_WORDS.false c.if-t-ne-MARK.false r _ c.size-need.ensures c.if-t-need.false;
    }

pub returns-then-not-whole : goal.returns-then-not-whole
returns-then-not-whole c =
    not_sound _ c.if-t-lt-HEADER_WORDS.false c.if-t-ne-MARK.false (sym c.in_range.ensures ∙ c.if-not-in_range.false) _ c.size-need.ensures c.if-t-need.false (sym c.if-not-whole.true ∙ c.whole.ensures)

pub returns : goal.returns
returns c =
    is_sound _ c.if-t-lt-HEADER_WORDS.false c.if-t-ne-MARK.false (sym c.in_range.ensures ∙ c.if-not-in_range.false) _ c.size-need.ensures c.if-t-need.false (sym c.if-not-whole.false ∙ c.whole.ensures)
