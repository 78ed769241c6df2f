-- Each return is one case of `printed`. Assumes nothing.
use mathlib.Core.Path.{sym, ◌∙◌}
use native.Mathlib.Omega.{arith}
use borrow.Author.Rules.{rules}
use Rattle.printer.proofs.Session.{printer_most}
use Rattle.printer.proofs.Page.{overlong, cut, outside, inside, page_room, page_put}
use Rattle.printer.proofs.print.Goals as goal

pub refuse-requires : goal.refuse-requires
refuse-requires c =
    rw c.from.ensures (page_room c.args.input.now (overlong _ c.if-input-gt-INPUT.true) c.type_inv.input (search rules))

pub returns-then-input-gt-INPUT : goal.returns-then-input-gt-INPUT
returns-then-input-gt-INPUT c =
    let k = page_put _ (overlong _ c.if-input-gt-INPUT.true) (rw c.from.ensures at c.refuse.ensures) in
    record { length = k.0; bytes = k.1.0; part = k.1.1 }

pub refuse-requires-then-input-lt2 : goal.refuse-requires-then-input-lt2
refuse-requires-then-input-lt2 c =
    rw c.from-then-input-lt2.ensures (page_room c.args.input.now (cut _ c.if-input-gt-INPUT.false c.if-input-lt2.true) c.type_inv.input (search rules))

pub returns-then-input-lt2 : goal.returns-then-input-lt2
returns-then-input-lt2 c =
    let k = page_put _ (cut _ c.if-input-gt-INPUT.false c.if-input-lt2.true) (rw c.from-then-input-lt2.ensures at c.refuse-then-input-lt2.ensures) in
    record { length = k.0; bytes = k.1.0; part = k.1.1 }

pub refuse-requires-then-not-in_range : goal.refuse-requires-then-not-in_range
refuse-requires-then-not-in_range c =
    let range = sym c.in_range.ensures ∙ c.if-not-in_range.true in
    let is = outside _ c.if-input-gt-INPUT.false c.if-input-lt2.false c.places-q.ensures range in
    rw c.from-then-not-in_range.ensures (page_room c.args.input.now is c.type_inv.input (search rules))

pub returns-then-not-in_range : goal.returns-then-not-in_range
returns-then-not-in_range c =
    let range = sym c.in_range.ensures ∙ c.if-not-in_range.true in
    let is = outside _ c.if-input-gt-INPUT.false c.if-input-lt2.false c.places-q.ensures range in
    let k = page_put _ is (rw c.from-then-not-in_range.ensures at c.refuse-then-not-in_range.ensures) in
    record { length = k.0; bytes = k.1.0; part = k.1.1 }

pub batch-requires : goal.batch-requires
batch-requires c =
    let range = sym c.in_range.ensures ∙ c.if-not-in_range.false in
    let most = printer_most c.places-q.result range in
    let is = inside _ c.if-input-gt-INPUT.false c.if-input-lt2.false c.places-q.ensures range in
    record { q_value = (range, omega arith); q_in_bounds = omega arith; room = page_room c.args.input.now is c.type_inv.input (search rules) }

pub returns : goal.returns
returns c =
    let range = sym c.in_range.ensures ∙ c.if-not-in_range.false in
    let is = inside _ c.if-input-gt-INPUT.false c.if-input-lt2.false c.places-q.ensures range in
    let k = page_put _ is c.batch.ensures in
    record { length = k.0; bytes = k.1.0; part = k.1.1 }
