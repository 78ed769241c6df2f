-- A pair a turn. Assumes nothing.
use borrow.Author.Rules.{rules}
use Rattle.page.proofs.Begun.{begin}
use Rattle.page.proofs.Put.{put_length}
use Rattle.printer.proofs.Clients.{line_room, line_turn, lines_end}
use Rattle.printer.proofs.lines.Goals as goal

pub loop-rest-init : goal.loop-rest-init
loop-rest-init c = record { begun = search (begin, rules) }

pub client-end-requires : goal.client-end-requires
client-end-requires c = line_room c.loop-rest.invariant c.in-len2-up.len_at_least

pub loop-rest-preserved : goal.loop-rest-preserved
loop-rest-preserved c = line_turn c.loop-rest.invariant c.in-len2-up.len_at_least c.client-end.ensures

pub shape_of-out : goal.shape_of-out
shape_of-out c = put_length (lines_end c.loop-rest.invariant c.in_default.len_below)

pub returns : goal.returns
returns c = lines_end c.loop-rest.invariant c.in_default.len_below
