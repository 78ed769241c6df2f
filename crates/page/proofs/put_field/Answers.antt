-- The number goes behind the label. Assumes nothing.
use borrow.Author.Rules.{rules}
use Rattle.page.proofs.Put.{room_first, room_next, put_then}
use Rattle.page.proofs.put_field.Goals as goal

pub put_text-i-requires : goal.put_text-i-requires
put_text-i-requires c = search (room_first, rules)

pub put_number-requires : goal.put_number-requires
put_number-requires c = search (room_next, rules)

pub returns : goal.returns
returns c = search (put_then, rules)
