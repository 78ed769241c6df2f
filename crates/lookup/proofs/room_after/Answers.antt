-- What is left after the rest of the chain is left after the whole (`Rooms`); the room grows less.
use borrow.Author.Rules.{rules}
use Rattle.lookup.proofs.Rooms.{rooms_none, rooms_wrong, rooms_next}
use Rattle.lookup.proofs.room_after.Goals as goal

pub returns-then-not-fits : goal.returns-then-not-fits
returns-then-not-fits c = search (rooms_wrong, rules)

pub loop-at-preserved : goal.loop-at-preserved
loop-at-preserved c = let l = c.in_ok-left.ensures in search (rooms_next, rules)

pub returns : goal.returns
returns c = search (rooms_none, rules)
