-- The pairs are words, so their lines have room.
use Rattle.std.proofs.Common.{arith}
use Rattle.replay.proofs.Showing.{lines_room}
use Rattle.replay.proofs.lines.Goals as goal

pub lines-requires : goal.lines-requires
lines-requires c = lines_room c.args.pairs.now (λ i. omega (arith, (c.type_inv.pairs i).fits)) c.requires
