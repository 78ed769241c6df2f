-- One word read, one written. Assumes nothing.
use borrow.Author.Rules.{rules}
use Prim.Native.Nat.{◌-◌}
use Rattle.order.proofs.Writes.{number_writes}
use Rattle.order.proofs.one_less.Goals as goal

pub returns : goal.returns
returns c = record { writes = number_writes (λ n. n - 1) c.header-n.ensures c.set_header.ensures.writes; still_sized = search rules }
