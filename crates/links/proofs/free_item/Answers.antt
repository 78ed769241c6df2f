-- The row blank, then the header, by the one law for both kinds of rows. Assumes nothing.
use mathlib.Core.List.{List}
use mathlib.Core.Path.{ap}
use Prim.Native.Nat.{ℕ, ◌+◌}
use native.Mathlib.Omega.{arith}
use lib.Dec.{lit<}
use lib.ListN.{set}
use borrow.Author.Rules.{rules}
use Rattle.links.proofs.Strands.{item_stands}
use Rattle.links.proofs.Pools.{filled, free_writes}
use Rattle.links.proofs.free_item.Goals as goal

pub returns : goal.returns
returns c =
    let row = c.item_at-row.result in
    let blank =
    ap (λ (l : List ℕ). set l (row + 3) c.header-first.result)
    (filled c.args.t.now c.fill.new.self row 6 (omega arith) (c.fill.ensures.after (λ y h. h))) in
    record {
      writes = free_writes (item_stands _) (lit< tt) (lit< tt) _ (search rules) _ _ c.header-first.ensures c.item_at-row.ensures (omega arith) blank c.set_header.ensures.writes;
      still_sized = c.set_header.ensures.still_sized;
    }
