-- `order::raise` meets its contract: the heavier end of the client's group is in the list, so the client can come to stand after it. Assumes nothing.
use mathlib.Core.List.{List}
use mathlib.Core.Path.{◌≡◌}
use Prim.Native.Nat.{ℕ, ◌≤◌, ◌<◌}
use native.Mathlib.Omega.{arith}
use lib.Dec.{lit<}
use Rattle.order.proofs.Counts.{client_row_lem, count_in, count_known, raise_asks, raise_writes}
use Rattle.table.specs.Kind as kind
use Rattle.table.specs.Regions.{Sized, client_word}
use Rattle.order.specs.Asks.{Drawn, Listed}
use Rattle.order.proofs.raise.Goals as goal

-- the row, and the count
known : {q r n : ℕ} {t : List ℕ} → Sized q t → Drawn q t (Listed q r (λ m. m < q)) → n ≡ client_word t q r kind.count → (r < q) × (1 ≤ n) × (n < q)
known z D e = (client_row_lem z.small D, (count_in z.small D e).0, count_known z.small D e)

pub overflow_sub-k : goal.overflow_sub-k
overflow_sub-k c = (known c.requires.sized c.requires.drawn c.requires.n_value).1

pub count_end-e-requires : goal.count_end-e-requires
count_end-e-requires c = record { sized = c.requires.sized; k_lt_q = (omega (arith, known c.requires.sized c.requires.drawn c.requires.n_value), lit< tt) }

pub leave_group-requires : goal.leave_group-requires
leave_group-requires c = record { sized = c.requires.sized; r_lt_q = ((known c.requires.sized c.requires.drawn c.requires.n_value).0, omega (arith, known c.requires.sized c.requires.drawn c.requires.n_value)) }

pub move_after-requires : goal.move_after-requires
move_after-requires c = record { sized = c.leave_group.ensures.still_sized; drawn = raise_asks c.requires.sized.small c.requires.drawn c.requires.n_value c.count_end-e.ensures c.leave_group.ensures.writes }

pub overflow_add-n : goal.overflow_add-n
overflow_add-n c =
    omega (arith, known c.requires.sized c.requires.drawn c.requires.n_value, c.requires.sized.small)

pub set_client-requires : goal.set_client-requires
set_client-requires c = record { sized = c.move_after.ensures.still_sized; r_lt_q = ((known c.requires.sized c.requires.drawn c.requires.n_value).0, lit< tt) }

pub enter_group-requires : goal.enter_group-requires
enter_group-requires c = record { sized = c.set_client.ensures.still_sized; k_lt_q = omega (arith, known c.requires.sized c.requires.drawn c.requires.n_value) }

pub returns : goal.returns
returns c = record { writes = raise_writes c.requires.sized.small c.requires.drawn c.requires.n_value c.count_end-e.ensures c.leave_group.ensures.writes c.move_after.ensures.writes c.set_client.ensures.writes c.enter_group.ensures.writes; still_sized = c.enter_group.ensures.still_sized }
