-- `order::lower` meets its contract: the light end that was found is in the list, and the client does not stand just before it. Assumes nothing.
use mathlib.Core.List.{List}
use mathlib.Core.Path.{◌≡◌}
use Prim.Native.Nat.{ℕ, ◌≤◌, ◌<◌}
use native.Mathlib.Omega.{arith}
use lib.Dec.{lit<}
use Rattle.order.proofs.Counts.{client_row_lem, count_in, count_known, lower_asks, lower_writes}
use Rattle.table.specs.Kind as kind
use Rattle.table.specs.Regions.{Sized, client_word}
use Rattle.order.specs.Asks.{Drawn, Listed}
use Rattle.order.proofs.lower.Goals as goal

-- the row, and the count
known : {q r n : ℕ} {t : List ℕ} → Sized q t → Drawn q t (Listed q r (λ m. 2 ≤ m)) → n ≡ client_word t q r kind.count → (r < q) × (2 ≤ n) × (n ≤ q)
known z D e = (client_row_lem z.small D, count_known z.small D e, (count_in z.small D e).1)

pub overflow_sub-k : goal.overflow_sub-k
overflow_sub-k c = (known c.requires.sized c.requires.drawn c.requires.n_value).1

pub light_end-l-requires : goal.light_end-l-requires
light_end-l-requires c = record { sized = c.requires.sized; k_bound = omega (arith, known c.requires.sized c.requires.drawn c.requires.n_value) }

pub leave_group-requires : goal.leave_group-requires
leave_group-requires c = record { sized = c.requires.sized; r_lt_q = ((known c.requires.sized c.requires.drawn c.requires.n_value).0, omega (arith, known c.requires.sized c.requires.drawn c.requires.n_value)) }

pub move_before-requires : goal.move_before-requires
move_before-requires c =
    let k = lower_asks c.requires.sized.small c.requires.drawn c.requires.n_value (known c.requires.sized c.requires.drawn c.requires.n_value).1 c.light_end-l.ensures c.leave_group.ensures.writes in
    record { sized = c.leave_group.ensures.still_sized; drawn = k.0; not_lighter = k.1 }

pub overflow_sub-n : goal.overflow_sub-n
overflow_sub-n c =
    omega (arith, known c.requires.sized c.requires.drawn c.requires.n_value)

pub set_client-requires : goal.set_client-requires
set_client-requires c = record { sized = c.move_before.ensures.still_sized; r_lt_q = ((known c.requires.sized c.requires.drawn c.requires.n_value).0, lit< tt) }

pub enter_group-requires : goal.enter_group-requires
enter_group-requires c = record { sized = c.set_client.ensures.still_sized; k_lt_q = omega (arith, known c.requires.sized c.requires.drawn c.requires.n_value) }

pub returns : goal.returns
returns c = record { writes = lower_writes c.requires.sized.small c.requires.drawn c.requires.n_value (known c.requires.sized c.requires.drawn c.requires.n_value).1 c.light_end-l.ensures c.leave_group.ensures.writes c.move_before.ensures.writes c.set_client.ensures.writes c.enter_group.ensures.writes; still_sized = c.enter_group.ensures.still_sized }
