-- Before turn k the words of the count rows below k are counted.
use native.Mathlib.Omega.{arith}
use Rattle.table.specs.Regions.{regions}
use Rattle.table.specs.Owners.{order_words}
use Rattle.order_check.proofs.Counted.{holds_few, held_few}
use Rattle.order_check.proofs.rows_held.Goals as goal

pub overflow_add-n-in-loop-k : goal.overflow_add-n-in-loop-k
overflow_add-n-in-loop-k c =
    omega (arith, c.one_if_row.ensures, c.one_if_row-in-loop-k.ensures, holds_few c.count_end-light.result, holds_few c.count_end-heavy.result, held_few (order_words (regions c.args.q c.args.t.now)) c.loop-k.k)
