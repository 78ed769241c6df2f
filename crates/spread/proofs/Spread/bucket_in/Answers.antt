-- The four entries are those of the rule, and each arm gives the remainder of their sum. Assumes nothing.
use native.Mathlib.Omega.{arith}
use Rattle.spread.proofs.Rule.{low, rest_fits, as_it_is, less_q}
use Rattle.spread.proofs.Spread.bucket_in.Goals as goal

pub overflow_cast-x : goal.overflow_cast-x
overflow_cast-x c =
    omega (arith, low _ _ c.entry-a.ensures, low _ _ c.entry-b.ensures, low _ _ c.entry-c.ensures, low _ _ c.entry-d.ensures)

pub overflow_cast-x-3 : goal.overflow_cast-x-3
overflow_cast-x-3 c = (rest_fits _ 0 _ c.requires.0 c.requires.1).0

pub overflow_mul-x : goal.overflow_mul-x
overflow_mul-x c = (rest_fits _ 0 _ c.requires.0 c.requires.1).1

pub overflow_add-x : goal.overflow_add-x
overflow_add-x c = (rest_fits _ _ _ c.requires.0 c.requires.1).2

pub returns-then-x-q : goal.returns-then-x-q
returns-then-x-q c = let k = as_it_is _ _ _ _ _ c.entry-a.ensures c.entry-b.ensures c.entry-c.ensures c.entry-d.ensures _ c.if-x-q.true in record { value = k.0; upper_bound = k.1 }

pub returns-else-x-q : goal.returns-else-x-q
returns-else-x-q c = let k = less_q _ _ _ _ _ c.entry-a.ensures c.entry-b.ensures c.entry-c.ensures c.entry-d.ensures _ c.requires.0 c.if-x-q.false in record { value = k.0; upper_bound = k.1 }
