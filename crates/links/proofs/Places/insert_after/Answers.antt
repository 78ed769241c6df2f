-- The two rows' own links, then the link back from the row after them. Assumes nothing.
use native.Mathlib.Omega.{arith}
use borrow.Author.Tests.{ne_eqb}
use Rattle.table.specs.Kind as kind
use Rattle.links.proofs.Places.insert_after.Goals as goal

pub put_link-requires : goal.put_link-requires
put_link-requires c = rw c.link_of-l.ensures (record { end_in_bounds = omega arith; f_in_bounds = λ n. omega (arith, (c.requires.reach n).0) })

pub returns : goal.returns
returns c =
    rw (
      ne_eqb kind.none c.args.e (λ n. omega (arith, n, c.requires.row_of_e.1)),
      c.put_link.ensures,
      c.set_link-3.ensures,
      c.set_link-2.ensures,
      c.set_link.ensures,
      c.link_of-l.ensures,
    )
