-- Two links, one after the other: the first leaves the length as it was. Assumes nothing.
use native.Mathlib.Omega.{arith}
use borrow.Author.Rules.{rules}
use Rattle.links.proofs.Places.turn.Goals as goal

pub put_link-requires : goal.put_link-requires
put_link-requires c = record { end_in_bounds = c.requires.ends.0; f_in_bounds = λ n. (c.requires.reach n).1 }

pub put_link-requires-2 : goal.put_link-requires-2
put_link-requires-2 c = record { end_in_bounds = search rules; f_in_bounds = λ n. omega (arith, (c.requires.later_reach n).0) }

pub returns : goal.returns
returns c = cc
