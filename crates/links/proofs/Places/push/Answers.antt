-- Before none: there is no row to reach there. Assumes nothing.
use mathlib.Core.Path.{refl}
use borrow.Author.Rules.{rules}
use Rattle.links.proofs.Places.push.Goals as goal

pub insert-requires : goal.insert-requires
insert-requires c = record { ends = c.requires.ends; row = c.requires.row; reach = c.requires.reach; later_reach = λ n. absurd (n refl) }

pub returns : goal.returns
returns c = search rules
