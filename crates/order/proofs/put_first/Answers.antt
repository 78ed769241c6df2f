-- `order::put_first` meets its contract: links, count and group, one after the other. Assumes nothing.
use mathlib.Core.Path.{refl}
use borrow.Author.Rules.{rules}
use Rattle.order.proofs.Writes.{first_writes}
use Rattle.order.proofs.put_first.Goals as goal

pub insert_client-requires : goal.insert_client-requires
insert_client-requires c = record { sized = c.requires.sized; r_lt_q = c.requires.r_lt_q; link = λ n. absurd (n refl); later_link = rw c.header-l.ensures c.requires.link }

pub returns : goal.returns
returns c = search (first_writes, rules)
