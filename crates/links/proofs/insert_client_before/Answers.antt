-- The one code, by the lens of the order read from its other end. Assumes nothing.
use mathlib.Core.Path.{ap, ◌∙◌}
use lib.Dec.{lit<}
use Rattle.links.specs.Places.{other_way}
use Rattle.links.proofs.Strands.{heaviest_lens, after_asks, after_does, before_does}
use Rattle.links.proofs.insert_client_before.Goals as goal

pub insert_after-requires : goal.insert_after-requires
insert_after-requires c = let k = after_asks (heaviest_lens _ c.requires.sized.small) (lit< tt) (c.reversed.ensures ∙ ap other_way c.order.ensures) _ _ (c.requires.sized, (c.requires.r_lt_q, (c.requires.l_lt_q, c.requires.link))) in record { ends = k.0; row = k.1.0; row_of_e = k.1.1.0; reach = k.1.1.1 }

pub returns : goal.returns
returns c = let k = before_does _ _
    (after_does (heaviest_lens _ c.requires.sized.small) (lit< tt) (c.reversed.ensures ∙ ap other_way c.order.ensures) _ _ (c.requires.sized, (c.requires.r_lt_q, (c.requires.l_lt_q, c.requires.link))) c.insert_after.ensures) in record { writes = k.0; still_sized = k.1 }
