-- The row's own links first, then its neighbours'. Assumes nothing.
use native.Mathlib.Omega.{arith}
use Rattle.links.proofs.Places.insert.Goals as goal

pub turn-requires : goal.turn-requires
turn-requires c =
    record {
      ends = (omega arith, omega arith);
      reach = λ n. (omega (arith, (c.requires.reach n).0), omega (arith, (c.requires.reach n).1));
      later_reach = λ n. (omega (arith, (c.requires.later_reach n).0), omega (arith, (c.requires.later_reach n).1));
    }

pub returns : goal.returns
returns c = cc
