-- One row needs no test; a short chain and a long one have their own.
use native.Mathlib.Omega.{arith}
use Rattle.rules.proofs.Tells.{tells_yes}
use Rattle.lookup.specs.Inside.Reading.{id_of, from}
use Rattle.lookup.proofs.Ids.{owns_one}
use Rattle.lookup.proofs.own_ids.Goals as goal

pub returns-then-n-le1 : goal.returns-then-n-le1
returns-then-n-le1 c =
    tells_yes (owns_one (id_of c.args.q c.args.t.now) (from c.args.q c.args.t.now c.args.first) (omega arith))
