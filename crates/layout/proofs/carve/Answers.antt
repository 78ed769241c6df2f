-- The part stands where it is promised to.
use Rattle.std.proofs.Common.{rules}
use Rattle.layout.proofs.Calls.{its_place}
use Rattle.layout.proofs.carve.Goals as goal

pub returns-clause-place : goal.returns-clause-place
returns-clause-place c = its_place c.args.pool.now c.args.start c.args.q c.unwrap_or-part.result (search rules) c.args.pool.ref_ptr
