-- The check is that of the block after the two numbers. Assumes nothing.
use Rattle.recorder.proofs.Laid.{is_sealed}
use Rattle.recorder.proofs.seal.Goals as goal

pub returns : goal.returns
returns c =
    is_sealed c.args.b.now _ _ _ c.args.used c.args.number _ c.requires c.put_two.ensures c.put_two-2.ensures c.check-sum.ensures c.put_four.ensures
