-- The sums so far are those of the first i bytes of the part. Assumes nothing.
use borrow.Author.Rules.{rules}
use Rattle.recording.proofs.Sum.{none_summed, one_summed}
use Rattle.recording.proofs.part.Goals as goal

pub loop-i-init : goal.loop-i-init
loop-i-init c = none_summed c.args.s.now c.args.from

pub loop-i-preserved : goal.loop-i-preserved
loop-i-preserved c = one_summed c.loop-i.invariant (search rules) (search rules) (search rules) (search rules)
