-- A piece a turn, which has all the blocks that were asked for.
use Rattle.std.proofs.Common.{◌-◌, ◌≤◌}
use Rattle.replay.specs.Counted.{Counted}
use Rattle.replay.proofs.replay.Given as goal

abbrev pub invariant-loop-all : goal.invariant-loop-all
invariant-loop-all g l = Counted l.all × (l.all.blocks ≤ l.most)

abbrev pub decreases-loop-all : goal.decreases-loop-all
decreases-loop-all g l = l.most - l.all.blocks
