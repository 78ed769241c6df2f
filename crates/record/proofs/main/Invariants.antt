-- A block a turn, up to the last one.
use Rattle.std.proofs.Common.{◌-◌, ◌≤◌}
use Rattle.recording.specs.Kind as kind
use Rattle.record.proofs.main.Given as goal

abbrev pub invariant-loop-rt : goal.invariant-loop-rt
invariant-loop-rt l = l.number ≤ kind.blocks

abbrev pub decreases-loop-rt : goal.decreases-loop-rt
decreases-loop-rt l = kind.blocks - l.number
