-- A report that sums up what the commands of blocks came to, so that none of its numbers can pass the largest.
use Rattle.std.specs.Prelude.{List, ◌≡◌, ℕ, ◌*◌, ◌≤◌, length}
use Rattle.rules.specs.Commands.{Outcome}
use Rattle.answers.specs.declared.Replay.{Replay}
use Rattle.answers.specs.declared.Stop.{Stop}
use Rattle.recording.specs.Kind as kind
use Rattle.run.specs.Runs.{totalled}

-- at most 56 commands for each of its blocks
pub record Counted (r : Replay) : Type 0 where
  pub stop : Stop
  pub outcomes : List Outcome
  pub totals : r.report ≡ totalled stop outcomes
  pub commands : length outcomes ≤ kind.commands * r.blocks
