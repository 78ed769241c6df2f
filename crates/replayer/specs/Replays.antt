-- What a replay reports: its stop and blocks by the format's tests, and of the commands that it carries out what a run reports.
use Rattle.std.specs.Prelude.{◌≡◌, List, [], ℕ, ◌+◌, ◌≤◌, ◌<◌, take, drop}
use Rattle.rules.specs.History.{Waiting, Limits}
use Rattle.rules.specs.Run.{outcomes}
use Rattle.rules.specs.Picture.{Picture, limits_of, plain}
use Rattle.answers.specs.declared.Report.{Report}
use Rattle.answers.specs.declared.Replay.{Replay}
use Rattle.answers.specs.declared.Stop.{Stop}
use Rattle.answers.specs.Offered.{replay_stop}
use Rattle.recording.specs.Kind as kind
use Rattle.recording.specs.Block.{failing}
use Rattle.recording.specs.Replay as format
use Rattle.recording.specs.Replay.{replay_blocks, replayed}
use Rattle.run.specs.Seen.{largest}
use Rattle.run.specs.Runs.{totalled}

-- the report on the bytes s, whose first block should have the number `first`, where w waits within limits
abbrev pub replay_of : Limits → Waiting → ℕ → List ℕ → Replay
replay_of L w first s = record { blocks = replay_blocks first s; report = totalled (replay_stop (format.replay_stop first s)) (outcomes L w (replayed first s)) }

-- from a picture
abbrev pub replay_from : Picture → ℕ → List ℕ → Replay
replay_from P first s = replay_of (limits_of P) (plain P) first s

-- a report with a further one behind it, whose stop it has
abbrev pub both_of : Report → Report → Report
both_of a b =
    record {
      stop = b.stop;
      done = a.done + b.done;
      joined = a.joined + b.joined;
      evicted = a.evicted + b.evicted;
      passed = a.passed + b.passed;
      served = a.served + b.served;
      turned = a.turned + b.turned;
      idle = a.idle + b.idle;
    }

-- none of its numbers passes the largest
pub record BothFit (a b : Report) : Type 0 where
  pub done : a.done + b.done ≤ largest
  pub joined : a.joined + b.joined ≤ largest
  pub evicted : a.evicted + b.evicted ≤ largest
  pub passed : a.passed + b.passed ≤ largest
  pub served : a.served + b.served ≤ largest
  pub turned : a.turned + b.turned ≤ largest
  pub idle : a.idle + b.idle ≤ largest

-- the report of no command, with a stop
abbrev pub nothing_with : Stop → Report
nothing_with stop = totalled stop []

-- bytes begin with a block that passes as the one of this number, and others are behind it
pub record BlockFirst (number : ℕ) (bytes block behind : List ℕ) : Type 0 where
  pub front : block ≡ take kind.block_bytes bytes
  pub rest : behind ≡ drop kind.block_bytes bytes
  pub passes : failing number block ≡ 0
  pub small : number < kind.blocks
