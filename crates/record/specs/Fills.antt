-- What comes of the command bytes that are read for one block: the block that they leave, and what is refused behind it.
use Rattle.std.specs.Prelude.{cond, List, ◌≡◌, ℕ, ◌+◌, ◌*◌, ◌≤◌, ◌<◌, eqb, ltb, length, take, drop}
use Rattle.rules.specs.Numbers as number
use Rattle.rules.specs.Run.{command_bytes, kind_of, id_in, ticket_in}
use Rattle.answers.specs.Numbers.{stop_number}
use Rattle.recording.specs.Kind as kind
use Rattle.recording.specs.Block.{sealed}
use Rattle.recorder.specs.Record.{record_number}
use Rattle.record.specs.declared.Filled.{Filled}

-- why the front of the bytes is refused, behind n commands: it is no whole command, or by the recorder; 0 where there are no bytes
abbrev pub refused_at : ℕ → List ℕ → ℕ
refused_at n s =
    cond (eqb (length s) 0) number.ended (cond (ltb (length s) command_bytes) number.cut (record_number n (kind_of s) (id_in s) (ticket_in s)))

-- the bytes s for the block n came to r, and left the block b
pub record Fills (n : ℕ) (s : List ℕ) (r : Filled) (b : List ℕ) : Type 0 where
  pub few : r.commands ≤ kind.commands
  pub room : kind.commands * n + r.commands ≤ kind.most_commands
  pub long : kind.block_bytes ≡ length b
  -- its commands are the bytes as they came
  pub bytes : 0 < r.commands → b ≡ sealed (take (command_bytes * r.commands) s) r.commands n
  -- what follows them is refused, and where nothing is, nothing follows
  pub refused : stop_number r.stop ≡ refused_at (kind.commands * n + r.commands) (drop (command_bytes * r.commands) s)
  pub all : stop_number r.stop ≡ 0 → length s ≡ command_bytes * r.commands
