-- The recorder: its refusal number, and the block in the making after a call, for a recording that has n commands so far.
use Rattle.std.specs.Prelude.{cond, List, ◌++◌, ℕ, suc, ◌*◌, ◌/◌, ◌%◌, ltb, eqb, take}
use Rattle.rules.specs.Numbers as number
use Rattle.rules.specs.Run.{command_bytes, known}
use Rattle.recording.specs.Kind as kind
use Rattle.recording.specs.Block.{nine, sealed}

-- 24 where kind, id and ticket are no command, then 18 where all blocks are full, else 0
unfoldable pub record_number : ℕ → ℕ → ℕ → ℕ → ℕ
record_number n k i t = cond (known k i t) (cond (ltb n kind.most_commands) 0 number.full) number.bad_recorded

-- the block b with one command more: the earlier ones of its block as they are, this one behind them
abbrev pub one_more : ℕ → ℕ → ℕ → ℕ → List ℕ → List ℕ
one_more n k i t b = sealed (take (command_bytes * (n % kind.commands)) b ++ nine k i t) (suc (n % kind.commands)) (n / kind.commands)

-- the block after a call: as it was where the call is refused
unfoldable pub record_block : ℕ → ℕ → ℕ → ℕ → List ℕ → List ℕ
record_block n k i t b = cond (eqb (record_number n k i t) 0) (one_more n k i t b) b
