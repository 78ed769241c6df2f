-- The recording's kind: each number of the format, written down once. The code has them as constants of `Block`.
use Rattle.std.specs.Prelude.{ℕ, ◌*◌}

-- the most commands of a block
abbrev pub commands : ℕ
commands = 56

-- where a block has the number of commands used, its own number and its check: two bytes, two and four
abbrev pub used_at : ℕ
used_at = 504

abbrev pub number_at : ℕ
number_at = 506

abbrev pub check_at : ℕ
check_at = 508

-- bytes of a block
abbrev pub block_bytes : ℕ
block_bytes = 512

-- the most blocks of a recording
abbrev pub blocks : ℕ
blocks = 65536

-- and the most commands
abbrev pub most_commands : ℕ
most_commands = commands * blocks

-- the largest check
abbrev pub largest_check : ℕ
largest_check = 32967930
