-- A recording: the bytes of a block, of a list of commands, and the first test that a block fails.
use Rattle.std.specs.Prelude.{Bool, true, cond, not, ◌&&◌, List, [], ◌∷◌, ◌++◌, ℕ, zero, suc, ◌+◌, ◌*◌, ◌-◌, ◌/◌, ◌%◌, ◌<◌, ltb, leb, eqb, length, get_or, set, take, drop, replicate}
use Rattle.std.proofs.Math.Seq.{slice}
use Rattle.rules.specs.Numbers as number
use Rattle.rules.specs.Rows.{All}
use Rattle.rules.specs.Commands.{Command, arriving, sliding, serving}
use Rattle.rules.specs.Run.{command_bytes, four_bytes, stop, carried}
pub use Rattle.command.specs.Bytes.{four_of, nine, bytes_of}
use Rattle.recording.specs.Kind as kind

-- a number in two bytes, lowest first
abbrev pub two_of : ℕ → List ℕ
two_of x = x % 256 ∷ x / 256 % 256 ∷ []

-- the bytes of commands
abbrev pub all_bytes : List Command → List ℕ
all_bytes [] = []
all_bytes (c ∷ cs) = bytes_of c ++ all_bytes cs

-- the id and the ticket of a command fit into four bytes
abbrev pub Fits : Command → Type 0
Fits (arriving r) = (r.id < 4294967296) × (r.ticket < 4294967296)
Fits (sliding r) = (r.id < 4294967296) × (r.ticket < 4294967296)
Fits serving = Unit {0}

-- and of all commands
abbrev pub AllFit : List Command → Type 0
AllFit = All Fits

-- the sum of (place + 1) × byte, from place p on
unfoldable pub weighed : ℕ → List ℕ → ℕ
weighed p [] = 0
weighed p (b ∷ s) = suc p * b + weighed (suc p) s

-- the check of a block: that of its first 508 bytes
abbrev pub check_of : List ℕ → ℕ
check_of s = weighed 0 (take kind.check_at s)

-- bytes with their check behind them
abbrev pub checked : List ℕ → List ℕ
checked s = s ++ four_of (weighed 0 s)

-- the block whose used command bytes are c: zeros behind them, how many commands they are, the block's number, the check
abbrev pub sealed : List ℕ → ℕ → ℕ → List ℕ
sealed c used n = checked ((c ++ replicate (kind.used_at - length c) 0) ++ two_of used ++ two_of n)

-- the block of commands with a number
abbrev pub block : List Command → ℕ → List ℕ
block cs n = sealed (all_bytes cs) (length cs) n

-- so many blocks of commands, 56 in each but the last, numbered from n on
unfoldable pub blocks_from : ℕ → ℕ → List Command → List ℕ
blocks_from zero n cs = []
blocks_from (suc k) n cs = block (take kind.commands cs) n ++ blocks_from k (suc n) (drop kind.commands cs)

-- how many blocks so many commands take
abbrev pub blocks_for : ℕ → ℕ
blocks_for n = (n + (kind.commands - 1)) / kind.commands

-- the recording of commands
abbrev pub recording : List Command → List ℕ
recording cs = blocks_from (blocks_for (length cs)) 0 cs

-- what a block says: the number of commands used, its own number, its check
abbrev pub two_bytes : List ℕ → ℕ
two_bytes s = get_or s 0 0 + 256 * get_or s 1 0

abbrev pub used_in : List ℕ → ℕ
used_in s = two_bytes (drop kind.used_at s)

abbrev pub number_in : List ℕ → ℕ
number_in s = two_bytes (drop kind.number_at s)

abbrev pub check_in : List ℕ → ℕ
check_in s = four_bytes (drop kind.check_at s)

-- its used command bytes, and the unused ones
abbrev pub used_bytes : List ℕ → List ℕ
used_bytes s = take (command_bytes * used_in s) s

abbrev pub unused_bytes : List ℕ → List ℕ
unused_bytes s = slice (command_bytes * used_in s) kind.used_at s

-- all of these bytes are 0
unfoldable pub zeros : List ℕ → Bool
zeros [] = true
zeros (b ∷ s) = eqb b 0 && zeros s

-- 1 to 56 commands are used, and the unused bytes are 0
abbrev pub used_right : List ℕ → Bool
used_right s = leb 1 (used_in s) && (leb (used_in s) kind.commands && zeros (unused_bytes s))

-- a run would carry out all the used commands
abbrev pub all_known : List ℕ → Bool
all_known s = eqb (stop (used_in s) (used_bytes s)) number.ended

-- the first test that fails of a block that should have the number n; 0 for none
unfoldable pub failing : ℕ → List ℕ → ℕ
failing n s =
    cond (ltb (length s) kind.block_bytes) number.short_block
    (cond (not (eqb (check_of s) (check_in s))) number.wrong_check
    (cond (not (eqb (number_in s) n)) number.wrong_number
    (cond (not (used_right s)) number.wrong_use
    (cond (not (all_known s)) number.bad_recorded 0))))

-- the commands of a block
abbrev pub commands_in : List ℕ → List Command
commands_in s = carried (used_in s) (used_bytes s)

-- two bytes exchanged
abbrev pub exchanged : ℕ → ℕ → List ℕ → List ℕ
exchanged p r b = set (set b p (get_or b r 0)) r (get_or b p 0)
