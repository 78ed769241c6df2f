-- The documents' refusal numbers and stops, each written down once.
use Rattle.std.specs.Prelude.{ℕ}

-- a run's stops that are no refusals: no bytes left, and the budget is spent
abbrev pub ended : ℕ
ended = 0

abbrev pub spent : ℕ
spent = 1

-- Q out of range
abbrev pub out_of_range : ℕ
out_of_range = 1

-- too few words
abbrev pub too_short : ℕ
too_short = 2

-- the table is not sound
abbrev pub unsound : ℕ
unsound = 3

-- the output has too few words
abbrev pub no_room : ℕ
no_room = 4

-- nobody waits
abbrev pub nobody_waits : ℕ
nobody_waits = 5

-- no such client
abbrev pub no_client : ℕ
no_client = 6

-- under 9 bytes are left, and no command
abbrev pub cut : ℕ
cut = 7

abbrev pub bad_command : ℕ
bad_command = 8

-- the printer's input is over-long
abbrev pub overlong : ℕ
overlong = 9

-- recordings, document 02: the recording is full
abbrev pub full : ℕ
full = 18

-- a block's tests, in their order: it is short, its check is wrong, its number is another, the number of its commands or an unused byte is wrong, it has a bad command
abbrev pub short_block : ℕ
short_block = 20

abbrev pub wrong_check : ℕ
wrong_check = 21

abbrev pub wrong_number : ℕ
wrong_number = 22

abbrev pub wrong_use : ℕ
wrong_use = 23

abbrev pub bad_recorded : ℕ
bad_recorded = 24
