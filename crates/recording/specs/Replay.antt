-- What a replay carries out: the commands of block after block, up to the first block that fails a test.
use Rattle.std.specs.Prelude.{cond, List, [], ◌∷◌, ◌++◌, ℕ, zero, suc, eqb, length, take, drop}
use Rattle.rules.specs.Numbers as number
use Rattle.rules.specs.Commands.{Command}
use Rattle.recording.specs.Kind as kind
use Rattle.recording.specs.Block.{failing, commands_in}

-- the bytes in at most k pieces of a block each, of which the last may be short
unfoldable pub pieces_up_to : ℕ → List ℕ → List (List ℕ)
pieces_up_to zero s = []
pieces_up_to (suc k) s = cond (eqb (length s) 0) [] (take kind.block_bytes s ∷ pieces_up_to k (drop kind.block_bytes s))

-- all of them: there are no more pieces than bytes
abbrev pub pieces : List ℕ → List (List ℕ)
pieces s = pieces_up_to (length s) s

-- of pieces that should be numbered from n on: the number at which a replay stops
unfoldable pub stop_in : ℕ → List (List ℕ) → ℕ
stop_in n [] = number.ended
stop_in n (b ∷ bs) = cond (eqb (failing n b) 0) (stop_in (suc n) bs) (failing n b)

-- how many blocks pass before it
unfoldable pub passed_in : ℕ → List (List ℕ) → ℕ
passed_in n [] = 0
passed_in n (b ∷ bs) = cond (eqb (failing n b) 0) (suc (passed_in (suc n) bs)) 0

-- their commands
unfoldable pub replayed_in : ℕ → List (List ℕ) → List Command
replayed_in n [] = []
replayed_in n (b ∷ bs) = cond (eqb (failing n b) 0) (commands_in b ++ replayed_in (suc n) bs) []

-- the same of the bytes of a recording, whose first block should have the number `first`
abbrev pub replay_stop : ℕ → List ℕ → ℕ
replay_stop first s = stop_in first (pieces s)

abbrev pub replay_blocks : ℕ → List ℕ → ℕ
replay_blocks first s = passed_in first (pieces s)

abbrev pub replayed : ℕ → List ℕ → List Command
replayed first s = replayed_in first (pieces s)
