-- Laws of the written format: how long its parts are, and what one command more adds to a recording.
use mathlib.Core.List.{List, [], ◌∷◌, ◌++◌, append_assoc, append-nil}
use mathlib.Core.Path.{◌≡◌, refl, sym, ap, ◌∙◌}
use Prim.Native.Nat.{ℕ, zero, suc, ◌+◌, ◌*◌, ◌-◌, ◌/◌, ◌%◌, ◌≤◌, ◌<◌}
use native.Mathlib.Nat.{zero-add, add-zero, suc-add}
use native.Mathlib.Omega.{arith}
use lib.ListN.{length, take, drop, length-append, length-take, length-drop, length-replicate, drop_of_length-le}
use lib.Seq.{take_all, take_at, take-append-le, drop-append-le, drop-drop}
use Rattle.rules.specs.Commands.{Command, arriving, sliding, serving}
use Rattle.rules.specs.Run.{command_bytes}
use Rattle.recording.specs.Kind as kind
use Rattle.recording.specs.Block.{bytes_of, all_bytes, sealed, block, blocks_from, blocks_for, recording}

-- nine bytes a command
pub bytes_length : (c : Command) → length (bytes_of c) ≡ command_bytes
bytes_length (arriving r) = refl
bytes_length (sliding r) = refl
bytes_length serving = refl

pub all_bytes_length : (cs : List Command) → length (all_bytes cs) ≡ command_bytes * length cs
all_bytes_length [] = refl
all_bytes_length (c ∷ cs) = omega (arith, length-append (bytes_of c) (all_bytes cs), bytes_length c, all_bytes_length cs)

all_append : (cs ds : List Command) → all_bytes (cs ++ ds) ≡ all_bytes cs ++ all_bytes ds
all_append [] ds = refl
all_append (c ∷ cs) ds = ap (λ (s : List ℕ). bytes_of c ++ s) (all_append cs ds) ∙ sym (append_assoc (bytes_of c) (all_bytes cs) (all_bytes ds))

-- a block has its bytes, and begins with its commands
pub sealed_length : (c : List ℕ) (used n : ℕ) → length c ≤ kind.used_at → length (sealed c used n) ≡ kind.block_bytes
sealed_length c used n h = simp (length-append, length-replicate) (omega arith)

pub sealed_front : (c : List ℕ) (used n k : ℕ) → length c ≡ k → take k (sealed c used n) ≡ c
sealed_front c used n k e = simp append_assoc (take_at c _ k e)

pub block_length : (cs : List Command) (n : ℕ) → length cs ≤ kind.commands → length (block cs n) ≡ kind.block_bytes
block_length cs n h = sealed_length (all_bytes cs) (length cs) n (omega (arith, all_bytes_length cs))

pub blocks_length : (k n : ℕ) (cs : List Command) → length (blocks_from k n cs) ≡ kind.block_bytes * k
unfolding blocks_from
blocks_length zero n cs = refl
blocks_length (suc k) n cs =
    let first : List Command = take kind.commands cs in
    let rest : List Command = drop kind.commands cs in
    omega (arith, length-append (block first n) (blocks_from k (suc n) rest), block_length first n (simp length-take (omega arith)), blocks_length k (suc n) rest)

-- blocks, and those behind them
pub blocks_split : (j k n : ℕ) (cs : List Command) → blocks_from (j + k) n cs ≡ blocks_from j n cs ++ blocks_from k (n + j) (drop (kind.commands * j) cs)
unfolding blocks_from
blocks_split zero k n cs = rw (zero-add, add-zero)
blocks_split (suc j) k n cs =
    let first : List ℕ = block (take kind.commands cs) n in
    let rest : List Command = drop kind.commands cs in
    let commands : kind.commands + kind.commands * j ≡ kind.commands * suc j = omega arith in
    let behind : drop (kind.commands * j) rest ≡ drop (kind.commands * suc j) cs = drop-drop (kind.commands * j) kind.commands cs ∙ ap (λ (i : ℕ). drop i cs) commands in
    let number : suc n + j ≡ n + suc j = omega arith in
    ap (λ (i : ℕ). blocks_from i n cs) (suc-add j k)
    ∙ ap (λ (s : List ℕ). first ++ s) (blocks_split j k (suc n) rest)
    ∙ sym (append_assoc first (blocks_from j (suc n) rest) (blocks_from k (suc n + j) (drop (kind.commands * j) rest)))
    ∙ (λ i. first ++ blocks_from j (suc n) rest ++ blocks_from k (number i) (behind i))

-- commands behind full blocks leave these
blocks_front : (j n : ℕ) (cs ds : List Command) → kind.commands * j ≤ length cs → blocks_from j n (cs ++ ds) ≡ blocks_from j n cs
unfolding blocks_from
blocks_front zero n cs ds h = refl
blocks_front (suc j) n cs ds h =
    let some : kind.commands ≤ length cs = omega arith in
    let more : kind.commands * j ≤ length (drop kind.commands cs) = simp length-drop (omega arith) in
    let first : take kind.commands (cs ++ ds) ≡ take kind.commands cs = take-append-le kind.commands cs ds some in
    let rest : drop kind.commands (cs ++ ds) ≡ drop kind.commands cs ++ ds = drop-append-le kind.commands cs ds some in
    (λ i. block (first i) n ++ blocks_from j (suc n) (rest i))
    ∙ ap (λ (s : List ℕ). block (take kind.commands cs) n ++ s) (blocks_front j (suc n) (drop kind.commands cs) ds more)

-- the number of the last block of n commands, for n from 1 on
abbrev pub last_of : ℕ → ℕ
last_of n = (n - 1) / kind.commands

-- and that block
abbrev pub last_block : List Command → List ℕ
last_block cs = block (drop (kind.commands * last_of (length cs)) cs) (last_of (length cs))

module _ (cs : List Command) where
  last_few : length (drop (kind.commands * last_of (length cs)) cs) ≤ kind.commands
  last_few = simp length-drop (omega arith)

  recording_last : 0 < length cs → recording cs ≡ blocks_from (last_of (length cs)) 0 cs ++ last_block cs
  unfolding blocks_from
  recording_last h =
      let k : ℕ = last_of (length cs) in
      let last : take kind.commands (drop (kind.commands * k) cs) ≡ drop (kind.commands * k) cs = take_all kind.commands (drop (kind.commands * k) cs) last_few in
      let count : blocks_for (length cs) ≡ k + 1 = omega arith in
      ap (λ (j : ℕ). blocks_from j 0 cs) count
      ∙ blocks_split k 1 0 cs
      ∙ (λ i. blocks_from k 0 cs ++ append-nil (block (last i) (zero-add k i)) i)

module _ (cs : List Command) where
  -- a recording begins with its full blocks, and has at most one more
  abbrev full : ℕ
  full = length cs / kind.commands

  recording_front : take (kind.block_bytes * full) (recording cs) ≡ blocks_from full 0 cs
  recording_front =
      let more : ℕ = blocks_for (length cs) - full in
      let split : full + more ≡ blocks_for (length cs) = omega arith in
      ap (λ (k : ℕ). take (kind.block_bytes * full) (blocks_from k 0 cs)) (sym split)
      ∙ ap (λ (s : List ℕ). take (kind.block_bytes * full) s) (blocks_split full more 0 cs)
      ∙ take_at (blocks_from full 0 cs) _ (kind.block_bytes * full) (blocks_length full 0 cs)

  recording_end : drop (kind.block_bytes * full + kind.block_bytes) (recording cs) ≡ []
  recording_end =
      let short : length (recording cs) ≤ kind.block_bytes * full + kind.block_bytes = omega (arith, blocks_length (blocks_for (length cs)) 0 cs) in
      drop_of_length-le (recording cs) short

  -- one command more goes into the block behind the full ones
  module _ (c : Command) where
    abbrev more : List Command
    more = cs ++ (c ∷ [])

    more_last : last_of (length more) ≡ full
    more_last = omega (arith, length-append cs (c ∷ []))

    -- that block, stored behind these, makes the recording of all
    pub stored_last : take (kind.block_bytes * full) (recording cs) ++ last_block more ++ drop (kind.block_bytes * full + kind.block_bytes) (recording cs) ≡ recording more
    stored_last =
        let some : 0 < length more = omega (arith, length-append cs (c ∷ [])) in
        let front : blocks_from (last_of (length more)) 0 more ≡ blocks_from full 0 cs =
        ap (λ (k : ℕ). blocks_from k 0 more) more_last ∙ blocks_front full 0 cs (c ∷ []) (omega arith) in
        simp (recording_front, recording_end, append-nil) (ap (λ (s : List ℕ). s ++ last_block more) (sym front) ∙ sym (recording_last more some))

    -- its bytes: those of the commands behind the full blocks, and of this one
    pub sealed_last : sealed (all_bytes (drop (kind.commands * full) cs) ++ bytes_of c) (suc (length cs % kind.commands)) full ≡ last_block more
    sealed_last =
        let part : List Command = drop (kind.commands * full) cs in
        let behind : drop (kind.commands * last_of (length more)) more ≡ part ++ (c ∷ []) =
        ap (λ (k : ℕ). drop (kind.commands * k) more) more_last ∙ drop-append-le (kind.commands * full) cs (c ∷ []) (omega arith) in
        let bytes : all_bytes (part ++ (c ∷ [])) ≡ all_bytes part ++ bytes_of c = all_append part (c ∷ []) ∙ ap (λ (s : List ℕ). all_bytes part ++ s) (append-nil (bytes_of c)) in
        let used : length (part ++ (c ∷ [])) ≡ suc (length cs % kind.commands) = simp (length-append, length-drop) (omega arith) in
        sym ((λ i. block (behind i) (more_last i)) ∙ (λ i. sealed (bytes i) (used i) full))

-- the block in the making begins with the commands behind the full blocks: none where these are all, else those of the last block
pub begun : (cs : List Command) (b : List ℕ) → (0 < length cs → b ≡ last_block cs)
    → take (command_bytes * (length cs % kind.commands)) b ≡ all_bytes (drop (kind.commands * (length cs / kind.commands)) cs)
begun cs b last = go (length cs % kind.commands) refl
  where
    go : (r : ℕ) → length cs % kind.commands ≡ r → take (command_bytes * r) b ≡ all_bytes (drop (kind.commands * (length cs / kind.commands)) cs)
    go zero e =
        let all : length cs ≤ kind.commands * (length cs / kind.commands) = omega arith in
        ap all_bytes (sym (drop_of_length-le cs all))
    go (suc r) e =
        let k : last_of (length cs) ≡ length cs / kind.commands = omega arith in
        let part : List Command = drop (kind.commands * (length cs / kind.commands)) cs in
        let bytes : length (all_bytes part) ≡ command_bytes * suc r = all_bytes_length part ∙ simp length-drop (omega arith) in
        let some : 0 < length cs = omega arith in
        ap (λ (s : List ℕ). take (command_bytes * suc r) s) (last some ∙ ap (λ (j : ℕ). block (drop (kind.commands * j) cs) j) k)
        ∙ sealed_front (all_bytes part) (length part) (length cs / kind.commands) (command_bytes * suc r) bytes
