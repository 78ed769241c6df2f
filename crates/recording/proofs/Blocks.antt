-- What a recorder writes passes: numbers and commands are read back from their bytes, a block passes its tests, and a replay carries out a recording's commands.
use mathlib.Core.Bool.{true}
use mathlib.Core.List.{List, [], ◌∷◌, ◌++◌, append_assoc}
use mathlib.Core.Path.{◌≡◌, refl, sym, ap, ap₂, ◌∙◌}
use Prim.Native.Nat.{ℕ, zero, suc, ◌+◌, ◌*◌, ◌-◌, ◌/◌, ◌%◌, ◌≤◌, ◌<◌}
use native.Mathlib.Nat.{zero-add, suc-add, div-div-eq-div-mul}
use native.Mathlib.Omega.{arith}
use lib.Dec.{lit<}
use lib.ListN.{length, replicate, take, drop, length-append, length-drop, length-take, length-replicate, take-append-drop}
use lib.Seq.{take_at, drop_at, take-take, take-nil, take-append_seam, drop-append_seam, slice}
use Rattle.rules.specs.History.{request}
use Rattle.rules.specs.Rows.{Below}
use Rattle.rules.specs.Commands.{Command, arriving, sliding, serving}
use Rattle.rules.specs.Run.{command_bytes, four_bytes, kind_of, id_in, ticket_in, known, command_of, stop, carried}
use Rattle.rules.proofs.Rows.{all_take, all_drop}
use Rattle.rules.proofs.Run.{ended, goes_on}
use Rattle.recording.specs.Kind as kind
use Rattle.recording.specs.Block.{two_of, four_of, bytes_of, all_bytes, Fits, AllFit, weighed, sealed, block, blocks_from, blocks_for, recording, two_bytes, used_in, number_in, check_of, check_in, used_bytes, unused_bytes, zeros, failing, commands_in}
use Rattle.recording.specs.Replay.{pieces, stop_in, passed_in, replayed_in}
use Rattle.recording.proofs.Noticed.{check_most}
use Rattle.recording.proofs.Written.{bytes_length, all_bytes_length, sealed_length, block_length}
use Rattle.recording.proofs.Pieces.{Replays, Passed, pieces_none, pieces_more, no_pieces, piece_passes, passes}

-- a number is read back from its bytes, with any behind them
two_read : (x : ℕ) (rest : List ℕ) → x < 65536 → two_bytes (two_of x ++ rest) ≡ x
two_read x rest h = omega arith

four_read : (x : ℕ) (rest : List ℕ) → x < 4294967296 → four_bytes (four_of x ++ rest) ≡ x
four_read x rest h =
    let a : x / 256 ≡ 256 * (x / 65536) + x / 256 % 256 = omega (arith, div-div-eq-div-mul x 256 256) in
    let b : x / 65536 ≡ 256 * (x / 16777216) + x / 65536 % 256 = omega (arith, div-div-eq-div-mul x 65536 256) in
    let c : x / 16777216 % 256 ≡ x / 16777216 = omega arith in
    omega arith

-- and a command from its nine
bytes_read : (c : Command) (rest : List ℕ) → Fits c → let s = bytes_of c ++ rest in (known (kind_of s) (id_in s) (ticket_in s) ≡ true) × (command_of (kind_of s) (id_in s) (ticket_in s) ≡ c)
bytes_read (arriving r) rest f = (refl, λ i. arriving (request (four_read r.id (four_of r.ticket ++ rest) f.0 i) (four_read r.ticket rest f.1 i)))
bytes_read (sliding r) rest f = (refl, λ i. sliding (request (four_read r.id (four_of r.ticket ++ rest) f.0 i) (four_read r.ticket rest f.1 i)))
bytes_read serving rest f = (refl, refl)

-- a run carries out all commands that were written one after the other
all_read : (cs : List Command) → AllFit cs → (stop (length cs) (all_bytes cs) ≡ 0) × (carried (length cs) (all_bytes cs) ≡ cs)
all_read [] f = let e = ended 0 [] refl in (e.number, e.nothing)
all_read (c ∷ cs) f =
    let s : List ℕ = bytes_of c ++ all_bytes cs in
    let n : length s ≡ command_bytes + length (all_bytes cs) = length-append (bytes_of c) (all_bytes cs) ∙ rw bytes_length in
    let r = bytes_read c (all_bytes cs) f.0 in
    let k = goes_on s (omega arith) (omega arith) (length cs) r.0 in
    let d : drop command_bytes s ≡ all_bytes cs = drop_at (bytes_of c) (all_bytes cs) command_bytes (bytes_length c) in
    let l = all_read cs f.1 in
    (k.0 ∙ rw d l.0, k.1 ∙ rw (r.1, d, l.1))

-- the bytes of commands are below 256
below_both : (s u : List ℕ) → Below 256 s → Below 256 u → Below 256 (s ++ u)
below_both [] u h k = k
below_both (b ∷ s) u h k = (h.0, below_both s u h.1 k)

zeros_below : (n : ℕ) → Below 256 (replicate n 0)
zeros_below zero = tt
zeros_below (suc n) = (lit< tt, zeros_below n)

bytes_below : (c : Command) → Below 256 (bytes_of c)
bytes_below (arriving r) = omega arith
bytes_below (sliding r) = omega arith
bytes_below serving = omega arith

all_bytes_below : (cs : List Command) → Below 256 (all_bytes cs)
all_bytes_below [] = tt
all_bytes_below (c ∷ cs) = below_both (bytes_of c) (all_bytes cs) (bytes_below c) (all_bytes_below cs)

-- the unused bytes are 0
all_zeros : (n : ℕ) → zeros (replicate n 0) ≡ true
unfolding zeros
all_zeros zero = refl
all_zeros (suc n) = all_zeros n

-- a sealed block: its parts are found where it has them
module _ (c : List ℕ) (used n : ℕ) (long : length c ≡ command_bytes * used) (few : used ≤ kind.commands) where
  abbrev front : List ℕ
  front = c ++ replicate (kind.used_at - length c) 0

  abbrev body : List ℕ
  body = front ++ two_of used ++ two_of n

  abbrev sum : List ℕ
  sum = four_of (weighed 0 body)

  abbrev whole : List ℕ
  whole = sealed c used n

  fitting : length c ≤ kind.used_at
  fitting = omega arith

  front_length : length front ≡ kind.used_at
  front_length = rw (length-append, length-replicate) (omega (arith, fitting))

  head_length : length (front ++ two_of used) ≡ kind.number_at
  head_length = rw (length-append, front_length)

  body_length : length body ≡ kind.check_at
  body_length = rw (length-append, head_length)

  head_first : whole ≡ (front ++ two_of used) ++ (two_of n ++ sum)
  head_first = append_assoc (front ++ two_of used) (two_of n) sum

  front_first : whole ≡ front ++ (two_of used ++ (two_of n ++ sum))
  front_first = head_first ∙ append_assoc front (two_of used) (two_of n ++ sum)

  used_said : used_in whole ≡ used
  used_said = ap (λ (s : List ℕ). two_bytes (drop kind.used_at s)) front_first ∙ ap two_bytes (drop_at front _ kind.used_at front_length) ∙ two_read used [] (omega arith)

  number_said : n < kind.blocks → number_in whole ≡ n
  number_said h = ap (λ (s : List ℕ). two_bytes (drop kind.number_at s)) head_first ∙ ap two_bytes (drop_at (front ++ two_of used) _ kind.number_at head_length) ∙ two_read n [] h

  -- the used bytes are the command bytes, and the unused ones 0
  used_length : command_bytes * used_in whole ≡ length c
  used_length = ap (λ (u : ℕ). command_bytes * u) used_said ∙ sym long

  front_there : take kind.used_at whole ≡ front
  front_there = ap (take kind.used_at) front_first ∙ take_at front _ kind.used_at front_length

  bytes_there : used_bytes whole ≡ c
  bytes_there =
      ap (λ (k : ℕ). take k whole) used_length
      ∙ sym (take-take (length c) kind.used_at whole fitting)
      ∙ ap (take (length c)) front_there
      ∙ take-append_seam c _

  unused_there : zeros (unused_bytes whole) ≡ true
  unused_there =
      ap (λ (k : ℕ). zeros (slice k kind.used_at whole)) used_length
      ∙ ap (λ (s : List ℕ). zeros (drop (length c) s)) front_there
      ∙ ap zeros (drop-append_seam c _)
      ∙ all_zeros (kind.used_at - length c)

  commands_there : commands_in whole ≡ carried used c
  commands_there = ap₂ carried used_said bytes_there

  sum_said : check_of whole ≡ weighed 0 body
  sum_said = ap (weighed 0) (take_at body sum kind.check_at body_length)

  module _ (below : Below 256 c) where
    whole_below : Below 256 whole
    whole_below =
        let f : Below 256 front = below_both c _ below (zeros_below (kind.used_at - length c)) in
        let b : Below 256 body = below_both (front ++ two_of used) (two_of n) (below_both front (two_of used) f (omega arith)) (omega arith) in
        below_both body sum b (omega arith)

    -- the check fits into its four bytes
    sum_there : check_of whole ≡ check_in whole
    sum_there =
        let small : weighed 0 body < 4294967296 = omega (arith, sum_said, check_most whole whole_below) in
        sum_said ∙ sym (ap four_bytes (drop_at body sum kind.check_at body_length) ∙ four_read (weighed 0 body) [] small)

    sealed_passes : 1 ≤ used → n < kind.blocks → stop used c ≡ 0 → Passed n whole
    sealed_passes some h e =
        record {
          whole = omega (arith, sealed_length c used n fitting);
          check = sum_there;
          number = number_said h;
          some = omega (arith, used_said);
          most = omega (arith, used_said);
          unused = unused_there;
          known = ap₂ stop used_said bytes_there ∙ e;
        }

-- the block of commands passes, and has them
pub block_passes : (cs : List Command) (n : ℕ) → AllFit cs → 1 ≤ length cs → length cs ≤ kind.commands → n < kind.blocks → (failing n (block cs n) ≡ 0) × (commands_in (block cs n) ≡ cs)
block_passes cs n fit some few h =
    let r = all_read cs fit in (
      passes n (block cs n) (sealed_passes (all_bytes cs) (length cs) n (all_bytes_length cs) few (all_bytes_below cs) some h r.0),
      commands_there (all_bytes cs) (length cs) n (all_bytes_length cs) few ∙ r.1,
    )

take_few : (cs : List Command) → length (take kind.commands cs) ≤ kind.commands
take_few cs = omega (arith, length-take kind.commands cs)

-- blocks: none, and one more
no_blocks : (n : ℕ) (cs : List Command) → blocks_from 0 n cs ≡ []
unfolding blocks_from
no_blocks n cs = refl

pub next_block : (k n : ℕ) (cs : List Command) → blocks_from (suc k) n cs ≡ block (take kind.commands cs) n ++ blocks_from k (suc n) (drop kind.commands cs)
unfolding blocks_from
next_block k n cs = refl

-- they have no other commands than the first 56 for each
drop_take : (m n : ℕ) (cs : List Command) → drop m (take (m + n) cs) ≡ take n (drop m cs)
drop_take zero n cs = ap (λ (k : ℕ). take k cs) (zero-add n)
drop_take (suc m) n [] = rw suc-add (sym (take-nil n))
drop_take (suc m) n (c ∷ cs) = rw suc-add (drop_take m n cs)

pub blocks_alike : (j n : ℕ) (cs : List Command) → blocks_from j n cs ≡ blocks_from j n (take (kind.commands * j) cs)
blocks_alike zero n cs = no_blocks n cs ∙ sym (no_blocks n _)
blocks_alike (suc j) n cs =
    let m : kind.commands * suc j ≡ kind.commands + kind.commands * j = omega arith in
    let ds : List Command = take (kind.commands * suc j) cs in
    let a : take kind.commands cs ≡ take kind.commands ds = sym (take-take kind.commands (kind.commands * suc j) cs (omega arith)) in
    let b : take (kind.commands * j) (drop kind.commands cs) ≡ drop kind.commands ds = sym (rw m (drop_take kind.commands (kind.commands * j) cs)) in
    next_block j n cs
    ∙ ap₂ (λ (es : List Command) (bs : List ℕ). block es n ++ bs) a (blocks_alike j (suc n) (drop kind.commands cs) ∙ ap (blocks_from j (suc n)) b)
    ∙ sym (next_block j n ds)

-- a replay carries out the commands of a recording
pub pieces_whole : (b u : List ℕ) → length b ≡ kind.block_bytes → pieces (b ++ u) ≡ b ∷ pieces u
pieces_whole b u l =
    pieces_more (b ++ u) (omega (arith, length-append b u))
    ∙ ap₂ (λ (c r : List ℕ). c ∷ pieces r) (take_at b u kind.block_bytes l) (drop_at b u kind.block_bytes l)

pub blocks_replayed : (k n : ℕ) (cs : List Command) → AllFit cs → length cs ≤ kind.commands * k → kind.commands * k < length cs + kind.commands → n + k ≤ kind.blocks
    → Replays n (pieces (blocks_from k n cs)) 0 k cs
blocks_replayed zero n [] fit full some most = rw (no_blocks n [], pieces_none [] refl) (no_pieces n)
blocks_replayed zero n (c ∷ cs) fit full some most = absurd (omega arith)
blocks_replayed (suc k) n cs fit full some most =
    let es : List Command = take kind.commands cs in
    let ds : List Command = drop kind.commands cs in
    let t = length-take kind.commands cs in
    let d = length-drop kind.commands cs in
    let e = ap pieces (next_block k n cs) ∙ pieces_whole (block es n) (blocks_from k (suc n) ds) (block_length es n (take_few cs)) in
    let b = block_passes es n (all_take Fits kind.commands cs fit) (omega arith) (omega arith) (omega arith) in
    let p = piece_passes n (block es n) (pieces (blocks_from k (suc n) ds)) b.0 in
    let l = blocks_replayed k (suc n) ds (all_drop Fits kind.commands cs fit) (omega arith) (omega arith) (omega arith) in
    record {
      stop = ap (stop_in n) e ∙ p.stop ∙ l.stop;
      blocks = ap (passed_in n) e ∙ p.blocks ∙ ap suc l.blocks;
      commands = ap (replayed_in n) e ∙ p.commands ∙ ap₂ ◌++◌ b.1 l.commands ∙ take-append-drop kind.commands cs;
    }

pub recording_replayed : (cs : List Command) → AllFit cs → length cs ≤ kind.most_commands → Replays 0 (pieces (recording cs)) 0 (blocks_for (length cs)) cs
recording_replayed cs fit most = blocks_replayed (blocks_for (length cs)) 0 cs fit (omega arith) (omega arith) (omega arith)
