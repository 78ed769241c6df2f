-- What a replay makes of an altered recording: it stops at the first block that fails, and the blocks before it stand.
use mathlib.Core.List.{List, ◌∷◌, ◌++◌, append-nil}
use mathlib.Core.Path.{◌≡◌, sym, ap, ◌∙◌}
use Prim.Native.Nat.{ℕ, suc, ◌+◌, ◌*◌, ◌-◌, ◌/◌, ◌%◌, ◌≤◌, ◌<◌}
use native.Mathlib.Nat.{zero-add, add-zero}
use native.Mathlib.Omega.{arith}
use lib.ListN.{length, get_or, set, take, drop, length-set, length-take, length-drop, get_or-append}
use lib.Seq.{get_or-append-add, set-append_left}
use Rattle.table.proofs.Draw.{append_set}
use Rattle.rules.specs.Numbers as number
use Rattle.rules.specs.Commands.{Command}
use Rattle.rules.proofs.Rows.{all_take, all_drop}
use Rattle.recording.specs.Kind as kind
use Rattle.recording.specs.Block.{Fits, AllFit, check_of, check_in, block, blocks_from, blocks_for, recording, failing, exchanged}
use Rattle.recording.specs.Replay.{pieces}
use Rattle.recording.proofs.Noticed.{altered_noticed, exchanged_noticed}
use Rattle.recording.proofs.Written.{block_length, blocks_length, blocks_split}
use Rattle.recording.proofs.Pieces.{Replays, pieces_append, pieces_length, piece_fails, all_pass, failing_few}
use Rattle.recording.proofs.Blocks.{block_passes, next_block, blocks_alike, pieces_whole, blocks_replayed}

-- a byte in the middle of three parts, one stored there, and two exchanged there
module _ {n : ℕ} (f : List ℕ) (long : length f ≡ n) (m u : List ℕ) where
  get_middle : (i : ℕ) → i < length m → get_or (f ++ (m ++ u)) (n + i) 0 ≡ get_or m i 0
  get_middle i h = rw (← long) (get_or-append-add f (m ++ u) i 0 ∙ get_or-append m u 0 i h)

  set_middle : (i v : ℕ) → i < length m → set (f ++ (m ++ u)) (n + i) v ≡ f ++ (set m i v ++ u)
  set_middle i v h = append_set f (m ++ u) n i v long ∙ ap (λ (s : List ℕ). f ++ s) (set-append_left m u i v h)

exchanged_middle : {n : ℕ} (f : List ℕ) → length f ≡ n → (m u : List ℕ) (p r : ℕ) → p < length m → r < length m
    → exchanged (n + p) (n + r) (f ++ (m ++ u)) ≡ f ++ (exchanged p r m ++ u)
exchanged_middle f long m u p r hp hr =
    rw (get_middle f long m u p hp, get_middle f long m u r hr, set_middle f long m u p (get_or m r 0) hp)
    (set_middle f long (set m p (get_or m r 0)) u r (get_or m p 0) (rw length-set hr))

module _ (cs : List Command) (fit : AllFit cs) (most : length cs ≤ kind.most_commands) (j : ℕ) where
  abbrev start : ℕ
  start = kind.block_bytes * j

  -- the blocks before block j
  abbrev front : List ℕ
  front = blocks_from j 0 cs

  front_long : length front ≡ start
  front_long = blocks_length j 0 cs

  -- the commands from block j on
  abbrev left : List Command
  left = drop (kind.commands * j) cs

  split : (k : ℕ) → j + k ≡ blocks_for (length cs) → recording cs ≡ front ++ blocks_from k j left
  split k e = ap (λ (i : ℕ). blocks_from i 0 cs) (sym e) ∙ blocks_split j k 0 cs ∙ ap (λ (i : ℕ). front ++ blocks_from k i left) (zero-add j)

  front_replayed : j ≤ blocks_for (length cs) → Replays 0 (pieces front) 0 j (take (kind.commands * j) cs)
  front_replayed h =
      let few = length-take (kind.commands * j) cs in
      rw blocks_alike (blocks_replayed j 0 (take (kind.commands * j) cs) (all_take Fits (kind.commands * j) cs fit) (omega arith) (omega arith) (omega arith))

  -- where a block behind them fails, the replay stops there, whatever is behind it
  front_stops : j ≤ blocks_for (length cs) → (b u : List ℕ) → length b ≡ kind.block_bytes → (failing j b ≡ 0 → ⊥)
      → Replays 0 (pieces (front ++ (b ++ u))) (failing j b) j (take (kind.commands * j) cs)
  front_stops h b u long fails =
      let cut : pieces (front ++ (b ++ u)) ≡ pieces front ++ (b ∷ pieces u) =
      pieces_append j front (b ++ u) front_long ∙ ap (λ (ps : List (List ℕ)). pieces front ++ ps) (pieces_whole b u long) in
      let count : 0 + length (pieces front) ≡ j = zero-add _ ∙ pieces_length j front front_long in
      let first = front_replayed h in
      let last = piece_fails j b (pieces u) fails in
      let all = all_pass 0 (pieces front) (b ∷ pieces u) first.stop in
      rw cut (rw (count, last.stop, first.blocks, last.blocks, add-zero, first.commands, last.commands, append-nil) at all)

  -- block j as it was recorded, and those behind it
  abbrev here : List ℕ
  here = block (take kind.commands left) j

  abbrev behind : List ℕ
  behind = blocks_from (blocks_for (length cs) - suc j) (suc j) (drop kind.commands left)

  here_few : length (take kind.commands left) ≤ kind.commands
  here_few = rw length-take (omega arith)

  here_long : length here ≡ kind.block_bytes
  here_long = block_length (take kind.commands left) j here_few

  module _ (h : j < blocks_for (length cs)) where
    split_here : recording cs ≡ front ++ (here ++ behind)
    split_here =
        let k : ℕ = blocks_for (length cs) - suc j in
        split (suc k) (omega arith) ∙ ap (λ (s : List ℕ). front ++ s) (next_block k j left)

    here_right : check_of here ≡ check_in here
    here_right =
        let some : 1 ≤ length (take kind.commands left) = rw (length-take, length-drop) (omega arith) in
        let passes = block_passes (take kind.commands left) j (all_take Fits kind.commands left (all_drop Fits (kind.commands * j) cs fit)) some here_few (omega arith) in
        (failing_few j here passes.0).check

    byte_there : (p : ℕ) → p < kind.block_bytes → get_or (recording cs) (start + p) 0 ≡ get_or here p 0
    byte_there p hp = ap (λ (s : List ℕ). get_or s (start + p) 0) split_here ∙ get_middle front front_long here behind p (omega (arith, here_long))

    -- with that block altered so that its check is wrong, the replay stops there
    wrong_stops : (b s : List ℕ) → s ≡ front ++ (b ++ behind) → length b ≡ kind.block_bytes → failing j b ≡ number.wrong_check
        → Replays 0 (pieces s) number.wrong_check j (take (kind.commands * j) cs)
    wrong_stops b s whole long e = rw (whole, ← e) (front_stops (omega arith) b behind long (omega arith))

    altered_there : (p v : ℕ) → p < kind.block_bytes → (v ≡ get_or (recording cs) (start + p) 0 → ⊥)
        → Replays 0 (pieces (set (recording cs) (start + p) v)) number.wrong_check j (take (kind.commands * j) cs)
    altered_there p v hp alters =
        let whole = ap (λ (s : List ℕ). set s (start + p) v) split_here ∙ set_middle front front_long here behind p v (omega (arith, here_long)) in
        wrong_stops (set here p v) _ whole (length-set here p v ∙ here_long)
        (altered_noticed j here here_long here_right p v hp (λ e. alters (e ∙ sym (byte_there p hp))))

  -- two different bytes of a block exchanged, of those that its check is of
  pub exchanged_stops : (p r : ℕ) → j < blocks_for (length cs) → p < kind.check_at → r < kind.check_at
      → (get_or (recording cs) (kind.block_bytes * j + p) 0 ≡ get_or (recording cs) (kind.block_bytes * j + r) 0 → ⊥)
      → Replays 0 (pieces (exchanged (kind.block_bytes * j + p) (kind.block_bytes * j + r) (recording cs))) number.wrong_check j (take (kind.commands * j) cs)
  exchanged_stops p r h hp hr differ =
      let whole = ap (exchanged (start + p) (start + r)) (split_here h) ∙ exchanged_middle front front_long here behind p r (omega (arith, here_long)) (omega (arith, here_long)) in
      let differ' : get_or here p 0 ≡ get_or here r 0 → ⊥ = λ e. differ (byte_there h p (omega arith) ∙ e ∙ sym (byte_there h r (omega arith))) in
      wrong_stops h (exchanged p r here) _ whole (simp length-set here_long) (exchanged_noticed j here here_long (here_right h) p r hp hr differ')

-- one byte altered, any one
pub altered_stops : (cs : List Command) → AllFit cs → length cs ≤ kind.most_commands → (place v : ℕ) → place < length (recording cs) → (v ≡ get_or (recording cs) place 0 → ⊥)
    → Replays 0 (pieces (set (recording cs) place v)) number.wrong_check (place / kind.block_bytes) (take (kind.commands * (place / kind.block_bytes)) cs)
altered_stops cs fit most place v h alters =
    let j : ℕ = place / kind.block_bytes in
    let p : ℕ = place % kind.block_bytes in
    let there : kind.block_bytes * j + p ≡ place = omega arith in
    let inside : j < blocks_for (length cs) = omega (arith, blocks_length (blocks_for (length cs)) 0 cs) in
    rw there at (altered_there cs fit most j inside p v (omega arith) (λ e. alters (e ∙ ap (λ (k : ℕ). get_or (recording cs) k 0) there)))
