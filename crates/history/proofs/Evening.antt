-- An evening. Replaying what the recorder wrote, from an equal lay-out, leaves the table that the recorded commands left as single calls, word for word, and reports their number and totals. With one byte altered, or two unequal ones exchanged among the first 508 of a block, it stops at that block with 21: the commands of earlier blocks stand, and none of that block's is carried out.
use mathlib.Core.List.{List, [], ◌∷◌}
use mathlib.Core.Path.{◌≡◌, refl, sym, ap, ◌∙◌, subst}
use Prim.Native.Nat.{ℕ, ◌+◌, ◌*◌, ◌/◌, ◌≤◌, ◌<◌}
use native.Mathlib.Omega.{arith}
use lib.ListN.{length, get_or, set, take}
use Rattle.table.specs.Kind as table
use Rattle.rules.specs.Numbers as number
use Rattle.rules.specs.History.{limits, nobody}
use Rattle.rules.specs.Commands.{Command}
use Rattle.rules.specs.Run.{outcomes}
use Rattle.rules.specs.Verdict.{lay_out_number, laid_out}
use Rattle.rules.proofs.Run.{outcomes_length}
use Rattle.answers.specs.Numbers.{stop_number}
use Rattle.answers.specs.declared.Refusal.TheVariants as refusals
use Rattle.answers.specs.declared.Stop.TheVariants as stops
use Rattle.recording.specs.Kind as kind
use Rattle.recording.specs.Block.{AllFit, blocks_for, exchanged}
use Rattle.recording.specs.Replay.{pieces}
use Rattle.recording.proofs.Pieces.{Replays}
use Rattle.recording.proofs.Blocks.{recording_replayed}
use Rattle.recording.proofs.Altered.{altered_stops, exchanged_stops}
use Rattle.recorder.specs.Evening.{Asked, Fit, nothing, record_all, taken}
use Rattle.recorder.proofs.Evening.{the_file, the_number, taken_few, taken_fit}
use Rattle.history.specs.Plain.{replay, lent, singles}
use Rattle.history.specs.Words.{reply, table_after}
use Rattle.history.proofs.Run.{singles_table}
use Rattle.history.proofs.Replay.{reports, replays_reported, replays_leave}

-- the block that has a place of a recording, and a place of a block
abbrev pub block_of : ℕ → ℕ
block_of place = place / kind.block_bytes

abbrev pub place_in : ℕ → ℕ → ℕ
place_in j p = kind.block_bytes * j + p

-- the two stops that are reported below, by their numbers
pub stops_numbered : (stop_number stops.Ended ≡ number.ended) × (stop_number (stops.Block refusals.WrongCheck) ≡ number.wrong_check)
stops_numbered = (refl, refl)

-- the recorder's calls, one after the other, from nothing and with any block at first
module _ (b : List ℕ) (calls : List Asked) where
  -- the commands that it took, those of the blocks before block j, and the file
  abbrev pub cs : List Command
  cs = taken 0 calls

  abbrev pub earlier : ℕ → List Command
  earlier j = take (kind.commands * j) cs

  abbrev pub file : List ℕ
  file = (record_all (nothing b) calls).file

  few : length cs ≤ kind.most_commands
  few = omega (arith, taken_few 0 calls (omega arith))

  -- as many commands come to something as the recorder counted
  pub replay_counts : (q : ℕ) → length (outcomes (limits q) nobody cs) ≡ (record_all (nothing b) calls).recorded
  replay_counts q = outcomes_length (limits q) nobody cs ∙ sym (the_number b calls)

  -- w is any slice in which a table of q places can be laid out
  module _ (fit : Fit calls) (q : ℕ) (w : List ℕ) (laid : lay_out_number q (length w) ≡ 0) where
    fits : AllFit cs
    fits = taken_fit 0 calls fit

    ends : Replays 0 (pieces file) number.ended (blocks_for (length cs)) cs
    ends = rw (the_file b calls) (recording_replayed cs fits few)

    -- the replay leaves every word as the recorded commands do, made as single calls
    pub replay_leaves : (n : ℕ) → table_after (lent n (replay file 0) ∷ []) (laid_out q w) ≡ table_after (singles n cs) (laid_out q w)
    replay_leaves n = replays_leave q w laid [] file 0 ends n

    -- lent the table, it reports that it came to the end, the blocks, and the number and totals of what those commands came to
    pub replay_reports : (n : ℕ) → table.size q ≤ n → reply (replay file 0) (take n (laid_out q w)) ≡ reports stops.Ended (blocks_for (length cs)) (outcomes (limits q) nobody cs)
    replay_reports n h = replays_reported q w laid [] file 0 ends n h

    -- and the same table as in any other slice with an equal lay-out, where each call is lent the table
    pub replay_elsewhere : (w' : List ℕ) → lay_out_number q (length w') ≡ 0 → (n m : ℕ) → table.size q ≤ n → table.size q ≤ m
        → take (table.size q) (table_after (lent n (replay file 0) ∷ []) (laid_out q w)) ≡ take (table.size q) (table_after (singles m cs) (laid_out q w'))
    replay_elsewhere w' laid' n m h l = ap (take (table.size q)) (replay_leaves n) ∙ singles_table q w laid n h cs ∙ sym (singles_table q w' laid' m l cs)

    -- one byte altered, any one
    module _ (place v : ℕ) (inside : place < length file) (other : v ≡ get_or file place 0 → ⊥) where
      altered : Replays 0 (pieces (set file place v)) number.wrong_check (block_of place) (earlier (block_of place))
      altered =
          subst (λ (s : List ℕ). place < length s → (v ≡ get_or s place 0 → ⊥) → Replays 0 (pieces (set s place v)) number.wrong_check (block_of place) (earlier (block_of place))) (sym (the_file b calls))
          (altered_stops cs fits few place v) inside other

      pub altered_leaves : (n : ℕ) → table_after (lent n (replay (set file place v) 0) ∷ []) (laid_out q w) ≡ table_after (singles n (earlier (block_of place))) (laid_out q w)
      altered_leaves n = replays_leave q w laid [] (set file place v) 0 altered n

      pub altered_reported : (n : ℕ) → table.size q ≤ n
          → reply (replay (set file place v) 0) (take n (laid_out q w)) ≡ reports (stops.Block refusals.WrongCheck) (block_of place) (outcomes (limits q) nobody (earlier (block_of place)))
      altered_reported n h = replays_reported q w laid [] (set file place v) 0 altered n h

    -- two unequal bytes of block j exchanged, of those that its check is of
    module _ (j p r : ℕ) (inside : j < blocks_for (length cs)) (hp : p < kind.check_at) (hr : r < kind.check_at) (unequal : get_or file (place_in j p) 0 ≡ get_or file (place_in j r) 0 → ⊥) where
      abbrev pub other : List ℕ
      other = exchanged (place_in j p) (place_in j r) file

      stopped : Replays 0 (pieces other) number.wrong_check j (earlier j)
      stopped =
          subst (λ (s : List ℕ). (get_or s (place_in j p) 0 ≡ get_or s (place_in j r) 0 → ⊥) → Replays 0 (pieces (exchanged (place_in j p) (place_in j r) s)) number.wrong_check j (earlier j)) (sym (the_file b calls))
          (exchanged_stops cs fits few j p r inside hp hr) unequal

      pub exchanged_leaves : (n : ℕ) → table_after (lent n (replay other 0) ∷ []) (laid_out q w) ≡ table_after (singles n (earlier j)) (laid_out q w)
      exchanged_leaves n = replays_leave q w laid [] other 0 stopped n

      pub exchanged_reported : (n : ℕ) → table.size q ≤ n → reply (replay other 0) (take n (laid_out q w)) ≡ reports (stops.Block refusals.WrongCheck) j (outcomes (limits q) nobody (earlier j))
      exchanged_reported n h = replays_reported q w laid [] other 0 stopped n h
