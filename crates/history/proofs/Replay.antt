-- A replay, by where it stops over its bytes, how many blocks pass and which commands they have: it reports that, with what these come to, and leaves the table that they leave as single calls. After a lay-out and any calls.
use mathlib.Core.List.{List, [], ◌∷◌, ◌++◌, append-nil}
use mathlib.Core.Path.{◌≡◌, ap, ◌∙◌}
use Prim.Native.Nat.{ℕ, ◌≤◌, min}
use native.Mathlib.Nat.{le-min}
use native.Mathlib.Omega.{arith}
use lib.ListN.{length, take}
use borrow.Author.Tests.{le-ltb}
use Rattle.std.specs.Prelude.{Ok}
use Rattle.table.specs.Kind as kind
use Rattle.rules.specs.History.{Limits}
use Rattle.rules.specs.Commands.{Command, Outcome}
use Rattle.rules.specs.Run.{outcomes}
use Rattle.rules.specs.Verdict.{lay_out_number, laid_out}
use Rattle.rules.proofs.Verdict.{long}
use Rattle.answers.specs.Numbers.{stop_number}
use Rattle.answers.specs.Offered.{replay_stop}
use Rattle.answers.specs.declared.Stop.{Stop}
use Rattle.recording.specs.Replay as recording
use Rattle.recording.specs.Replay.{pieces}
use Rattle.recording.proofs.Pieces.{Replays}
use Rattle.run.specs.Runs.{totalled}
use Rattle.replayer.proofs.Stops.{replay_stop_said}
use Rattle.history.specs.Plain.{replay, Lent, lent, Reply, replayed, State, singles}
use Rattle.history.specs.Words.{reply, table_after}
use Rattle.history.proofs.History.{left, history, the_length, the_limits, the_right, next_reply}
use Rattle.history.proofs.Run.{replay_as_singles}

-- the reply with a stop, so many blocks, and the number and totals of these outcomes
abbrev pub reports : Stop → ℕ → List Outcome → Reply
reports stop blocks os = replayed (Ok (record { blocks = blocks; report = totalled stop os }))

module _ (q : ℕ) (w : List ℕ) (laid : lay_out_number q (length w) ≡ 0) (before : List Lent) where
  -- who waits after the calls before it, and within which limits
  abbrev pub now : State
  now = history q w before

  fits : kind.size now.limits.places ≤ length w
  fits =
      let S = left q w before in
      omega (arith, long S.picture (the_right q w laid before) S.beyond, the_length q w laid before, ap (λ (L : Limits). L.places) (the_limits q w laid before))

  module _ (bytes : List ℕ) (first : ℕ) {stop blocks : ℕ} {cs : List Command} (comes : Replays first (pieces bytes) stop blocks cs) where
    pub replays_reported : (n : ℕ) → kind.size now.limits.places ≤ n
        → reply (replay bytes first) (take n (table_after before (laid_out q w))) ≡ reports (replay_stop stop) blocks (outcomes now.limits now.waiting cs)
    replays_reported n h =
        next_reply q w laid before (lent n (replay bytes first))
        ∙ rw (le-ltb (min n (length w)) (kind.size now.limits.places) (le-min h fits))
        (λ i. reports (replay_stop (comes.stop i)) (comes.blocks i) (outcomes now.limits now.waiting (comes.commands i)))

    -- the number of that stop is the format's
    pub stop_said : stop_number (replay_stop stop) ≡ stop
    stop_said = rw (← comes.stop) (replay_stop_said first bytes)

    pub replays_leave : (n : ℕ) → table_after (before ++ lent n (replay bytes first) ∷ []) (laid_out q w) ≡ table_after (before ++ singles n cs) (laid_out q w)
    replays_leave n =
        replay_as_singles q w laid n bytes first before []
        ∙ ap (λ (ls : List Lent). table_after (before ++ ls) (laid_out q w)) (append-nil (singles n (recording.replayed first bytes)) ∙ ap (singles n) comes.commands)
