-- Reports count the commands of their blocks: that of a replay, and of two behind each other.
use mathlib.Core.Bool.{Bool, true, false, cond}
use mathlib.Core.List.{List, [], ◌∷◌, ◌++◌}
use mathlib.Core.Logic.{by_cases}
use mathlib.Core.Path.{◌≡◌, refl, ap₂, ◌∙◌}
use Prim.Native.Nat.{ℕ, zero, suc, ◌+◌, ◌*◌, ◌≤◌}
use native.Mathlib.Decide.{ℕ_discrete}
use native.Mathlib.Omega.{arith}
use lib.ListN.{length, take, drop, length-append, length-take, length-drop}
use borrow.Author.Tests.{eq-eqb, ne_eqb}
use Rattle.rules.specs.Run.{outcomes}
use Rattle.rules.specs.Picture.{Picture, limits_of, plain}
use Rattle.rules.specs.Verdict.{accepts}
use Rattle.rules.proofs.Run.{outcomes_length}
use Rattle.answers.specs.declared.Report.{Report}
use Rattle.answers.specs.declared.Replay.{Replay}
use Rattle.std.specs.Prelude.{Ok, Err}
use Rattle.answers.specs.Offered as offered
use Rattle.answers.specs.Offered.{refusal_on}
use Rattle.recording.specs.Kind as kind
use Rattle.recording.specs.Block.{failing}
use Rattle.recording.specs.Replay.{pieces_up_to, pieces, passed_in, replayed_in, replay_stop, replayed}
use Rattle.recording.proofs.Pieces.{piece_passes, piece_fails, failing_few, commands_few}
use Rattle.replayer.specs.Replays.{replay_from, both_of, BothFit}
use Rattle.replayer.proofs.Totals.{both_totalled, both_fit}
use Rattle.limiter.specs.Lent.{lent}
use Rattle.limiter.specs.Runs.{replay_answer}
use Rattle.replay.specs.Counted.{Counted}

-- no more than 56 commands a block
commands_most : (n : ℕ) (bs : List (List ℕ)) → length (replayed_in n bs) ≤ kind.commands * passed_in n bs
unfolding replayed_in
commands_most n [] = omega arith
commands_most n (b ∷ bs) =
    by_cases (ℕ_discrete (failing n b) 0)
    (λ e. let p = piece_passes n b bs e in
    rw (p.commands, p.blocks, length-append) (omega (arith, commands_most (suc n) bs, commands_few b, (failing_few n b e).most)))
    (λ e. rw (piece_fails n b bs e).commands (omega arith))

-- and only whole blocks
blocks_most : (k n : ℕ) (s : List ℕ) → kind.block_bytes * passed_in n (pieces_up_to k s) ≤ length s
unfolding pieces_up_to passed_in
blocks_most zero n s = omega arith
blocks_most (suc k) n s =
    by_cases (ℕ_discrete (length s) 0) (λ z. rw (eq-eqb (length s) 0 z) (omega arith))
    (λ some. rw (ne_eqb (length s) 0 some)
    (by_cases (ℕ_discrete (failing n (take kind.block_bytes s)) 0)
    (λ e. rw (eq-eqb (failing n (take kind.block_bytes s)) 0 e)
    (omega (arith, blocks_most k (suc n) (drop kind.block_bytes s), (failing_few n (take kind.block_bytes s) e).whole, length-take kind.block_bytes s, length-drop kind.block_bytes s)))
    (λ e. rw (ne_eqb (failing n (take kind.block_bytes s)) 0 e) (omega arith))))

replay_counted : (P : Picture) (first : ℕ) (s : List ℕ) {r : Replay} → r ≡ replay_from P first s → Counted r × (kind.block_bytes * r.blocks ≤ length s)
replay_counted P first s e =
    rw e (
      record {
        stop = offered.replay_stop (replay_stop first s);
        outcomes = outcomes (limits_of P) (plain P) (replayed first s);
        totals = refl;
        commands = rw outcomes_length (commands_most first (pieces s));
      },
      blocks_most (length s) first s,
    )

-- what is answered, and is no refusal, is such a report
pub answer_counted : (t : List ℕ) (first : ℕ) (s : List ℕ) {r : Replay} → Ok r ≡ replay_answer first s t → Counted r × (kind.block_bytes * r.blocks ≤ length s)
answer_counted t first s {r} e = replay_counted (lent t) first s (go (accepts t) e)
  where
    go : (b : Bool) → Ok r ≡ cond b (Ok (replay_from (lent t) first s)) (Err (refusal_on t)) → r ≡ replay_from (lent t) first s
    go true e = cc
    go false e = absurd cc

module _ {a b : Replay} (x : Counted a) (y : Counted b) where
  -- far below the largest number
  pub counted_fit : a.blocks + b.blocks ≤ 2 * kind.blocks → BothFit a.report b.report
  counted_fit h = rw (x.totals, y.totals) (both_fit _ _ x.outcomes y.outcomes (omega (arith, x.commands, y.commands)))

  pub both_counted : {r : Report} → r ≡ both_of a.report b.report → Counted (record { blocks = a.blocks + b.blocks; report = r })
  both_counted e =
      record {
        stop = y.stop;
        outcomes = x.outcomes ++ y.outcomes;
        totals = e ∙ ap₂ both_of x.totals y.totals ∙ both_totalled x.stop y.stop x.outcomes y.outcomes;
        commands = rw length-append (omega (arith, x.commands, y.commands));
      }
