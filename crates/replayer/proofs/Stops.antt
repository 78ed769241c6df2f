-- The number of a reported replay's stop is the format's.
use mathlib.Core.Bool.{Bool, true, false, cond, not}
use mathlib.Core.List.{List, [], ◌∷◌}
use mathlib.Core.Path.{◌≡◌, refl}
use Prim.Native.Nat.{ℕ, suc}
use lib.Dec.{eqb, ltb}
use lib.ListN.{length}
use borrow.Author.Tests.{ne_eqb}
use Rattle.rules.specs.Numbers as number
use Rattle.recording.specs.Kind as kind
use Rattle.recording.specs.Block.{check_of, check_in, number_in, used_right, all_known, failing}
use Rattle.recording.specs.Replay as format
use Rattle.recording.specs.Replay.{pieces, stop_in}
use Rattle.answers.specs.declared.Refusal.{Refusal}
use Rattle.answers.specs.declared.Stop.TheVariants as stops
use Rattle.answers.specs.Numbers.{refusal_number, stop_number}
use Rattle.answers.specs.Offered.{replay_stop}
use Rattle.answers.proofs.Numbered.{of_number, some_number}

-- the number of a block's refusal leads to the stop there
pub blocked : (x : Refusal) → replay_stop (refusal_number x) ≡ stops.Block x
blocked x = simp (ne_eqb (refusal_number x) 0 (some_number x), of_number x)

-- a block's number is 0, or that of one of the five refusals
failing_said : (n : ℕ) (b : List ℕ) → stop_number (replay_stop (failing n b)) ≡ failing n b
unfolding failing
failing_said n b =
    go (ltb (length b) kind.block_bytes) (eqb (check_of b) (check_in b)) (eqb (number_in b) n) (used_right b) (all_known b)
  where
    by : Bool → Bool → Bool → Bool → Bool → ℕ
    by s c m u k =
        cond s number.short_block (cond (not c) number.wrong_check (cond (not m) number.wrong_number (cond (not u) number.wrong_use (cond (not k) number.bad_recorded 0))))

    go : (s c m u k : Bool) → stop_number (replay_stop (by s c m u k)) ≡ by s c m u k
    go true c m u k = refl
    go false false m u k = refl
    go false true false u k = refl
    go false true true false k = refl
    go false true true true false = refl
    go false true true true true = refl

stop_in_said : (n : ℕ) (bs : List (List ℕ)) → stop_number (replay_stop (stop_in n bs)) ≡ stop_in n bs
unfolding stop_in
stop_in_said n [] = refl
stop_in_said n (b ∷ bs) =
    go (eqb (failing n b) 0) (stop_in (suc n) bs) (failing n b) (stop_in_said (suc n) bs) (failing_said n b)
  where
    go : (t : Bool) (m k : ℕ) → stop_number (replay_stop m) ≡ m → stop_number (replay_stop k) ≡ k → stop_number (replay_stop (cond t m k)) ≡ cond t m k
    go true m k e f = e
    go false m k e f = f

pub replay_stop_said : (first : ℕ) (s : List ℕ) → stop_number (replay_stop (format.replay_stop first s)) ≡ format.replay_stop first s
replay_stop_said first s = stop_in_said first (pieces s)
