-- What a run and a replay report on lent words, and the words after it.
use Rattle.std.specs.Prelude.{List, ℕ, Result, Ok, Err}
use Rattle.answers.specs.declared.Refusal.{Refusal}
use Rattle.answers.specs.declared.Report.{Report}
use Rattle.answers.specs.declared.Replay.{Replay}
use Rattle.rules.specs.Run.{carried, next_all}
use Rattle.rules.specs.Verdict.{afterwards}
use Rattle.recording.specs.Replay as recording
use Rattle.run.specs.Runs.{reported}
use Rattle.replayer.specs.Replays.{replay_from}
use Rattle.limiter.specs.Lent.{lent, or_refused}

-- the report with a budget b on the bytes s, or a refusal
abbrev pub run_answer : ℕ → List ℕ → List ℕ → Result Report Refusal
run_answer b s t = or_refused Err t (Ok (reported (lent t) b s))

-- the commands before the stop stand
abbrev pub run_words : ℕ → List ℕ → List ℕ → List ℕ
run_words b s t = afterwards (λ P. next_all P (carried b s)) t

-- the report on the bytes s of a recording, of which the first block must have that number, or a refusal
abbrev pub replay_answer : ℕ → List ℕ → List ℕ → Result Replay Refusal
replay_answer first s t = or_refused Err t (Ok (replay_from (lent t) first s))

-- the commands of the blocks before the stop stand
abbrev pub replay_words : ℕ → List ℕ → List ℕ → List ℕ
replay_words first s t = afterwards (λ P. next_all P (recording.replayed first s)) t
