-- The promise of each call admits one outcome: one reply, and one content of what was lent by `&mut`. (What is lent by `&` is not written.)
-- `Post` is the contract's own clauses, as the check reads them.
use mathlib.Core.List.{List}
use Prim.Native.Nat.{ℕ}
use contract.Lifetimes.{Lfts}
use Rattle.std.specs.Prelude.{Option, Result}
use Rattle.answers.specs.declared.Refusal.{Refusal}
use Rattle.answers.specs.declared.Request.{Request}
use Rattle.answers.specs.declared.Choice.{Choice}
use Rattle.answers.specs.declared.Report.{Report}
use Rattle.answers.specs.declared.Replay.{Replay}
use Rattle.rules.proofs.OneOutcome.{OneOutcome, one_outcome, both}
use Rattle.limiter.proofs.heaviest.Reads as heaviest
use Rattle.limiter.proofs.lightest.Reads as lightest
use Rattle.limiter.proofs.count.Reads as count
use Rattle.limiter.proofs.oldest.Reads as oldest
use Rattle.limiter.proofs.newest.Reads as newest
use Rattle.limiter.proofs.arrive.Reads as arrive
use Rattle.limiter.proofs.slide.Reads as slide
use Rattle.limiter.proofs.serve.Reads as serve
use Rattle.limiter.proofs.run.Reads as run
use Rattle.limiter.proofs.replay.Reads as replay

pub heaviest_once : (κs : Lfts 2) → OneOutcome {O = Result ℕ Refusal × List ℕ} (heaviest.Post κs) (λ r s. (r, s.1.1.0.now))
heaviest_once κs = one_outcome _ _ _ (λ a r s p. both p.0 p.1.1)

pub lightest_once : (κs : Lfts 2) → OneOutcome {O = Result ℕ Refusal × List ℕ} (lightest.Post κs) (λ r s. (r, s.1.1.0.now))
lightest_once κs = one_outcome _ _ _ (λ a r s p. both p.0 p.1.1)

pub count_once : (κs : Lfts 1) → OneOutcome (count.Post κs) (λ r s. r)
count_once κs = one_outcome _ _ _ (λ a r s p. p.0)

pub oldest_once : (κs : Lfts 1) → OneOutcome (oldest.Post κs) (λ r s. r)
oldest_once κs = one_outcome _ _ _ (λ a r s p. p.0)

pub newest_once : (κs : Lfts 1) → OneOutcome (newest.Post κs) (λ r s. r)
newest_once κs = one_outcome _ _ _ (λ a r s p. p.0)

pub arrive_once : (κs : Lfts 1) → OneOutcome {O = Result Choice Refusal × List ℕ} (arrive.Post κs) (λ r s. (r, s.0.now))
arrive_once κs = one_outcome _ _ _ (λ a r s p. both p.0 p.1.1.0)

pub slide_once : (κs : Lfts 1) → OneOutcome {O = Result (Option Request) Refusal × List ℕ} (slide.Post κs) (λ r s. (r, s.0.now))
slide_once κs = one_outcome _ _ _ (λ a r s p. both p.0 p.1.1.0)

pub serve_once : (κs : Lfts 1) → OneOutcome {O = Result Request Refusal × List ℕ} (serve.Post κs) (λ r s. (r, s.0.now))
serve_once κs = one_outcome _ _ _ (λ a r s p. both p.0 p.1.1.0)

pub run_once : (κs : Lfts 2) → OneOutcome {O = Result Report Refusal × List ℕ} (run.Post κs) (λ r s. (r, s.0.now))
run_once κs = one_outcome _ _ _ (λ a r s p. both p.0 p.1)

pub replay_once : (κs : Lfts 2) → OneOutcome {O = Result Replay Refusal × List ℕ} (replay.Post κs) (λ r s. (r, s.0.now))
replay_once κs = one_outcome _ _ _ (λ a r s p. both p.0 p.1)
