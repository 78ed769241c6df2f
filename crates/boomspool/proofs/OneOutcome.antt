-- The promise of each call admits one outcome: one reply, and one content of what was lent by `&mut`. (What is lent by `&` is not written.)
-- `Post` is the contract's own clauses, as the check reads them.
use mathlib.Core.List.{List}
use Prim.Native.Nat.{ℕ}
use contract.Lifetimes.{Lfts}
use Rattle.rules.proofs.OneOutcome.{OneOutcome, one_outcome, both}
use Rattle.boomspool.specs.declared.BoomspoolArrived.{BoomspoolArrived}
use Rattle.boomspool.specs.declared.BoomspoolSlid.{BoomspoolSlid}
use Rattle.boomspool.specs.declared.BoomspoolServed.{BoomspoolServed}
use Rattle.boomspool.specs.declared.BoomspoolListed.{BoomspoolListed}
use Rattle.boomspool.specs.declared.BoomspoolRan.{BoomspoolRan}
use Rattle.boomspool.specs.declared.BoomspoolReplayed.{BoomspoolReplayed}
use Rattle.boomspool.proofs.boomspool_words.Reads as words
use Rattle.boomspool.proofs.boomspool_lay_out.Reads as lay-out
use Rattle.boomspool.proofs.boomspool_arrive.Reads as arrive
use Rattle.boomspool.proofs.boomspool_slide.Reads as slide
use Rattle.boomspool.proofs.boomspool_serve.Reads as serve
use Rattle.boomspool.proofs.boomspool_heaviest.Reads as heaviest
use Rattle.boomspool.proofs.boomspool_lightest.Reads as lightest
use Rattle.boomspool.proofs.boomspool_count.Reads as count
use Rattle.boomspool.proofs.boomspool_oldest.Reads as oldest
use Rattle.boomspool.proofs.boomspool_newest.Reads as newest
use Rattle.boomspool.proofs.boomspool_run.Reads as run
use Rattle.boomspool.proofs.boomspool_run_day.Reads as run-day
use Rattle.boomspool.proofs.boomspool_record.Reads as record-one
use Rattle.boomspool.proofs.boomspool_replay.Reads as replay

pub words_once : (κs : Lfts 0) → OneOutcome (words.Post κs) (λ r s. r)
words_once κs = one_outcome _ _ _ (λ a r s p. p)

pub lay_out_once : (κs : Lfts 1) → OneOutcome {O = ℕ × List ℕ} (lay-out.Post κs) (λ r s. (r, s.0.now))
lay_out_once κs = one_outcome _ _ _ (λ a r s p. both p.0 p.1)

pub arrive_once : (κs : Lfts 1) → OneOutcome {O = BoomspoolArrived × List ℕ} (arrive.Post κs) (λ r s. (r, s.0.now))
arrive_once κs = one_outcome _ _ _ (λ a r s p. both p.0 p.1.1.0)

pub slide_once : (κs : Lfts 1) → OneOutcome {O = BoomspoolSlid × List ℕ} (slide.Post κs) (λ r s. (r, s.0.now))
slide_once κs = one_outcome _ _ _ (λ a r s p. both p.0 p.1.1.0)

pub serve_once : (κs : Lfts 1) → OneOutcome {O = BoomspoolServed × List ℕ} (serve.Post κs) (λ r s. (r, s.0.now))
serve_once κs = one_outcome _ _ _ (λ a r s p. both p.0 p.1.1.0)

pub heaviest_once : (κs : Lfts 2) → OneOutcome {O = BoomspoolListed × List ℕ} (heaviest.Post κs) (λ r s. (r, s.1.1.0.now))
heaviest_once κs = one_outcome _ _ _ (λ a r s p. both p.0 p.1.1)

pub lightest_once : (κs : Lfts 2) → OneOutcome {O = BoomspoolListed × List ℕ} (lightest.Post κs) (λ r s. (r, s.1.1.0.now))
lightest_once κs = one_outcome _ _ _ (λ a r s p. both p.0 p.1.1)

pub count_once : (κs : Lfts 1) → OneOutcome (count.Post κs) (λ r s. r)
count_once κs = one_outcome _ _ _ (λ a r s p. p.0)

pub oldest_once : (κs : Lfts 1) → OneOutcome (oldest.Post κs) (λ r s. r)
oldest_once κs = one_outcome _ _ _ (λ a r s p. p.0)

pub newest_once : (κs : Lfts 1) → OneOutcome (newest.Post κs) (λ r s. r)
newest_once κs = one_outcome _ _ _ (λ a r s p. p.0)

pub run_once : (κs : Lfts 2) → OneOutcome {O = BoomspoolRan × List ℕ} (run.Post κs) (λ r s. (r, s.0.now))
run_once κs = one_outcome _ _ _ (λ a r s p. both p.0 p.1.1)

pub run_day_once : (κs : Lfts 3) → OneOutcome {O = BoomspoolRan × (List ℕ × List ℕ)} (run-day.Post κs) (λ r s. (r, (s.0.now, s.1.1.1.0.now)))
run_day_once κs = one_outcome _ _ _ (λ a r s p. both p.0 (both p.1.1.0 p.1.1.1))

pub record_once : (κs : Lfts 1) → OneOutcome {O = ℕ × List ℕ} (record-one.Post κs) (λ r s. (r, s.0.now))
record_once κs = one_outcome _ _ _ (λ a r s p. both p.0 p.1)

pub replay_once : (κs : Lfts 2) → OneOutcome {O = BoomspoolReplayed × List ℕ} (replay.Post κs) (λ r s. (r, s.0.now))
replay_once κs = one_outcome _ _ _ (λ a r s p. both p.0 p.1.1)
