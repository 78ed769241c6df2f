-- The calls' contracts are what the theorems speak of: whatever meets a contract's own clauses answers `reply` and leaves `words`, brings the day record to `day_step`, and records as the host of an evening does.
-- `Post` is the contract's own clauses, as the check reads them; of what was lent by `&` it says nothing, as that is not written.
use mathlib.Core.Bool.{Bool, true, false, cond}
use mathlib.Core.List.{List}
use mathlib.Core.Path.{◌≡◌, refl, ap, ap₂, ◌∙◌}
use Prim.Native.Nat.{ℕ}
use lib.Dec.{eqb}
use contract.Lifetimes.{Lfts}
use Rattle.rules.specs.History.{request}
use Rattle.rules.specs.Commands.{arriving, sliding, serving}
use Rattle.rules.proofs.OneOutcome.{both}
use Rattle.day.specs.Day.{after_run}
use Rattle.day.proofs.bring_up.Reads as bring-up
use Rattle.layout.proofs.lay_out.Reads as lay-out
use Rattle.limiter.proofs.heaviest.Reads as heaviest
use Rattle.limiter.proofs.lightest.Reads as lightest
use Rattle.limiter.proofs.count.Reads as count
use Rattle.limiter.proofs.oldest.Reads as oldest
use Rattle.limiter.proofs.newest.Reads as newest
use Rattle.limiter.proofs.arrive.Reads as arrive
use Rattle.limiter.proofs.slide.Reads as slide
use Rattle.limiter.proofs.serve.Reads as serve
use Rattle.limiter.proofs.run.Reads as run
use Rattle.limiter.proofs.replay.Reads as replay
use Rattle.answers.specs.Numbers.{done_number}
use Rattle.limiter.specs.Runs.{run_answer}
use Rattle.recorder.specs.Record.{record_block}
use Rattle.recorder.specs.Evening.{Asked, Evening, number_of, record_step}
use Rattle.recorder.proofs.record.Reads as recorder
use Rattle.history.specs.Plain as plain
use Rattle.history.specs.Plain.{Call, carry, ask, lay_out, Reply, arrived, slid, served, ran, replayed, listed, counted, told, laid}
use Rattle.history.specs.Words.{reply, words}
use Rattle.history.specs.Day.{day_step}

-- a promise fixes what an outcome shows: of the arguments a it is `by a`
abbrev pub Tied : {A R S O : Type 0} → (A → R → S → Type 0) → (R → S → O) → (A → O) → Type 0
Tied {A} {R} {S} Promise seen by = (a : A) (r : R) (s : S) → Promise a r s → seen r s ≡ by a

-- what a call on the words t comes to
abbrev pub comes_to : Call → List ℕ → Reply × List ℕ
comes_to c t = (reply c t, words c t)

pub arrive_tied : (κs : Lfts 1) → Tied {O = Reply × List ℕ} (arrive.Post κs) (λ r s. (arrived r, s.0.now)) (λ a. comes_to (carry (arriving (request a.1.0 a.1.1.0))) a.0.now)
arrive_tied κs a r s p = both (ap arrived p.0) p.1.1.0

pub slide_tied : (κs : Lfts 1) → Tied {O = Reply × List ℕ} (slide.Post κs) (λ r s. (slid r, s.0.now)) (λ a. comes_to (carry (sliding (request a.1.0 a.1.1.0))) a.0.now)
slide_tied κs a r s p = both (ap slid p.0) p.1.1.0

pub serve_tied : (κs : Lfts 1) → Tied {O = Reply × List ℕ} (serve.Post κs) (λ r s. (served r, s.0.now)) (λ a. comes_to (carry serving) a.0.now)
serve_tied κs a r s p = both (ap served p.0) p.1.1.0

-- with the day record or without
pub run_tied : (day : Bool) (κs : Lfts 2) → Tied {O = Reply × List ℕ} (run.Post κs) (λ r s. (ran r, s.0.now)) (λ a. comes_to (plain.run day a.1.0.now a.1.1.0) a.0.now)
run_tied day κs a r s p = both (ap ran p.0) p.1

pub replay_tied : (κs : Lfts 2) → Tied {O = Reply × List ℕ} (replay.Post κs) (λ r s. (replayed r, s.0.now)) (λ a. comes_to (plain.replay a.1.0.now a.1.1.0) a.0.now)
replay_tied κs a r s p = both (ap replayed p.0) p.1

-- a lay-out answers nothing but its refusal, by the number, which tells it (`done_once`); so does the recorder below
pub lay_out_tied : (κs : Lfts 1) → Tied {O = Reply × List ℕ} (lay-out.Post κs) (λ r s. (laid (done_number r), s.0.now)) (λ a. comes_to (lay_out a.1.0) a.0.now)
lay_out_tied κs a r s p = both (ap laid p.0) p.1

-- the questions, and the listings' output
pub heaviest_tied : (κs : Lfts 2) → Tied (heaviest.Post κs) (λ r s. listed r s.1.1.0.now) (λ a. reply (ask (plain.heaviest a.1.0 a.1.1.0.now)) a.0.now)
heaviest_tied κs a r s p = ap₂ listed p.0 p.1.1

pub lightest_tied : (κs : Lfts 2) → Tied (lightest.Post κs) (λ r s. listed r s.1.1.0.now) (λ a. reply (ask (plain.lightest a.1.0 a.1.1.0.now)) a.0.now)
lightest_tied κs a r s p = ap₂ listed p.0 p.1.1

pub count_tied : (κs : Lfts 1) → Tied (count.Post κs) (λ r s. counted r) (λ a. reply (ask (plain.count a.1.0)) a.0.now)
count_tied κs a r s p = ap counted p.0

pub oldest_tied : (κs : Lfts 1) → Tied (oldest.Post κs) (λ r s. told r) (λ a. reply (ask (plain.oldest a.1.0)) a.0.now)
oldest_tied κs a r s p = ap told p.0

pub newest_tied : (κs : Lfts 1) → Tied (newest.Post κs) (λ r s. told r) (λ a. reply (ask (plain.newest a.1.0)) a.0.now)
newest_tied κs a r s p = ap told p.0

-- the day record brought up to date by what a run on the words t answered
pub day_tied : (κs : Lfts 1) (t bytes : List ℕ) (budget : ℕ)
    → Tied (λ a r s. bring-up.Post κs a r s × (ran a.1.0 ≡ reply (plain.run true bytes budget) t)) (λ r s. s.0.now) (λ a. day_step (plain.run true bytes budget) a.0.now t)
day_tied κs t bytes budget a r s (p, e) = let answered : a.1.0 ≡ run_answer budget bytes t = cc in p ∙ ap (after_run a.0.now) answered

-- what the recorder is passed; a host with any file, whose block in the making it is lent; and what the call comes to for that host: the number, and the block after it
abbrev pub asked_of : ℕ → ℕ → ℕ → Asked
asked_of k i t = record { kind = k; id = i; ticket = t }

abbrev pub host_of : List ℕ → List ℕ → ℕ → Evening
host_of file b n = record { file = file; block = b; recorded = n }

abbrev pub records_to : Evening → Asked → ℕ × List ℕ
records_to e a = (number_of e.recorded a, (record_step e a).block)

-- that block is the one that the contract states, also where the call is refused
block_kept : (taken : Bool) (b file : List ℕ) (n : ℕ) (e : Evening) → cond taken b e.block ≡ (cond taken (host_of file (cond taken b e.block) n) e).block
block_kept true b file n e = refl
block_kept false b file n e = refl

block_after : (e : Evening) (a : Asked) → record_block e.recorded a.kind a.id a.ticket e.block ≡ (record_step e a).block
unfolding record_block
block_after e a = block_kept (eqb (number_of e.recorded a) 0) _ _ _ e

pub record_tied : (κs : Lfts 1) (file : List ℕ)
    → Tied {O = ℕ × List ℕ} (recorder.Post κs) (λ r s. (done_number r, s.0.now)) (λ a. records_to (host_of file a.0.now a.1.0) (asked_of a.1.1.0 a.1.1.1.0 a.1.1.1.1.0))
record_tied κs file a r s p = both p.0 (p.1 ∙ block_after (host_of file a.0.now a.1.0) (asked_of a.1.1.0 a.1.1.1.0 a.1.1.1.1.0))
