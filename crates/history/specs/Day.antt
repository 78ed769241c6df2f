-- The host's day record over calls: brought up to date by each run that is made with it, and what those runs came to by the plain history.
use Rattle.std.specs.Prelude.{cond, List, [], ◌∷◌, ◌++◌, map, ℕ, min, take}
use Rattle.rules.specs.Commands.{Outcome}
use Rattle.rules.specs.Run.{carried, outcomes, Totals, total}
use Rattle.limiter.specs.Runs.{run_answer}
use Rattle.day.specs.Day.{after_run}
use Rattle.history.specs.Plain.{Call, carry, run, replay, ask, lay_out, Lent, State, short, plain_next}
use Rattle.history.specs.Words.{slice_after}

-- the record d after a call that is lent the words t
abbrev pub day_step : Call → List ℕ → List ℕ → List ℕ
day_step (carry c) d t = d
day_step (run day bytes budget) d t = cond day (after_run d (run_answer budget bytes t)) d
day_step (replay bytes first) d t = d
day_step (ask x) d t = d
day_step (lay_out q) d t = d

-- and after calls on the slice t
abbrev pub day_after : List Lent → List ℕ → List ℕ → List ℕ
day_after [] d t = d
day_after (l ∷ ls) d t = day_after ls (day_step l.call d (take l.words t)) (slice_after l t)

-- what the commands came to that a run with the record, lent n words, carried out: none where it was refused
abbrev pub recorded_by : ℕ → State → Call → List Outcome
recorded_by n s (carry c) = []
recorded_by n s (run day bytes budget) = cond day (cond (short n s) [] (outcomes s.limits s.waiting (carried budget bytes))) []
recorded_by n s (replay bytes first) = []
recorded_by n s (ask x) = []
recorded_by n s (lay_out q) = []

-- and all those of calls, in a slice of so many words
abbrev pub recorded : ℕ → State → List Lent → List Outcome
recorded slice s [] = []
recorded slice s (l ∷ ls) = recorded_by (min l.words slice) s l.call ++ recorded slice (plain_next slice s l) ls

-- the record's totals in their order, and those of outcomes
abbrev pub in_order : List (Totals → ℕ)
in_order = (λ k. k.joined) ∷ (λ k. k.evicted) ∷ (λ k. k.passed) ∷ (λ k. k.served) ∷ (λ k. k.turned) ∷ (λ k. k.idle) ∷ []

abbrev pub day_totals : List Outcome → List ℕ
day_totals os = map (λ f. total f os) in_order
