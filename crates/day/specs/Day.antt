-- The day record: totals that stay at the largest 64-bit value once there.
use Rattle.std.specs.Prelude.{cond, List, [], ◌∷◌, ℕ, ◌+◌, leb, Result, Ok, Err}
use Rattle.answers.specs.declared.Refusal.{Refusal}
use Rattle.answers.specs.declared.Report.{Report}

-- the largest value of a total
abbrev pub largest : ℕ
largest = 18446744073709551615

-- the sum, or the largest value where the sum is larger
abbrev pub sum_of : ℕ → ℕ → ℕ
sum_of a b = cond (leb (a + b) largest) (a + b) largest

-- the totals of a report, in the record's order
abbrev pub totals_of : Report → List ℕ
totals_of r = r.joined ∷ r.evicted ∷ r.passed ∷ r.served ∷ r.turned ∷ r.idle ∷ []

-- each total with one more
abbrev pub added : List ℕ → List ℕ → List ℕ
added [] ms = []
added (d ∷ ds) [] = d ∷ ds
added (d ∷ ds) (m ∷ ms) = sum_of d m ∷ added ds ms

-- the record after a run; a run that was refused leaves it
abbrev pub after_run : List ℕ → Result Report Refusal → List ℕ
after_run d (Ok r) = added d (totals_of r)
after_run d (Err x) = d
