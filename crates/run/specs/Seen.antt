-- How many commands came to which of the six cases, as the code of a run counts them.
use Rattle.std.specs.Prelude.{cond, Option, Some, None, List, [], ◌∷◌, ◌≡◌, ℕ, suc, ◌+◌, ◌<◌, eqb, length, get_or}
use Rattle.rules.specs.Commands.{Outcome, joined, evicted, turned, passed, served, idle}
use Rattle.answers.specs.Engine.{as_request}
use Rattle.answers.specs.declared.Choice.{Choice}
use Rattle.answers.specs.declared.Choice.TheVariants as choices
use Rattle.answers.specs.declared.Request.{Request}
use Rattle.answers.specs.declared.Stop.{Stop}
use Rattle.answers.specs.declared.Report.{Report}
use Rattle.run.specs.declared.Case.{Case}
use Rattle.run.specs.declared.Case.TheVariants as case

-- what a command came to
abbrev pub case_of : Outcome → Case
case_of joined = case.Joined
case_of (evicted r) = case.Evicted
case_of turned = case.Turned
case_of (passed r) = case.Passed
case_of (served r) = case.Served
case_of idle = case.Idle

-- its place among the counts, and how many places there are
abbrev pub place_of : Case → ℕ
place_of case.Joined = 0
place_of case.Evicted = 1
place_of case.Turned = 2
place_of case.Passed = 3
place_of case.Served = 4
place_of case.Idle = 5

abbrev pub cases : ℕ
cases = 6

-- the same by what a step answers
abbrev pub arrive_case : Choice → Case
arrive_case choices.Joined = case_of joined
arrive_case (choices.Evicted x) = case_of (evicted (as_request x))
arrive_case choices.Turned = case_of turned

abbrev pub slide_case : Option Request → Case
slide_case None = case_of joined
slide_case (Some x) = case_of (passed (as_request x))

abbrev pub serve_case : Option Request → Case
serve_case None = case_of idle
serve_case (Some x) = case_of (served (as_request x))

-- how many of the outcomes have the place k
abbrev pub of_case : ℕ → List Outcome → ℕ
of_case k [] = 0
of_case k (o ∷ os) = cond (eqb (place_of (case_of o)) k) (suc (of_case k os)) (of_case k os)

-- the numbers count these outcomes, place by place
pub record Seen (seen : List ℕ) (os : List Outcome) : Type 0 where
  pub long : length seen ≡ cases
  pub each : (k : ℕ) → k < cases → get_or seen k 0 ≡ of_case k os

-- the largest 64-bit number
abbrev pub largest : ℕ
largest = 18446744073709551615

-- how many joined: arrivals, also those that evicted, and slides, also those where a request passed
abbrev pub joined_in : List ℕ → ℕ
joined_in seen = get_or seen 0 0 + get_or seen 1 0 + get_or seen 3 0

-- the report of a stop after so many commands, which the numbers count
abbrev pub report_on : Stop → ℕ → List ℕ → Report
report_on stop done seen =
    record {
      stop = stop;
      done = done;
      joined = joined_in seen;
      evicted = get_or seen 1 0;
      passed = get_or seen 3 0;
      served = get_or seen 4 0;
      turned = get_or seen 2 0;
      idle = get_or seen 5 0;
    }
