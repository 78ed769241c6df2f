-- The documents' number and values for each case of an answer: the refusal number, 0 for none, then the values, each 0 where there is none to give.
use Rattle.std.specs.Prelude.{List, [], ◌∷◌, ℕ, Option, Some, None, Result, Ok, Err}
use Rattle.rules.specs.Numbers as number
use Rattle.answers.specs.declared.Refusal.{Refusal}
use Rattle.answers.specs.declared.Refusal.TheVariants as refusals
use Rattle.answers.specs.declared.Request.{Request}
use Rattle.answers.specs.declared.Choice.{Choice}
use Rattle.answers.specs.declared.Choice.TheVariants as choices
use Rattle.answers.specs.declared.Stop.{Stop}
use Rattle.answers.specs.declared.Stop.TheVariants as stops
use Rattle.answers.specs.declared.Report.{Report}
use Rattle.answers.specs.declared.Replay.{Replay}

-- a refusal's number
abbrev pub refusal_number : Refusal → ℕ
refusal_number refusals.OutOfRange = number.out_of_range
refusal_number refusals.TooShort = number.too_short
refusal_number refusals.Unsound = number.unsound
refusal_number refusals.NoRoom = number.no_room
refusal_number refusals.NobodyWaits = number.nobody_waits
refusal_number refusals.NoClient = number.no_client
refusal_number refusals.Overlong = number.overlong
refusal_number refusals.Full = number.full
refusal_number refusals.ShortBlock = number.short_block
refusal_number refusals.WrongCheck = number.wrong_check
refusal_number refusals.WrongNumber = number.wrong_number
refusal_number refusals.WrongUse = number.wrong_use
refusal_number refusals.BadRecorded = number.bad_recorded

-- a call that gives nothing but its refusal
abbrev pub done_number : Result (Unit {0}) Refusal → ℕ
done_number (Ok u) = 0
done_number (Err x) = refusal_number x

-- where a run or a replay stops
abbrev pub stop_number : Stop → ℕ
stop_number stops.Ended = number.ended
stop_number stops.Spent = number.spent
stop_number stops.Cut = number.cut
stop_number stops.BadCommand = number.bad_command
stop_number (stops.Block x) = refusal_number x

-- arrive: which of the three happened, 1 joined, 2 evicted, 3 turned away; the request that left
abbrev pub arrived_numbers : Result Choice Refusal → List ℕ
arrived_numbers (Ok choices.Joined) = 0 ∷ 1 ∷ 0 ∷ 0 ∷ []
arrived_numbers (Ok (choices.Evicted r)) = 0 ∷ 2 ∷ r.id ∷ r.ticket ∷ []
arrived_numbers (Ok choices.Turned) = 0 ∷ 3 ∷ 0 ∷ 0 ∷ []
arrived_numbers (Err x) = refusal_number x ∷ 0 ∷ 0 ∷ 0 ∷ []

-- slide: whether a request passed, 0 no, 1 yes; the request that left
abbrev pub slid_numbers : Result (Option Request) Refusal → List ℕ
slid_numbers (Ok None) = 0 ∷ 0 ∷ 0 ∷ 0 ∷ []
slid_numbers (Ok (Some r)) = 0 ∷ 1 ∷ r.id ∷ r.ticket ∷ []
slid_numbers (Err x) = refusal_number x ∷ 0 ∷ 0 ∷ 0 ∷ []

-- serve: the request that left
abbrev pub served_numbers : Result Request Refusal → List ℕ
served_numbers (Ok r) = 0 ∷ r.id ∷ r.ticket ∷ []
served_numbers (Err x) = refusal_number x ∷ 0 ∷ 0 ∷ []

-- heaviest and lightest: how many pairs were written
abbrev pub listed_numbers : Result ℕ Refusal → List ℕ
listed_numbers (Ok n) = 0 ∷ n ∷ []
listed_numbers (Err x) = refusal_number x ∷ 0 ∷ []

-- count: how many requests of the client wait
abbrev pub counted_numbers : Result ℕ Refusal → List ℕ
counted_numbers (Ok n) = 0 ∷ n ∷ []
counted_numbers (Err x) = refusal_number x ∷ 0 ∷ []

-- oldest and newest: the ticket
abbrev pub told_numbers : Result ℕ Refusal → List ℕ
told_numbers (Ok n) = 0 ∷ n ∷ []
told_numbers (Err x) = refusal_number x ∷ 0 ∷ []

-- a run: the stop, or the refusal in its place; how many commands were carried out, and the six totals
abbrev pub report_numbers : Report → List ℕ
report_numbers r = stop_number r.stop ∷ r.done ∷ r.joined ∷ r.evicted ∷ r.passed ∷ r.served ∷ r.turned ∷ r.idle ∷ []

abbrev pub ran_numbers : Result Report Refusal → List ℕ
ran_numbers (Ok r) = report_numbers r
ran_numbers (Err x) = refusal_number x ∷ 0 ∷ 0 ∷ 0 ∷ 0 ∷ 0 ∷ 0 ∷ 0 ∷ []

-- a replay: the stop, or the refusal in its place; how many blocks were replayed and commands carried out, and the six totals
abbrev pub replayed_numbers : Result Replay Refusal → List ℕ
replayed_numbers (Ok r) =
    stop_number r.report.stop
    ∷ r.blocks
    ∷ r.report.done
    ∷ r.report.joined
    ∷ r.report.evicted
    ∷ r.report.passed
    ∷ r.report.served
    ∷ r.report.turned
    ∷ r.report.idle
    ∷ []
replayed_numbers (Err x) = refusal_number x ∷ 0 ∷ 0 ∷ 0 ∷ 0 ∷ 0 ∷ 0 ∷ 0 ∷ 0 ∷ []
