-- The struct that the host gets for each answer of the limiter's calls, and its fields in the documents' order.
-- Each begins with the refusal number, 0 for none; a field is 0 where the answer has nothing to give.
use Rattle.std.specs.Prelude.{cond, List, [], ◌∷◌, ℕ, Option, Some, None, Result, Ok, Err}
use Rattle.table.specs.Kind as kind
use Rattle.answers.specs.Numbers.{refusal_number, stop_number}
use Rattle.answers.specs.declared.Refusal.{Refusal}
use Rattle.answers.specs.declared.Request.{Request}
use Rattle.answers.specs.declared.Choice.{Choice}
use Rattle.answers.specs.declared.Choice.TheVariants as choices
use Rattle.answers.specs.declared.Report.{Report}
use Rattle.answers.specs.declared.Replay.{Replay}
use Rattle.boomspool.specs.declared.BoomspoolArrived.{BoomspoolArrived}
use Rattle.boomspool.specs.declared.BoomspoolSlid.{BoomspoolSlid}
use Rattle.boomspool.specs.declared.BoomspoolServed.{BoomspoolServed}
use Rattle.boomspool.specs.declared.BoomspoolListed.{BoomspoolListed}
use Rattle.boomspool.specs.declared.BoomspoolCounted.{BoomspoolCounted}
use Rattle.boomspool.specs.declared.BoomspoolTold.{BoomspoolTold}
use Rattle.boomspool.specs.declared.BoomspoolRan.{BoomspoolRan}
use Rattle.boomspool.specs.declared.BoomspoolReplayed.{BoomspoolReplayed}

-- the words that a table of q places takes, 0 where q is out of range
abbrev pub words_of : ℕ → ℕ
words_of q = cond (kind.in_range q) (kind.size q) 0

-- arrive: what happened is 1 joined, 2 evicted, 3 turned away
abbrev pub arrived_struct : Result Choice Refusal → BoomspoolArrived
arrived_struct (Ok choices.Joined) = record { number = 0; happened = 1; id = 0; ticket = 0 }
arrived_struct (Ok (choices.Evicted r)) = record { number = 0; happened = 2; id = r.id; ticket = r.ticket }
arrived_struct (Ok choices.Turned) = record { number = 0; happened = 3; id = 0; ticket = 0 }
arrived_struct (Err x) = record { number = refusal_number x; happened = 0; id = 0; ticket = 0 }

abbrev pub arrived_fields : BoomspoolArrived → List ℕ
arrived_fields r = r.number ∷ r.happened ∷ r.id ∷ r.ticket ∷ []

-- slide: whether a request passed is 0 or 1
abbrev pub slid_struct : Result (Option Request) Refusal → BoomspoolSlid
slid_struct (Ok None) = record { number = 0; passed = 0; id = 0; ticket = 0 }
slid_struct (Ok (Some r)) = record { number = 0; passed = 1; id = r.id; ticket = r.ticket }
slid_struct (Err x) = record { number = refusal_number x; passed = 0; id = 0; ticket = 0 }

abbrev pub slid_fields : BoomspoolSlid → List ℕ
slid_fields r = r.number ∷ r.passed ∷ r.id ∷ r.ticket ∷ []

-- serve: the request that left
abbrev pub served_struct : Result Request Refusal → BoomspoolServed
served_struct (Ok r) = record { number = 0; id = r.id; ticket = r.ticket }
served_struct (Err x) = record { number = refusal_number x; id = 0; ticket = 0 }

abbrev pub served_fields : BoomspoolServed → List ℕ
served_fields r = r.number ∷ r.id ∷ r.ticket ∷ []

-- heaviest and lightest: how many pairs were written
abbrev pub listed_struct : Result ℕ Refusal → BoomspoolListed
listed_struct (Ok n) = record { number = 0; pairs = n }
listed_struct (Err x) = record { number = refusal_number x; pairs = 0 }

abbrev pub listed_fields : BoomspoolListed → List ℕ
listed_fields r = r.number ∷ r.pairs ∷ []

-- count: how many requests of the client wait
abbrev pub counted_struct : Result ℕ Refusal → BoomspoolCounted
counted_struct (Ok n) = record { number = 0; count = n }
counted_struct (Err x) = record { number = refusal_number x; count = 0 }

abbrev pub counted_fields : BoomspoolCounted → List ℕ
counted_fields r = r.number ∷ r.count ∷ []

-- oldest and newest: the ticket
abbrev pub told_struct : Result ℕ Refusal → BoomspoolTold
told_struct (Ok n) = record { number = 0; ticket = n }
told_struct (Err x) = record { number = refusal_number x; ticket = 0 }

abbrev pub told_fields : BoomspoolTold → List ℕ
told_fields r = r.number ∷ r.ticket ∷ []

-- a run: the stop, or the refusal in its place; how many commands were carried out, and the six totals
abbrev pub report_struct : Report → BoomspoolRan
report_struct r = record { stop = stop_number r.stop; done = r.done; joined = r.joined; evicted = r.evicted; passed = r.passed; served = r.served; turned = r.turned; idle = r.idle }

abbrev pub ran_struct : Result Report Refusal → BoomspoolRan
ran_struct (Ok r) = report_struct r
ran_struct (Err x) = record { stop = refusal_number x; done = 0; joined = 0; evicted = 0; passed = 0; served = 0; turned = 0; idle = 0 }

abbrev pub ran_fields : BoomspoolRan → List ℕ
ran_fields r = r.stop ∷ r.done ∷ r.joined ∷ r.evicted ∷ r.passed ∷ r.served ∷ r.turned ∷ r.idle ∷ []

-- a replay: the same, and how many blocks were replayed
abbrev pub replay_struct : Replay → BoomspoolReplayed
replay_struct r =
    record {
      stop = stop_number r.report.stop;
      blocks = r.blocks;
      done = r.report.done;
      joined = r.report.joined;
      evicted = r.report.evicted;
      passed = r.report.passed;
      served = r.report.served;
      turned = r.report.turned;
      idle = r.report.idle;
    }

abbrev pub replayed_struct : Result Replay Refusal → BoomspoolReplayed
replayed_struct (Ok r) = replay_struct r
replayed_struct (Err x) = record { stop = refusal_number x; blocks = 0; done = 0; joined = 0; evicted = 0; passed = 0; served = 0; turned = 0; idle = 0 }

abbrev pub replayed_fields : BoomspoolReplayed → List ℕ
replayed_fields r = r.stop ∷ r.blocks ∷ r.done ∷ r.joined ∷ r.evicted ∷ r.passed ∷ r.served ∷ r.turned ∷ r.idle ∷ []
