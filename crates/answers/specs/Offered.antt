-- An engine's answer as the call offers it, and the refusals and stops by their numbers.
use Rattle.std.specs.Prelude.{cond, List, ℕ, eqb, get_or, Option, Result, Ok, Err}
use Rattle.std.specs.Option.{ok_or}
use Rattle.table.specs.Kind as kind
use Rattle.rules.specs.Numbers as number
use Rattle.rules.specs.Verdict.{verdict, accepts}
use Rattle.answers.specs.declared.Refusal.{Refusal}
use Rattle.answers.specs.declared.Refusal.TheVariants as refusals
use Rattle.answers.specs.declared.Request.{Request}
use Rattle.answers.specs.declared.Stop.{Stop}
use Rattle.answers.specs.declared.Stop.TheVariants as stops

-- the refusal with a number; no call asks for it of a number that is none
abbrev pub refusal : ℕ → Refusal
refusal n =
    cond (eqb n number.out_of_range) refusals.OutOfRange
    (cond (eqb n number.too_short) refusals.TooShort
    (cond (eqb n number.unsound) refusals.Unsound
    (cond (eqb n number.no_room) refusals.NoRoom
    (cond (eqb n number.nobody_waits) refusals.NobodyWaits
    (cond (eqb n number.no_client) refusals.NoClient
    (cond (eqb n number.overlong) refusals.Overlong
    (cond (eqb n number.full) refusals.Full
    (cond (eqb n number.short_block) refusals.ShortBlock
    (cond (eqb n number.wrong_check) refusals.WrongCheck
    (cond (eqb n number.wrong_number) refusals.WrongNumber
    (cond (eqb n number.wrong_use) refusals.WrongUse refusals.BadRecorded)))))))))))

-- where a run stops, and where a replay does, by the number
abbrev pub run_stop : ℕ → Stop
run_stop n =
    cond (eqb n number.ended) stops.Ended (cond (eqb n number.spent) stops.Spent (cond (eqb n number.cut) stops.Cut stops.BadCommand))

abbrev pub replay_stop : ℕ → Stop
replay_stop n = cond (eqb n number.ended) stops.Ended (stops.Block (refusal n))

-- why words are refused
abbrev pub refusal_on : List ℕ → Refusal
refusal_on t = refusal (verdict t)

-- what every call but lay-out finds in the words that it is lent: the Q of a table, or why they are refused
abbrev pub opened_on : List ℕ → Result ℕ Refusal
opened_on t = cond (accepts t) (Ok (get_or t kind.places_at 0)) (Err (refusal_on t))

-- where nobody waits a serve is refused
abbrev pub served_of : Option Request → Result Request Refusal
served_of left = ok_or left refusals.NobodyWaits
