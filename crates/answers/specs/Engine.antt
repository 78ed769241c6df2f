-- What an engine answers for what the plain history says.
use Rattle.std.specs.Prelude.{cond, ℕ, ◌*◌, ltb, Option, Some, None, Result, Ok, Err}
use Rattle.rules.specs.Rows.{has}
use Rattle.rules.specs.History as history
use Rattle.rules.specs.History.{Waiting, given}
use Rattle.answers.specs.declared.Refusal.{Refusal}
use Rattle.answers.specs.declared.Refusal.TheVariants as refusals
use Rattle.answers.specs.declared.Request.{Request}
use Rattle.answers.specs.declared.Choice.{Choice}
use Rattle.answers.specs.declared.Choice.TheVariants as choices

-- a request as the code holds it, and back
abbrev pub as_struct : history.Request → Request
as_struct r = record { id = r.id; ticket = r.ticket }

abbrev pub as_request : Request → history.Request
as_request r = history.request r.id r.ticket

-- which of the three an arrival comes to
abbrev pub as_choice : history.Choice → Choice
as_choice history.joined = choices.Joined
as_choice (history.evicted r) = choices.Evicted (as_struct r)
as_choice history.turned = choices.Turned

-- the request that left, if one did
abbrev pub as_left : history.Left → Option Request
as_left history.nothing = None
as_left (history.left r) = Some (as_struct r)

-- the words that min(k, clients) pairs take
abbrev pub needed : ℕ → Waiting → ℕ
needed k s = 2 * given k s

-- a listing of k clients into an output of n words: how many pairs were written, or that it has no room for them
abbrev pub listing : ℕ → ℕ → Waiting → Result ℕ Refusal
listing k n s = cond (ltb n (needed k s)) (Err refusals.NoRoom) (Ok (given k s))

-- a ticket of client i, or that there is no such client
abbrev pub own_ticket : (Waiting → ℕ → ℕ) → Waiting → ℕ → Result ℕ Refusal
own_ticket ticket s i = cond (has i s.order) (Ok (ticket s i)) (Err refusals.NoClient)
