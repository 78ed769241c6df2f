-- The whiteboard's entries as calls with their replies, and when a case of its table is right of the calls.
use Rattle.std.specs.Prelude.{List, [], ◌∷◌, ◌++◌, map, ◌≡◌, ℕ, ◌*◌, ◌/◌, length, replicate, drop, Some, None, Ok, Err}
use Rattle.table.specs.Kind as kind
use Rattle.rules.specs.Commands as rules
use Rattle.rules.specs.Commands.{Command, arriving, sliding, serving, Outcome}
use Rattle.rules.specs.Verdict.{laid_out}
use Rattle.rules.specs.Cases as table
use Rattle.rules.specs.Cases.{Entry, comes, lists, tickets, Case}
use Rattle.answers.specs.Engine.{as_struct}
use Rattle.answers.specs.declared.Refusal.TheVariants as refusals
use Rattle.answers.specs.declared.Choice.TheVariants as choices
use Rattle.history.specs.Plain.{heaviest, oldest, newest, Call, carry, ask, lay_out, Lent, lent, Reply, arrived, slid, served, listed, told, laid}
use Rattle.history.specs.Words.{reply, replies, table_after}

-- a call and its reply
pub record Asked : Type 0 where
  pub call : Call
  pub reply : Reply

abbrev asked : Call → Reply → Asked
asked c r = record { call = c; reply = r }

-- the reply to an arrive or a slide whose request joins and none leaves; no serve comes to that
abbrev joined_reply : Command → Reply
joined_reply (arriving r) = arrived (Ok choices.Joined)
joined_reply (sliding r) = slid (Ok None)
joined_reply serving = arrived (Ok choices.Joined)

-- the reply to a command, by what it comes to
abbrev outcome_reply : Command → Outcome → Reply
outcome_reply c rules.joined = joined_reply c
outcome_reply c (rules.evicted r) = arrived (Ok (choices.Evicted (as_struct r)))
outcome_reply c rules.turned = arrived (Ok choices.Turned)
outcome_reply c (rules.passed r) = slid (Ok (Some (as_struct r)))
outcome_reply c (rules.served r) = served (Ok (as_struct r))
outcome_reply c rules.idle = served (Err refusals.NobodyWaits)

-- an output of zeros that has room for all clients of q places
abbrev output : ℕ → List ℕ
output q = replicate (2 * q) 0

-- an entry on a table of q places: the command; heaviest q; oldest and newest
abbrev entry_asked : ℕ → Entry → List Asked
entry_asked q (comes c o) = asked (carry c) (outcome_reply c o) ∷ []
entry_asked q (lists l) = asked (ask (heaviest q (output q))) (listed (Ok (length l / 2)) (l ++ drop (length l) (output q))) ∷ []
entry_asked q (tickets i a b) = asked (ask (oldest i)) (told (Ok a)) ∷ asked (ask (newest i)) (told (Ok b)) ∷ []

abbrev pub all_asked : ℕ → List Entry → List Asked
all_asked q [] = []
all_asked q (e ∷ es) = entry_asked q e ++ all_asked q es

-- calls that are lent exactly the table
abbrev pub calls : ℕ → List Asked → List Lent
calls q asked = map (λ a. lent (kind.size q) a.call) asked

-- a table of Q places, laid out over zeros
abbrev pub on_zeros : ℕ → List ℕ
on_zeros q = laid_out q (replicate (kind.size q) 0)

-- a case is right: a lay-out in any words of that number answers this; the calls answer and leave this
abbrev pub Right : Case → Type 0
Right (table.lay_out q n number) = (t : List ℕ) → length t ≡ n → reply (lay_out q) t ≡ laid number
Right (table.session q es words) =
    (replies (calls q (all_asked q es)) (on_zeros q) ≡ map (λ a. a.reply) (all_asked q es)) × (table_after (calls q (all_asked q es)) (on_zeros q) ≡ words)
