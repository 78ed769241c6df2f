-- The calls on one slice of words, and the plain history over them: what each is answered, and who waits after it within which limits. It knows nothing of rows.
use Rattle.std.specs.Prelude.{Bool, cond, List, [], ◌∷◌, map, ℕ, min, eqb, ltb, length, Option, Result, Ok, Err}
use Rattle.table.specs.Kind as kind
use Rattle.rules.specs.History as history
use Rattle.rules.specs.History.{Waiting, Limits, nobody}
use Rattle.rules.specs.Commands.{Command, arriving, sliding, serving}
use Rattle.rules.specs.Run.{carried, after}
use Rattle.rules.specs.Verdict.{lay_out_number}
use Rattle.answers.specs.Engine.{as_choice, as_left, listing, own_ticket}
use Rattle.answers.specs.Offered.{served_of}
use Rattle.answers.specs.declared.Refusal.{Refusal}
use Rattle.answers.specs.declared.Refusal.TheVariants as refusals
use Rattle.answers.specs.declared.Request.{Request}
use Rattle.answers.specs.declared.Choice.{Choice}
use Rattle.answers.specs.declared.Report.{Report}
use Rattle.answers.specs.declared.Replay.{Replay}
use Rattle.questions.specs.Output.{listed_words}
use Rattle.recording.specs.Replay as recording
use Rattle.run.specs.Runs.{report_of}
use Rattle.replayer.specs.Replays.{replay_of}

-- a question: the listings of k clients into an output that held these words, and the questions on an id
pub data Question : Type 0 where
  heaviest : ℕ → List ℕ → Question
  lightest : ℕ → List ℕ → Question
  count : ℕ → Question
  oldest : ℕ → Question
  newest : ℕ → Question

-- a call: a command; a run, with the day record or without, of bytes with a budget; a replay of the bytes of a recording, whose first block must have that number; a question; a lay-out of Q places
pub data Call : Type 0 where
  carry : Command → Call
  run : Bool → List ℕ → ℕ → Call
  replay : List ℕ → ℕ → Call
  ask : Question → Call
  lay_out : ℕ → Call

-- a call, and how many of the slice's words are lent to it: the table, more than it, or a part that is too short
pub record Lent : Type 0 where
  pub call : Call
  pub words : ℕ

abbrev pub lent : ℕ → Call → Lent
lent n c = record { call = c; words = n }

-- what a call answers; after a listing also the output's words; of a lay-out its number
pub data Reply : Type 0 where
  arrived : Result Choice Refusal → Reply
  slid : Result (Option Request) Refusal → Reply
  served : Result Request Refusal → Reply
  ran : Result Report Refusal → Reply
  replayed : Result Replay Refusal → Reply
  listed : Result ℕ Refusal → List ℕ → Reply
  counted : Result ℕ Refusal → Reply
  told : Result ℕ Refusal → Reply
  laid : ℕ → Reply

-- what a call has to say: where the table is refused, and where s waits within limits
pub record Says : Type 0 where
  pub refused : Refusal → Reply
  pub answer : Limits → Waiting → Reply

abbrev pub says : (Refusal → Reply) → (Limits → Waiting → Reply) → Says
says refused answer = record { refused = refused; answer = answer }

abbrev pub command_says : Command → Says
command_says (arriving r) = says (λ x. arrived (Err x)) (λ L s. arrived (Ok (as_choice (history.choice L s r.id))))
command_says (sliding r) = says (λ x. slid (Err x)) (λ L s. slid (Ok (as_left (history.slide_left L s))))
command_says serving = says (λ x. served (Err x)) (λ L s. served (served_of (as_left (history.served s))))

abbrev pub run_says : List ℕ → ℕ → Says
run_says bytes budget = says (λ x. ran (Err x)) (λ L s. ran (Ok (report_of L s budget bytes)))

abbrev pub replay_says : List ℕ → ℕ → Says
replay_says bytes first = says (λ x. replayed (Err x)) (λ L s. replayed (Ok (replay_of L s first bytes)))

-- a listing that is refused leaves its output
abbrev pub listing_says : (ℕ → Waiting → List ℕ) → ℕ → List ℕ → Says
listing_says which k out = says (λ x. listed (Err x) out) (λ L s. listed (listing k (length out) s) (listed_words which k s out))

abbrev pub ticket_says : (Waiting → ℕ → ℕ) → ℕ → Says
ticket_says ticket id = says (λ x. told (Err x)) (λ L s. told (own_ticket ticket s id))

abbrev pub question_says : Question → Says
question_says (heaviest k out) = listing_says history.heaviest k out
question_says (lightest k out) = listing_says history.lightest k out
question_says (count id) = says (λ x. counted (Err x)) (λ L s. counted (Ok (history.count_of s id)))
question_says (oldest id) = ticket_says history.oldest_ticket id
question_says (newest id) = ticket_says history.newest_ticket id

-- who waits, and within which limits
pub record State : Type 0 where
  pub limits : Limits
  pub waiting : Waiting

abbrev pub state : Limits → Waiting → State
state L s = record { limits = L; waiting = s }

-- after a lay-out of q places
abbrev pub start : ℕ → State
start q = state (history.limits q) nobody

-- n words are fewer than the table takes
abbrev pub short : ℕ → State → Bool
short n s = ltb n (kind.size s.limits.places)

-- a call that is lent n words, if too few, is refused with 2 and leaves the history
abbrev pub said_of : ℕ → State → Says → Reply
said_of n s k = cond (short n s) (k.refused refusals.TooShort) (k.answer s.limits s.waiting)

abbrev pub carried_on : ℕ → State → List Command → State
carried_on n s cs = cond (short n s) s (state s.limits (after s.limits s.waiting cs))

-- what a call that is lent n words answers
abbrev pub plain_reply : ℕ → State → Call → Reply
plain_reply n s (carry c) = said_of n s (command_says c)
plain_reply n s (run day bytes budget) = said_of n s (run_says bytes budget)
plain_reply n s (replay bytes first) = said_of n s (replay_says bytes first)
plain_reply n s (ask x) = said_of n s (question_says x)
plain_reply n s (lay_out q) = laid (lay_out_number q n)

-- the commands that a call carries out where the table is not refused
abbrev pub carried_by : Call → List Command
carried_by (carry c) = c ∷ []
carried_by (run day bytes budget) = carried budget bytes
carried_by (replay bytes first) = recording.replayed first bytes
carried_by (ask x) = []
carried_by (lay_out q) = []

-- and who waits after it: a question leaves that, and so does a lay-out that is refused
abbrev pub plain_step : ℕ → State → Call → State
plain_step n s (carry c) = carried_on n s (carried_by (carry c))
plain_step n s (run day bytes budget) = carried_on n s (carried_by (run day bytes budget))
plain_step n s (replay bytes first) = carried_on n s (carried_by (replay bytes first))
plain_step n s (ask x) = s
plain_step n s (lay_out q) = cond (eqb (lay_out_number q n) 0) (start q) s

-- the same in a slice of so many words, of which no more can be lent
abbrev pub plain_answer : ℕ → State → Lent → Reply
plain_answer slice s l = plain_reply (min l.words slice) s l.call

abbrev pub plain_next : ℕ → State → Lent → State
plain_next slice s l = plain_step (min l.words slice) s l.call

-- what calls are answered, one after the other, and who waits after them
abbrev pub plain_replies : ℕ → State → List Lent → List Reply
plain_replies slice s [] = []
plain_replies slice s (l ∷ ls) = plain_answer slice s l ∷ plain_replies slice (plain_next slice s l) ls

abbrev pub plain_after : ℕ → State → List Lent → State
plain_after slice s [] = s
plain_after slice s (l ∷ ls) = plain_after slice (plain_next slice s l) ls

-- commands as single calls, each lent n words
abbrev pub singles : ℕ → List Command → List Lent
singles n cs = map (λ c. lent n (carry c)) cs
