-- What calls answer and leave by the functions that their contracts state; and the slice that they leave, as a picture and the words beyond it.
use Rattle.std.specs.Prelude.{cond, List, [], ◌∷◌, ◌++◌, ℕ, ◌*◌, min, eqb, length, take, drop}
use Rattle.table.specs.Kind as kind
use Rattle.rules.specs.History as history
use Rattle.rules.specs.Picture.{Picture, limits_of, plain}
use Rattle.rules.specs.Steps as steps
use Rattle.rules.specs.Commands.{Command, arriving, sliding, serving}
use Rattle.rules.specs.Run.{next_all}
use Rattle.rules.specs.Draw.{draw}
use Rattle.rules.specs.Verdict.{afterwards, lay_out_number, laid_out}
use Rattle.limiter.specs.Questions.{listed_answer, listed_out, counted_answer, told_answer}
use Rattle.limiter.specs.Calls.{arrive_answer, slide_answer, serve_answer}
use Rattle.limiter.specs.Runs.{run_answer, run_words, replay_answer, replay_words}
use Rattle.history.specs.Plain.{heaviest, lightest, count, oldest, newest, Call, carry, run, replay, ask, lay_out, Lent, Reply, arrived, slid, served, ran, replayed, listed, counted, told, laid, State, state, short, carried_by}

-- what a call that is lent the words t answers
abbrev pub reply : Call → List ℕ → Reply
reply (carry (arriving r)) t = arrived (arrive_answer r.id t)
reply (carry (sliding r)) t = slid (slide_answer t)
reply (carry serving) t = served (serve_answer t)
reply (run day bytes budget) t = ran (run_answer budget bytes t)
reply (replay bytes first) t = replayed (replay_answer first bytes t)
reply (ask (heaviest k out)) t = listed (listed_answer k (length out) t) (listed_out history.heaviest k t out)
reply (ask (lightest k out)) t = listed (listed_answer k (length out) t) (listed_out history.lightest k t out)
reply (ask (count id)) t = counted (counted_answer id t)
reply (ask (oldest id)) t = told (told_answer history.oldest_ticket id t)
reply (ask (newest id)) t = told (told_answer history.newest_ticket id t)
reply (lay_out q) t = laid (lay_out_number q (length t))

-- and what they hold afterwards; a question is lent them to read alone
abbrev pub words : Call → List ℕ → List ℕ
words (carry (arriving r)) t = afterwards (λ P. steps.arrived P r.id r.ticket) t
words (carry (sliding r)) t = afterwards (λ P. steps.slid P r.id r.ticket) t
words (carry serving) t = afterwards steps.served t
words (run day bytes budget) t = run_words budget bytes t
words (replay bytes first) t = replay_words first bytes t
words (ask x) t = t
words (lay_out q) t = laid_out q t

-- the slice after a call that is lent its first words
abbrev pub slice_after : Lent → List ℕ → List ℕ
slice_after l t = words l.call (take l.words t) ++ drop l.words t

-- what calls answer, one after the other, and the slice after them
abbrev pub replies : List Lent → List ℕ → List Reply
replies [] t = []
replies (l ∷ ls) t = reply l.call (take l.words t) ∷ replies ls (slice_after l t)

abbrev pub table_after : List Lent → List ℕ → List ℕ
table_after [] t = t
table_after (l ∷ ls) t = table_after ls (slice_after l t)

-- a slice: the picture of its table, with its rows, and the words beyond it
pub record Slice : Type 0 where
  pub picture : Picture
  pub beyond : List ℕ

abbrev pub slice : Picture → List ℕ → Slice
slice P beyond = record { picture = P; beyond = beyond }

-- its words, who waits in it, and what it is after a lay-out over the words w
abbrev pub drawn_out : Slice → List ℕ
drawn_out S = draw S.picture ++ S.beyond

abbrev pub state_of : Slice → State
state_of S = state (limits_of S.picture) (plain S.picture)

abbrev pub fresh : ℕ → List ℕ → Slice
fresh q w = slice (steps.empty q) (drop (kind.size q) w)

-- after commands, and after a call, that are lent n words of it; after calls
abbrev pub carried_in : ℕ → Slice → List Command → Slice
carried_in n S cs = cond (short n (state_of S)) S (slice (next_all S.picture cs) S.beyond)

abbrev pub picture_step : ℕ → Slice → Call → Slice
picture_step n S (carry c) = carried_in n S (carried_by (carry c))
picture_step n S (run day bytes budget) = carried_in n S (carried_by (run day bytes budget))
picture_step n S (replay bytes first) = carried_in n S (carried_by (replay bytes first))
picture_step n S (ask x) = S
picture_step n S (lay_out q) = cond (eqb (lay_out_number q n) 0) (fresh q (drawn_out S)) S

abbrev pub picture_next : Slice → Lent → Slice
picture_next S l = picture_step (min l.words (length (drawn_out S))) S l.call

abbrev pub picture_after : Slice → List Lent → Slice
picture_after S [] = S
picture_after S (l ∷ ls) = picture_after (picture_next S l) ls

-- the words that a call alters at most: 47 for an arrive, 48 for a slide, 24 for a serve, 48 for each command of a run or a replay, none for a question, those of the table for a lay-out
abbrev pub most_altered : Call → ℕ
most_altered (carry (arriving r)) = 47
most_altered (carry (sliding r)) = 48
most_altered (carry serving) = 24
most_altered (run day bytes budget) = 48 * length (carried_by (run day bytes budget))
most_altered (replay bytes first) = 48 * length (carried_by (replay bytes first))
most_altered (ask x) = 0
most_altered (lay_out q) = kind.size q
