-- What the five questions answer on lent words, and the output after a listing.
use Rattle.std.specs.Prelude.{cond, List, ℕ, ltb, Result, Ok, Err}
use Rattle.rules.specs.Numbers as number
use Rattle.rules.specs.Rows.{has}
use Rattle.rules.specs.History.{Waiting, count_of}
use Rattle.answers.specs.Engine.{needed, listing, own_ticket}
use Rattle.answers.specs.declared.Refusal.{Refusal}
use Rattle.questions.specs.Output.{listed_words}
use Rattle.limiter.specs.Lent.{waiting_in, or_refused, refusal_of}

-- heaviest and lightest, of k clients into an output of n words: how many pairs were written, or a refusal
abbrev pub listed_answer : ℕ → ℕ → List ℕ → Result ℕ Refusal
listed_answer k n t = or_refused Err t (listing k n (waiting_in t))

-- the output after it: as it was where the call is refused
abbrev pub listed_out : (ℕ → Waiting → List ℕ) → ℕ → List ℕ → List ℕ → List ℕ
listed_out which k t out = or_refused (λ _. out) t (listed_words which k (waiting_in t) out)

-- its refusal number: 4 for an output under 2 × min(k, clients) words
abbrev pub listed_number : ℕ → ℕ → List ℕ → ℕ
listed_number k n t = refusal_of t (cond (ltb n (needed k (waiting_in t))) number.no_room 0)

-- count: 0 for an absent client, which is no refusal
abbrev pub counted_answer : ℕ → List ℕ → Result ℕ Refusal
counted_answer i t = or_refused Err t (Ok (count_of (waiting_in t) i))

-- its refusal number: the table's alone
abbrev pub counted_number : List ℕ → ℕ
counted_number t = refusal_of t 0

-- oldest and newest: the ticket, or a refusal
abbrev pub told_answer : (Waiting → ℕ → ℕ) → ℕ → List ℕ → Result ℕ Refusal
told_answer ticket i t = or_refused Err t (own_ticket ticket (waiting_in t) i)

-- its refusal number: 6 where there is no such client
abbrev pub told_number : ℕ → List ℕ → ℕ
told_number i t = refusal_of t (cond (has i (waiting_in t).order) 0 number.no_client)
