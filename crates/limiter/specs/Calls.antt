-- What arrive, slide and serve answer on lent words, in cases and in document 01's values.
use Rattle.std.specs.Prelude.{List, [], ◌∷◌, ℕ, Option, Result, Ok, Err}
use Rattle.rules.specs.Numbers as number
use Rattle.rules.specs.History.{Choice, joined, evicted, turned, Left, nothing, left, choice, slide_left}
use Rattle.rules.specs.History as history
use Rattle.answers.specs.Engine.{as_choice, as_left}
use Rattle.answers.specs.Offered.{served_of}
use Rattle.answers.specs.declared.Refusal.{Refusal}
use Rattle.answers.specs.declared.Request.{Request}
use Rattle.answers.specs.declared.Choice as code
use Rattle.limiter.specs.Lent.{waiting_in, limits_in, or_refused, refusal_of}

-- arrive: which of the three happened, and the request that left
abbrev pub arrive_choice : ℕ → List ℕ → Choice
arrive_choice i t = choice (limits_in t) (waiting_in t) i

abbrev pub arrive_answer : ℕ → List ℕ → Result code.Choice Refusal
arrive_answer i t = or_refused Err t (Ok (as_choice (arrive_choice i t)))

-- being turned away is a reply, number 0
abbrev pub arrive_number : List ℕ → ℕ
arrive_number t = refusal_of t 0

abbrev pub choice_values : Choice → List ℕ
choice_values joined = 1 ∷ 0 ∷ 0 ∷ []
choice_values (evicted r) = 2 ∷ r.id ∷ r.ticket ∷ []
choice_values turned = 3 ∷ 0 ∷ 0 ∷ []

-- slide: the request that left, if one did
abbrev pub slide_leaves : List ℕ → Left
slide_leaves t = slide_left (limits_in t) (waiting_in t)

abbrev pub slide_answer : List ℕ → Result (Option Request) Refusal
slide_answer t = or_refused Err t (Ok (as_left (slide_leaves t)))

abbrev pub slide_number : List ℕ → ℕ
slide_number t = refusal_of t 0

abbrev pub slide_values : Left → List ℕ
slide_values nothing = 0 ∷ 0 ∷ 0 ∷ []
slide_values (left r) = 1 ∷ r.id ∷ r.ticket ∷ []

-- serve: the request that left
abbrev pub serve_answer : List ℕ → Result Request Refusal
serve_answer t = or_refused Err t (served_of (as_left (history.served (waiting_in t))))

-- its refusal number: 5 where nobody waits
abbrev pub idle : Left → ℕ
idle nothing = number.nobody_waits
idle (left r) = 0

abbrev pub serve_number : List ℕ → ℕ
serve_number t = refusal_of t (idle (history.served (waiting_in t)))

abbrev pub serve_values : Left → List ℕ
serve_values nothing = 0 ∷ 0 ∷ []
serve_values (left r) = r.id ∷ r.ticket ∷ []
