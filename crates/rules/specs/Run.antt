-- The run: what its bytes say, where it stops, which commands it carries out, and what they come to by the plain history.
use Rattle.std.specs.Prelude.{Bool, cond, ◌&&◌, ◌||◌, List, [], ◌∷◌, ℕ, zero, suc, ◌+◌, ◌*◌, ltb, eqb, length, drop, get_or}
use Rattle.rules.specs.History.{Waiting, Limits, request}
use Rattle.rules.specs.Picture.{Picture}
use Rattle.rules.specs.Numbers as number
use Rattle.rules.specs.Commands.{Command, arriving, sliding, serving, Outcome, joined, evicted, turned, passed, served, idle, outcome, step, next}

-- bytes of a command: a kind, an id and a ticket of four bytes each
abbrev pub command_bytes : ℕ
command_bytes = 9

-- a number in four bytes, lowest first
abbrev pub four_bytes : List ℕ → ℕ
four_bytes s = get_or s 0 0 + 256 * get_or s 1 0 + 65536 * get_or s 2 0 + 16777216 * get_or s 3 0

-- the kind, the id and the ticket at the front of the bytes
abbrev pub kind_of : List ℕ → ℕ
kind_of s = get_or s 0 0

abbrev pub id_in : List ℕ → ℕ
id_in s = four_bytes (drop 1 s)

abbrev pub ticket_in : List ℕ → ℕ
ticket_in s = four_bytes (drop 5 s)

-- whether a kind, an id and a ticket are a command: 1 arrive, 2 slide, 3 serve, whose id and ticket are 0
abbrev pub known : ℕ → ℕ → ℕ → Bool
known k i t = eqb k 1 || (eqb k 2 || (eqb k 3 && (eqb i 0 && eqb t 0)))

-- the command that they are
abbrev pub command_of : ℕ → ℕ → ℕ → Command
command_of k i t = cond (eqb k 1) (arriving (request i t)) (cond (eqb k 2) (sliding (request i t)) serving)

-- the number at which a run stops, with a budget: no bytes left; the budget is spent; under 9 bytes left; no command
unfoldable pub stop : ℕ → List ℕ → ℕ
stop zero s = cond (eqb (length s) 0) number.ended number.spent
stop (suc b) s =
    cond (eqb (length s) 0) number.ended
    (cond (ltb (length s) command_bytes) number.cut (cond (known (kind_of s) (id_in s) (ticket_in s)) (stop b (drop command_bytes s)) number.bad_command))

-- the commands before the stop
unfoldable pub carried : ℕ → List ℕ → List Command
carried zero s = []
carried (suc b) s =
    cond (eqb (length s) 0) []
    (cond (ltb (length s) command_bytes) []
    (cond (known (kind_of s) (id_in s) (ticket_in s)) (command_of (kind_of s) (id_in s) (ticket_in s) ∷ carried b (drop command_bytes s)) []))

-- the history after commands, and what each of them comes to, within limits
abbrev pub after : Limits → Waiting → List Command → Waiting
after L s [] = s
after L s (c ∷ cs) = after L (step L s c) cs

abbrev pub outcomes : Limits → Waiting → List Command → List Outcome
outcomes L s [] = []
outcomes L s (c ∷ cs) = outcome L s c ∷ outcomes L (step L s c) cs

-- the picture after them
abbrev pub next_all : Picture → List Command → Picture
next_all P [] = P
next_all P (c ∷ cs) = next_all (next P c) cs

-- what an outcome adds to the six totals
pub record Totals : Type 0 where
  pub joined : ℕ
  pub evicted : ℕ
  pub passed : ℕ
  pub served : ℕ
  pub turned : ℕ
  pub idle : ℕ

abbrev pub totals : ℕ → ℕ → ℕ → ℕ → ℕ → ℕ → Totals
totals j e p s t i = record { joined = j; evicted = e; passed = p; served = s; turned = t; idle = i }

-- an arrival that evicts joins too, and so does every slide
abbrev pub adds : Outcome → Totals
adds joined = totals 1 0 0 0 0 0
adds (evicted r) = totals 1 1 0 0 0 0
adds (passed r) = totals 1 0 1 0 0 0
adds (served r) = totals 0 0 0 1 0 0
adds turned = totals 0 0 0 0 1 0
adds idle = totals 0 0 0 0 0 1

-- one of the totals over outcomes
abbrev pub total : (Totals → ℕ) → List Outcome → ℕ
total f [] = 0
total f (o ∷ os) = f (adds o) + total f os
