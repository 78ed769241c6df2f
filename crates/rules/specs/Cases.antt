-- The whiteboard's cases that are proved, and one more, as one table. Here the definitions are tried on it; the theorem over the calls is in crate history.
use Rattle.std.specs.Prelude.{Bool, ◌&&◌, List, [], ◌∷◌, ℕ, eqb}
use Rattle.rules.specs.Rows.{same}
use Rattle.rules.specs.History.{request, heaviest, oldest_ticket, newest_ticket}
use Rattle.rules.specs.Commands.{Command, arriving, sliding, serving, Outcome, joined, evicted, turned, passed, served, idle, outcome, next}
use Rattle.rules.specs.Picture.{Picture, limits_of, plain}
use Rattle.rules.specs.Steps.{empty}
use Rattle.rules.specs.Draw.{draw}
use Rattle.rules.specs.Sound.{picture, sound}
use Rattle.rules.specs.Verdict.{lay_out_number}

-- an entry of a session: a command and what it comes to; the clients then, heaviest first, as id and count pairs; a client's oldest and newest ticket
pub data Entry : Type 0 where
  comes : Command → Outcome → Entry
  lists : List ℕ → Entry
  tickets : ℕ → ℕ → ℕ → Entry

-- a lay-out of Q places in so many words, and its number; or a session from a laid-out table of Q places, and the words after it
pub data Case : Type 0 where
  lay_out : ℕ → ℕ → ℕ → Case
  session : ℕ → List Entry → List ℕ → Case

-- an outcome in numbers
abbrev code : Outcome → List ℕ
code joined = 0 ∷ []
code (evicted r) = 1 ∷ r.id ∷ r.ticket ∷ []
code turned = 2 ∷ []
code (passed r) = 3 ∷ r.id ∷ r.ticket ∷ []
code (served r) = 4 ∷ r.id ∷ r.ticket ∷ []
code idle = 5 ∷ []

-- a session is right from a picture on: the plain history answers so, and the drawing of the last picture is the words, which are sound and show it
abbrev goes : Picture → List Entry → List ℕ → Bool
goes P [] words = same (draw P) words && sound words && same (draw (picture words)) words
goes P (comes c o ∷ es) words = same (code (outcome (limits_of P) (plain P) c)) (code o) && goes (next P c) es words
goes P (lists l ∷ es) words = same (heaviest P.places (plain P)) l && goes P es words
goes P (tickets i a b ∷ es) words = eqb (oldest_ticket (plain P) i) a && eqb (newest_ticket (plain P) i) b && goes P es words

abbrev pub right : Case → Bool
right (lay_out q n number) = eqb (lay_out_number q n) number
right (session q es words) = goes (empty q) es words

-- the words that are left, worked out by a program that shares nothing with this one: after the session, where client 7 holds the one place, and after the commands of `from_the_middle`
abbrev after9 : List ℕ
after9 = 1212940289 ∷ 4 ∷ 3 ∷ 2 ∷ 2 ∷ 0 ∷ 1 ∷ 2 ∷ 1 ∷ 0 ∷ 0 ∷ 0 ∷ 0 ∷ 0 ∷ 0 ∷ 0 ∷ 2 ∷ 17 ∷ 3 ∷ 4294967295 ∷ 3 ∷ 4294967295 ∷ 0 ∷ 0 ∷ 0 ∷ 4294967295 ∷ 0 ∷ 0 ∷ 1 ∷ 12 ∷ 4294967295 ∷ 3 ∷ 4294967295 ∷ 4294967295 ∷ 2 ∷ 14 ∷ 2 ∷ 0 ∷ 4294967295 ∷ 0 ∷ 0 ∷ 0 ∷ 0 ∷ 3 ∷ 0 ∷ 0 ∷ 0 ∷ 2 ∷ 1 ∷ 4294967295 ∷ 2 ∷ 2 ∷ 2 ∷ 4294967295 ∷ 3 ∷ 2 ∷ 1 ∷ 4294967295 ∷ 3 ∷ 0 ∷ 1 ∷ 0 ∷ 0 ∷ 0 ∷ 4294967295 ∷ 0 ∷ 0 ∷ 0 ∷ 1 ∷ 1 ∷ 2 ∷ 2 ∷ 4294967295 ∷ 4294967295 ∷ 4294967295 ∷ 4294967295 ∷ 2 ∷ 4294967295 ∷ 4294967295 ∷ 4294967295 ∷ []

abbrev holding7 : List ℕ
holding7 = 1212940289 ∷ 1 ∷ 1 ∷ 1 ∷ 0 ∷ 0 ∷ 0 ∷ 0 ∷ 4294967295 ∷ 4294967295 ∷ 0 ∷ 0 ∷ 0 ∷ 0 ∷ 0 ∷ 0 ∷ 0 ∷ 0 ∷ 4294967295 ∷ 4294967295 ∷ 4294967295 ∷ 4294967295 ∷ 7 ∷ 1 ∷ 4294967295 ∷ 4294967295 ∷ 0 ∷ 0 ∷ 4294967295 ∷ 0 ∷ 0 ∷ 0 ∷ []

abbrev after21 : List ℕ
after21 = 1212940289 ∷ 3 ∷ 3 ∷ 3 ∷ 2 ∷ 0 ∷ 0 ∷ 2 ∷ 4294967295 ∷ 4294967295 ∷ 0 ∷ 0 ∷ 0 ∷ 0 ∷ 0 ∷ 0 ∷ 0 ∷ 20 ∷ 1 ∷ 4294967295 ∷ 4294967295 ∷ 4294967295 ∷ 2 ∷ 19 ∷ 2 ∷ 0 ∷ 4294967295 ∷ 4294967295 ∷ 1 ∷ 15 ∷ 4294967295 ∷ 1 ∷ 4294967295 ∷ 4294967295 ∷ 2 ∷ 1 ∷ 4294967295 ∷ 1 ∷ 0 ∷ 0 ∷ 2 ∷ 4 ∷ 1 ∷ 0 ∷ 2 ∷ 2 ∷ 2 ∷ 4294967295 ∷ 3 ∷ 1 ∷ 1 ∷ 4294967295 ∷ 1 ∷ 1 ∷ 4294967295 ∷ 0 ∷ 2 ∷ 4294967295 ∷ 4294967295 ∷ 4294967295 ∷ 4294967295 ∷ 0 ∷ 1 ∷ 4294967295 ∷ []

-- the session's nine steps, with a listing after steps 4, 5, 7 and 8, and the oldest and newest of client 3 after step 9
abbrev nine_steps : List Entry
nine_steps =
    comes (arriving (request 1 10)) joined ∷ comes (arriving (request 1 11)) joined
    ∷ comes (arriving (request 2 12)) joined ∷ comes (arriving (request 1 13)) joined ∷ lists (1 ∷ 3 ∷ 2 ∷ 1 ∷ [])
    ∷ comes (arriving (request 3 14)) (evicted (request 1 13)) ∷ lists (1 ∷ 2 ∷ 2 ∷ 1 ∷ 3 ∷ 1 ∷ [])
    ∷ comes (arriving (request 1 15)) turned
    ∷ comes (arriving (request 2 16)) turned ∷ lists (1 ∷ 2 ∷ 2 ∷ 1 ∷ 3 ∷ 1 ∷ [])
    ∷ comes (sliding (request 3 17)) (passed (request 1 10)) ∷ lists (3 ∷ 2 ∷ 2 ∷ 1 ∷ 1 ∷ 1 ∷ [])
    ∷ comes serving (served (request 1 11)) ∷ tickets 3 14 17 ∷ []

-- 21 commands at Q = 3, of which the last evicts from the middle of the window; the whiteboard has no such case since W-203
abbrev from_the_middle : List Entry
from_the_middle =
    comes (arriving (request 2 0)) joined ∷ comes (arriving (request 4 1)) joined ∷ comes (arriving (request 1 2)) joined
    ∷ comes (arriving (request 4 3)) turned ∷ comes (arriving (request 2 4)) turned ∷ comes (arriving (request 4 5)) turned
    ∷ comes (arriving (request 4 6)) turned ∷ comes (arriving (request 2 7)) turned ∷ comes (arriving (request 2 8)) turned
    ∷ comes serving (served (request 2 0)) ∷ comes (arriving (request 1 10)) joined ∷ comes (sliding (request 1 11)) (passed (request 4 1))
    ∷ comes (arriving (request 1 12)) turned ∷ comes (arriving (request 1 13)) turned ∷ comes serving (served (request 1 2))
    ∷ comes (arriving (request 4 15)) joined ∷ comes (sliding (request 4 16)) (passed (request 1 10)) ∷ comes (arriving (request 4 17)) turned
    ∷ comes serving (served (request 1 11)) ∷ comes (arriving (request 3 19)) joined ∷ comes (arriving (request 2 20)) (evicted (request 4 16)) ∷ []

-- the table of cases
abbrev pub cases : List Case
cases =
    lay_out 0 16016 1 ∷ lay_out 1001 16032 1 ∷ lay_out 1000 16016 0 ∷ lay_out 1000 16015 2
    ∷ session 4 nine_steps after9
    ∷ session 1 (comes (arriving (request 7 0)) joined ∷ comes (arriving (request 8 1)) turned ∷ []) holding7
    ∷ session 1 (comes (arriving (request 7 0)) joined ∷ comes (arriving (request 7 4)) turned ∷ []) holding7
    ∷ session 3 from_the_middle after21
    ∷ []
