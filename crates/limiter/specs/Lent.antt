-- What every call reads from the words that it is lent, and its refusal by the verdict on them.
use Rattle.std.specs.Prelude.{cond, List, ◌∷◌, map, ℕ, eqb, take}
use Rattle.rules.specs.History.{Waiting, Limits}
use Rattle.rules.specs.Picture.{Picture, limits_of, plain}
use Rattle.rules.specs.Sound.{picture}
use Rattle.rules.specs.Verdict.{room, verdict, accepts}
use Rattle.answers.specs.declared.Refusal.{Refusal}
use Rattle.answers.specs.Offered.{refusal_on}

-- the picture of the lent table; the words beyond it are never read
abbrev pub lent : List ℕ → Picture
lent t = picture (take (room t) t)

-- who waits in it, and within which limits
abbrev pub waiting_in : List ℕ → Waiting
waiting_in t = plain (lent t)

abbrev pub limits_in : List ℕ → Limits
limits_in t = limits_of (lent t)

-- an answer, or what a table that is refused gets
abbrev pub or_refused : {A : Type 0} → (Refusal → A) → List ℕ → A → A
or_refused refused t a = cond (accepts t) a (refused (refusal_on t))

-- the refusal number of a call: the table's before its own
abbrev pub refusal_of : List ℕ → ℕ → ℕ
refusal_of t own = cond (accepts t) own (verdict t)

-- a reply in document 01's numbers: the refusal number, 0 for none, then the values, each 0 where there is none to give
abbrev pub numbers_of : ℕ → List ℕ → List ℕ
numbers_of refusal values = refusal ∷ cond (eqb refusal 0) values (map (λ _. 0) values)
