-- The output after a listing.
use Rattle.std.specs.Prelude.{cond, List, ◌++◌, ℕ, ltb, length, drop}
use Rattle.rules.specs.History.{Waiting}
use Rattle.answers.specs.Engine.{needed}

-- the pairs and then the words that were there; as it was where they have no room
abbrev pub listed_words : (ℕ → Waiting → List ℕ) → ℕ → Waiting → List ℕ → List ℕ
listed_words listing k s out = cond (ltb (length out) (needed k s)) out (listing k s ++ drop (needed k s) out)
