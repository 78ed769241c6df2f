-- A chain of free rows, over the words by row and field, whichever rows they are.
use Rattle.std.specs.Prelude.{List, ◌≡◌, ℕ, ◌+◌, ◌*◌, ◌≤◌, ◌<◌, length, get_or}
use Rattle.table.specs.Kind as kind
use Rattle.rules.specs.Rows.{All, Below}
use Rattle.rules.specs.Linked.{Chain}
use Rattle.free_check.specs.declared.Rows.{Rows}
use Rattle.free_check.specs.Listed.{Listed}

-- the words of rows of this width by row and field, row 0 being at `from`
abbrev pub words_of : ℕ → ℕ → List ℕ → ℕ → ℕ → ℕ
words_of from width t = λ r f. get_or t (from + width * r + f) 0

-- q rows that lie within the words, and have the word that chains them
pub record Fit (q : ℕ) (rows : Rows) (t : List ℕ) : Type 0 where
  pub few : q ≤ kind.largest
  pub link : rows.link < rows.width
  pub within : rows.from + rows.width * q ≤ length t

-- every word of a row is 0 but the one that chains free rows
abbrev pub Blank : ℕ → ℕ → (ℕ → ℕ) → Type 0
Blank width link word = (f : ℕ) → f < width → (f ≡ link → ⊥) → word f ≡ 0

-- the chain from `first` on has these rows of q, all blank, and then ends
pub record Chained (q width link : ℕ) (word : ℕ → ℕ → ℕ) (first : ℕ) (rows : List ℕ) : Type 0 where
  pub below : Below q rows
  pub chain : Chain (λ r. word r link) first rows
  pub blank : All (λ r. Blank width link (word r)) rows

-- and they are n
abbrev pub Free : ℕ → ℕ → ℕ → (ℕ → ℕ → ℕ) → ℕ → ℕ → Type 0
Free q width link word first n = Listed n (Chained q width link word first)
