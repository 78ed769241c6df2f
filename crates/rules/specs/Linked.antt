-- Rows linked in the table: both ways over two columns and two ends, or one way from a first row.
use Rattle.std.specs.Prelude.{List, [], ◌∷◌, ◌≡◌, ℕ, ◌<◌}
use Rattle.table.specs.Kind as kind
use Rattle.table.specs.Owners.{OrderWords, WindowWords}
use Rattle.rules.specs.Rows.{Distinct, Below}

-- a link word: none, or a row of a table of q places
abbrev pub Link : ℕ → ℕ → Type 0
Link q x = (x ≡ kind.none → ⊥) → x < q

-- the columns and ends of a doubly linked list
pub record Links : Type 0 where
  pub back : ℕ → ℕ
  pub on : ℕ → ℕ
  pub first : ℕ
  pub last : ℕ

-- the rows from pointer h on, after p, up to the pointer n; l is the last of them, or p
abbrev pub Run : (ℕ → ℕ) → (ℕ → ℕ) → ℕ → ℕ → List ℕ → ℕ → ℕ → Type 0
Run b o p h [] n l = (h ≡ n) × (l ≡ p)
Run b o p h (r ∷ rs) n l = (h ≡ r) × (b r ≡ p) × Run b o r (o r) rs n l

-- the links visit these rows, the same both ways
pub record Linked (q : ℕ) (L : Links) (rs : List ℕ) : Type 0 where
  pub run : Run L.back L.on kind.none L.first rs kind.none L.last
  pub distinct : Distinct rs
  pub below : Below q rs

-- the rows linked one way from h on
abbrev pub Chain : (ℕ → ℕ) → ℕ → List ℕ → Type 0
Chain o h [] = h ≡ kind.none
Chain o h (r ∷ rs) = (h ≡ r) × Chain o (o r) rs

-- the lists of a table: every waiting item, oldest first; the clients, lightest first; the items of one client, oldest first
abbrev pub window : WindowWords → Links
window W = record { back = W.earlier; on = W.later; first = W.front; last = W.back }

abbrev pub order : OrderWords → Links
order O = record { back = O.lighter; on = O.heavier; first = O.lightest; last = O.heaviest }

abbrev pub own : ℕ → WindowWords → Links
own c W = record { back = W.own_earlier; on = W.own_later; first = W.oldest c; last = W.newest c }
