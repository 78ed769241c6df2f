-- What a listing reads from the words: rows from one on, and the id and count of each.
use Rattle.std.specs.Prelude.{List, [], ◌∷◌, ℕ, zero, suc}
use Rattle.table.specs.Kind as kind
use Rattle.table.specs.Regions.{client_word}

-- the next n rows from r on, where `on` leads
abbrev pub rows_from : (ℕ → ℕ) → ℕ → ℕ → List ℕ
rows_from on zero r = []
rows_from on (suc n) r = r ∷ rows_from on n (on r)

-- id and count of each row, by its words
abbrev pub pairs_at : (ℕ → ℕ → ℕ) → List ℕ → List ℕ
pairs_at word [] = []
pairs_at word (r ∷ rs) = word r kind.id ∷ word r kind.count ∷ pairs_at word rs

-- the same of a table of q places: n client rows from r on by the client word `link`
abbrev pub clients_from : ℕ → List ℕ → ℕ → ℕ → ℕ → List ℕ
clients_from q t link n r = rows_from (λ x. client_word t q x link) n r

abbrev pub pairs_from : ℕ → List ℕ → ℕ → ℕ → ℕ → List ℕ
pairs_from q t link n r = pairs_at (client_word t q) (clients_from q t link n r)
