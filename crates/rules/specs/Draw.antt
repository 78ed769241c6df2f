-- The drawing of a picture: every word of the table, in document 01's order.
use Rattle.std.specs.Prelude.{List, [], ◌∷◌, cond, ℕ, suc, eqb, length, get_or}
use Rattle.table.specs.Kind as kind
use Rattle.table.specs.Regions.{Regions, words}
use Rattle.rules.specs.Rows.{head_or, last_or}
use Rattle.rules.specs.Picture.{Item, Picture, item_row, item_rows, client_rows, own_rows, count_of, look, id_of}

-- the row after r in a list, none after the last; d where r is not in it
abbrev pub after : ℕ → List ℕ → ℕ → ℕ
after d [] r = d
after d (x ∷ xs) r = cond (eqb x r) (head_or kind.none xs) (after d xs r)

-- the row before r, p before the first; d where r is not in it
abbrev pub before : ℕ → ℕ → List ℕ → ℕ → ℕ
before d p [] r = d
before d p (x ∷ xs) r = cond (eqb x r) p (before d x xs r)

-- the row after r in its chain, 0 where it is in none
abbrev pub after_in : List (List ℕ) → ℕ → ℕ
after_in [] r = 0
after_in (c ∷ cs) r = after (after_in cs r) c r

abbrev pub owner_of : List Item → ℕ → ℕ
owner_of = look item_row (λ i. i.client)

abbrev pub ticket_of : List Item → ℕ → ℕ
ticket_of = look item_row (λ i. i.ticket)

-- of the clients cs those whose count is k, n being the counts
abbrev pub group : (ℕ → ℕ) → ℕ → List ℕ → List ℕ
group n k [] = []
group n k (c ∷ cs) = cond (eqb (n c) k) (c ∷ group n k cs) (group n k cs)

-- the header, whose further words are 0
abbrev pub header_words : Picture → List ℕ
header_words P =
    kind.mark ∷ P.places ∷ length P.window ∷ length P.clients
    ∷ head_or kind.none (item_rows P) ∷ last_or kind.none (item_rows P)
    ∷ head_or kind.none (client_rows P) ∷ last_or kind.none (client_rows P)
    ∷ head_or kind.none P.free_items ∷ head_or kind.none P.free_clients ∷ []

-- item row r. A free row is in no list but its free chain, so the rest of it is 0
abbrev pub item_words : Picture → ℕ → List ℕ
item_words P r =
    owner_of P.window r ∷ ticket_of P.window r
    ∷ before 0 kind.none (item_rows P) r ∷ after (after 0 P.free_items r) (item_rows P) r
    ∷ before 0 kind.none (own_rows (owner_of P.window r) P.window) r ∷ after 0 (own_rows (owner_of P.window r) P.window) r ∷ []

-- client row r
abbrev pub client_words : Picture → ℕ → List ℕ
client_words P r =
    id_of P.clients r ∷ count_of P.window r
    ∷ before 0 kind.none (client_rows P) r ∷ after (after 0 P.free_clients r) (client_rows P) r
    ∷ head_or 0 (own_rows r P.window) ∷ last_or 0 (own_rows r P.window)
    ∷ after_in P.chains r ∷ []

-- count row r, which is that of the count r + 1
abbrev pub count_words : Picture → ℕ → List ℕ
count_words P r =
    head_or kind.none (group (count_of P.window) (suc r) (client_rows P)) ∷ last_or kind.none (group (count_of P.window) (suc r) (client_rows P)) ∷ []

abbrev pub drawn : Picture → Regions
drawn P =
    record {
      header = λ f. get_or (header_words P) f 0;
      item = λ r f. get_or (item_words P r) f 0;
      client = λ r f. get_or (client_words P r) f 0;
      count = λ r f. get_or (count_words P r) f 0;
      bucket = λ b. head_or kind.none (get_or P.chains b []);
    }

unfoldable pub draw : Picture → List ℕ
draw P = words P.places (drawn P)
