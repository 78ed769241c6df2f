-- The picture of a table: the plain history with its rows.
use Rattle.std.specs.Prelude.{List, [], ◌∷◌, ◌++◌, map, cond, ℕ, eqb, length}
use Rattle.rules.specs.History.{Request, Waiting, Limits, limits, request}

-- a waiting request in its row, with its client's row
pub record Item : Type 0 where
  pub row : ℕ
  pub client : ℕ
  pub ticket : ℕ

-- a waiting client in its row
pub record Client : Type 0 where
  pub row : ℕ
  pub id : ℕ

-- the window oldest first, the clients lightest first, the free rows in the order of their chains, the client rows of each bucket first to last
pub record Picture : Type 0 where
  pub places : ℕ
  pub window : List Item
  pub clients : List Client
  pub free_items : List ℕ
  pub free_clients : List ℕ
  pub chains : List (List ℕ)

abbrev pub item : ℕ → ℕ → ℕ → Item
item r c t = record { row = r; client = c; ticket = t }

abbrev pub client : ℕ → ℕ → Client
client r i = record { row = r; id = i }

abbrev pub item_row : Item → ℕ
item_row i = i.row

abbrev pub client_row : Client → ℕ
client_row c = c.row

abbrev pub client_id : Client → ℕ
client_id c = c.id

abbrev pub item_rows : Picture → List ℕ
item_rows P = map item_row P.window

abbrev pub client_rows : Picture → List ℕ
client_rows P = map client_row P.clients

-- the item rows of the client in row c, oldest first, and how many they are
abbrev pub own_rows : ℕ → List Item → List ℕ
own_rows c [] = []
own_rows c (i ∷ is) = cond (eqb i.client c) (i.row ∷ own_rows c is) (own_rows c is)

abbrev pub count_of : List Item → ℕ → ℕ
count_of w c = length (own_rows c w)

-- all chains one after the other
abbrev pub concat : List (List ℕ) → List ℕ
concat [] = []
concat (c ∷ cs) = c ++ concat cs

-- what the one in row r holds, 0 where there is none
abbrev pub look : {A : Type 0} → (A → ℕ) → (A → ℕ) → List A → ℕ → ℕ
look row value [] r = 0
look row value (x ∷ xs) r = cond (eqb (row x) r) (value x) (look row value xs r)

-- the id of the client in a row, and the row of the client with an id
abbrev pub id_of : List Client → ℕ → ℕ
id_of = look client_row client_id

abbrev pub row_of : List Client → ℕ → ℕ
row_of = look client_id client_row

-- a picture forgets its rows, and is a plain history
abbrev pub request_of : List Client → Item → Request
request_of cs i = request (id_of cs i.client) i.ticket

abbrev pub plain : Picture → Waiting
plain P = record { window = map (request_of P.clients) P.window; order = map client_id P.clients }

-- what bounds its window
abbrev pub limits_of : Picture → Limits
limits_of P = limits P.places
