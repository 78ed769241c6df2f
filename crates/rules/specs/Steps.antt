-- The steps on pictures: a request joins or leaves; rows are taken and freed by rule; a new client goes to the front of its bucket.
use Rattle.std.specs.Prelude.{List, [], ◌∷◌, ◌++◌, map, Bool, cond, ℕ, zero, suc, eqb, leb, length, replicate}
use Rattle.table.specs.Kind as kind
use Rattle.rules.specs.Rows.{head_or, last_or, rest, without, has}
use Rattle.rules.specs.Spread.{bucket}
use Rattle.rules.specs.History.{Choice, joined, evicted, turned, choice}
use Rattle.rules.specs.Picture.{Item, Client, Picture, item, client, client_id, client_rows, count_of, id_of, row_of, limits_of, plain}

-- n numbers, counted up from one
abbrev pub count_up : ℕ → ℕ → List ℕ
count_up zero from = []
count_up (suc n) from = from ∷ count_up n (suc from)

-- after a lay-out: nobody waits, every row is free, each bucket empty
abbrev pub empty : ℕ → Picture
empty q =
    record { places = q; window = []; clients = []; free_items = count_up q 0; free_clients = count_up q 0; chains = replicate q [] }

-- the clients but the one in row r
abbrev pub without_client : ℕ → List Client → List Client
without_client r [] = []
without_client r (c ∷ cs) = cond (eqb c.row r) cs (c ∷ without_client r cs)

-- in front of the first client whose count is not below its own: the lighter end of its group
abbrev pub place : (ℕ → ℕ) → Client → List Client → List Client
place n c [] = c ∷ []
place n c (x ∷ xs) = cond (leb (n c.row) (n x.row)) (c ∷ x ∷ xs) (x ∷ place n c xs)

-- the clients after the count of client c changed, w being the window since
abbrev pub moved : Client → List Item → List Client → List Client
moved c w cs =
    cond (eqb (count_of w c.row) 0) (without_client c.row cs) (place (count_of w) c (without_client c.row cs))

-- a row goes to the front of chain b
abbrev pub enter : ℕ → ℕ → List (List ℕ) → List (List ℕ)
enter b r [] = []
enter zero r (c ∷ cs) = (r ∷ c) ∷ cs
enter (suc b) r (c ∷ cs) = c ∷ enter b r cs

-- a new client takes the first free client row, and stands in front of its bucket
abbrev pub admit : ℕ → Picture → Picture
admit id P =
    record {
      places = P.places;
      window = P.window;
      clients = client (head_or kind.none P.free_clients) id ∷ P.clients;
      free_items = P.free_items;
      free_clients = rest P.free_clients;
      chains = enter (bucket P.places id) (head_or kind.none P.free_clients) P.chains;
    }

abbrev pub known : ℕ → Picture → Bool
known id P = has id (map client_id P.clients)

abbrev pub admitted : ℕ → Picture → Picture
admitted id P = cond (known id P) P (admit id P)

-- a request of the client c joins in the first free item row
abbrev pub join_as : Client → ℕ → Picture → Picture
join_as c ticket P =
    let w : List Item = P.window ++ (item (head_or kind.none P.free_items) c.row ticket ∷ []) in
    record {
      places = P.places;
      window = w;
      clients = moved c w P.clients;
      free_items = rest P.free_items;
      free_clients = P.free_clients;
      chains = P.chains;
    }

unfoldable pub join : Picture → ℕ → ℕ → Picture
join P id ticket = join_as (client (row_of (admitted id P).clients id) id) ticket (admitted id P)

-- an item leaves, and its row is the first free one
abbrev pub without_item : ℕ → List Item → List Item
without_item r [] = []
without_item r (i ∷ is) = cond (eqb i.row r) is (i ∷ without_item r is)

abbrev pub drop_item : Item → Picture → Picture
drop_item i P =
    let w : List Item = without_item i.row P.window in
    record {
      places = P.places;
      window = w;
      clients = moved (client i.client (id_of P.clients i.client)) w P.clients;
      free_items = i.row ∷ P.free_items;
      free_clients = P.free_clients;
      chains = P.chains;
    }

-- a client without requests leaves its bucket, and its row is the first free one
abbrev pub release : ℕ → Picture → Picture
release c P =
    record {
      places = P.places;
      window = P.window;
      clients = P.clients;
      free_items = P.free_items;
      free_clients = c ∷ P.free_clients;
      chains = map (without c) P.chains;
    }

unfoldable pub leave : Picture → Item → Picture
leave P i =
    cond (eqb (count_of (drop_item i P).window i.client) 0) (release i.client (drop_item i P)) (drop_item i P)

-- the newest item of the client in row c, or d; the oldest of all
abbrev pub newest_item : ℕ → Item → List Item → Item
newest_item c d [] = d
newest_item c d (i ∷ is) = newest_item c (cond (eqb i.client c) i d) is

abbrev pub front_item : List Item → Item
front_item [] = item 0 0 0
front_item (i ∷ is) = i

-- arrive: the choice is the plain history's, and the rows follow it
abbrev pub arrived_as : Choice → Picture → ℕ → ℕ → Picture
arrived_as joined P id ticket = join P id ticket
arrived_as (evicted r) P id ticket =
    join (leave P (newest_item (last_or kind.none (client_rows P)) (item 0 0 0) P.window)) id ticket
arrived_as turned P id ticket = P

unfoldable pub arrived : Picture → ℕ → ℕ → Picture
arrived P id ticket = arrived_as (choice (limits_of P) (plain P) id) P id ticket

-- slide and serve
unfoldable pub slid : Picture → ℕ → ℕ → Picture
slid P id ticket = join (cond (leb P.places (length P.window)) (leave P (front_item P.window)) P) id ticket

unfoldable pub served : Picture → Picture
served P = cond (eqb (length P.window) 0) P (leave P (front_item P.window))
