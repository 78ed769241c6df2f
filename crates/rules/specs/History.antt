-- The plain history: who waits, in what order, and what each call does to that and answers. It knows nothing of rows.
use Rattle.std.specs.Prelude.{Bool, cond, ◌&&◌, List, [], ◌∷◌, ◌++◌, reverse, ℕ, suc, ◌+◌, min, leb, eqb, length, take}
use Rattle.rules.specs.Rows.{without, last_or}

-- a request: a client id and a ticket
pub record Request : Type 0 where
  pub id : ℕ
  pub ticket : ℕ

abbrev pub request : ℕ → ℕ → Request
request i t = record { id = i; ticket = t }

-- the waiting requests, oldest first, and the clients' ids, lightest first
pub record Waiting : Type 0 where
  pub window : List Request
  pub order : List ℕ

-- nobody waits
abbrev pub nobody : Waiting
nobody = record { window = []; order = [] }

-- how many of the requests are client i's
abbrev pub count : ℕ → List Request → ℕ
count i [] = 0
count i (r ∷ rs) = cond (eqb r.id i) (suc (count i rs)) (count i rs)

-- client i goes in front of the first client whose count is not below its own: to the lighter end of its group
abbrev pub place : (ℕ → ℕ) → ℕ → List ℕ → List ℕ
place c i [] = i ∷ []
place c i (x ∷ xs) = cond (leb (c i) (c x)) (i ∷ x ∷ xs) (x ∷ place c i xs)

-- the clients after the count of client i changed, w being the window since; at 0 it is none of them
abbrev pub moved : ℕ → List Request → List ℕ → List ℕ
moved i w o = cond (eqb (count i w) 0) (without i o) (place (λ x. count x w) i (without i o))

abbrev pub changed : ℕ → List Request → Waiting → Waiting
changed i w s = record { window = w; order = moved i w s.order }

-- a request joins at the back
abbrev pub join : Waiting → Request → Waiting
join s r = changed r.id (s.window ++ (r ∷ [])) s

-- whether the first of the requests is client i's last one
abbrev pub last_one : ℕ → Request → List Request → Bool
last_one i r rs = eqb r.id i && eqb (count i rs) 0

-- the newest request of client i, and the requests without it
abbrev pub newest : ℕ → List Request → Request
newest i [] = request 0 0
newest i (r ∷ rs) = cond (last_one i r rs) r (newest i rs)

abbrev pub without_newest : ℕ → List Request → List Request
without_newest i [] = []
without_newest i (r ∷ rs) = cond (last_one i r rs) rs (r ∷ without_newest i rs)

-- the oldest request of client i
abbrev pub oldest : ℕ → List Request → Request
oldest i [] = request 0 0
oldest i (r ∷ rs) = cond (eqb r.id i) r (oldest i rs)

-- the heaviest client, and the largest count
abbrev pub heaviest_client : Waiting → ℕ
heaviest_client s = last_or 0 s.order

abbrev pub largest_count : Waiting → ℕ
largest_count s = count (heaviest_client s) s.window

-- the newest request of the heaviest client leaves
abbrev pub evict : Waiting → Waiting
evict s = changed (heaviest_client s) (without_newest (heaviest_client s) s.window) s

-- what bounds a window: its places
pub record Limits : Type 0 where
  pub places : ℕ

abbrev pub limits : ℕ → Limits
limits q = record { places = q }

-- a window is full
abbrev pub full : Limits → Waiting → Bool
full L s = leb L.places (length s.window)

-- the arrival rule: a client with n waiting requests is turned away if the window is full and n plus one is at least m, the largest count. Its laws are `proofs/Rule.antt`; nothing above opens it
unfoldable pub turned_away : Bool → ℕ → ℕ → Bool
turned_away is_full n m = is_full && leb m (n + 1)

-- what an arrival comes to; the evicting case names the request that left
pub data Choice : Type 0 where
  joined : Choice
  evicted : Request → Choice
  turned : Choice

abbrev pub choice : Limits → Waiting → ℕ → Choice
choice L s i =
    cond (turned_away (full L s) (count i s.window) (largest_count s)) turned
    (cond (full L s) (evicted (newest (heaviest_client s) s.window)) joined)

-- the history after each choice, and after an arrival
abbrev pub settle : Choice → Waiting → Request → Waiting
settle joined s r = join s r
settle (evicted x) s r = join (evict s) r
settle turned s r = s

abbrev pub arrive : Limits → Waiting → Request → Waiting
arrive L s r = settle (choice L s r.id) s r

-- the request that left at the front, if one did
pub data Left : Type 0 where
  nothing : Left
  left : Request → Left

-- the front request, and the history without it
abbrev pub front : List Request → Left
front [] = nothing
front (r ∷ w) = left r

abbrev pub drop_front : List Request → Waiting → Waiting
drop_front [] s = s
drop_front (r ∷ w) s = changed r.id w s

abbrev pub leave : Waiting → Waiting
leave s = drop_front s.window s

-- slide: if full, the front request leaves first; then the new one joins
abbrev pub slide_left : Limits → Waiting → Left
slide_left L s = cond (full L s) (front s.window) nothing

abbrev pub slide : Limits → Waiting → Request → Waiting
slide L s r = join (cond (full L s) (leave s) s) r

-- serve: the front request leaves and is the reply
abbrev pub served : Waiting → Left
served s = front s.window

abbrev pub serve : Waiting → Waiting
serve s = leave s

-- id and count pairs of clients
abbrev pub pairs : List Request → List ℕ → List ℕ
pairs w [] = []
pairs w (i ∷ is) = i ∷ count i w ∷ pairs w is

-- heaviest k and lightest k: min(k, clients) pairs, and that number
abbrev pub given : ℕ → Waiting → ℕ
given k s = min k (length s.order)

abbrev pub heaviest : ℕ → Waiting → List ℕ
heaviest k s = pairs s.window (take (given k s) (reverse s.order))

abbrev pub lightest : ℕ → Waiting → List ℕ
lightest k s = pairs s.window (take (given k s) s.order)

-- count, oldest and newest of a client: 0 where it is absent
abbrev pub count_of : Waiting → ℕ → ℕ
count_of s i = count i s.window

abbrev pub oldest_ticket : Waiting → ℕ → ℕ
oldest_ticket s i = (oldest i s.window).ticket

abbrev pub newest_ticket : Waiting → ℕ → ℕ
newest_ticket s i = (newest i s.window).ticket
