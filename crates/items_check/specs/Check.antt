-- What each part of the check tells. The walk of the window follows every client's own list beside it, and notes what it has met of one.
use Rattle.std.specs.Prelude.{List, [], map, ◌≡◌, ℕ, ◌+◌, ◌-◌, ◌≤◌, ◌<◌, length, get_or}
use Rattle.table.specs.Kind as kind
use Rattle.table.specs.Regions.{Regions}
use Rattle.table.specs.Owners.{window_words}
use Rattle.rules.specs.Rows.{All, Below}
use Rattle.rules.specs.Linked.{Run}
use Rattle.rules.specs.Picture.{Item, item, own_rows}
use Rattle.free_check.specs.Listed.{Listed}
use Rattle.free_check.specs.Free.{Free}

-- the column that a slice holds
abbrev pub column : List ℕ → ℕ → ℕ
column xs = λ c. get_or xs c 0

-- the item that row r shows, and those of the rows that show client c
abbrev pub shown_item : Regions → ℕ → Item
shown_item R r = item r (R.item r kind.owner) (R.item r kind.ticket)

abbrev pub own_of : Regions → ℕ → List ℕ → List ℕ
own_of R c rows = own_rows c (map (shown_item R) rows)

-- row c is a client's; so is the one that item row r names
abbrev pub IsClient : ℕ → Regions → ℕ → Type 0
IsClient q R c = (c < q) × (R.client c kind.count ≡ 0 → ⊥)

abbrev pub Owned : ℕ → Regions → ℕ → Type 0
Owned q R r = IsClient q R (R.item r kind.owner)

-- what the walk has noted of each row: of its own list the last item met, the row after it, and how many were met
pub record Notes : Type 0 where
  pub met : ℕ → ℕ
  pub next : ℕ → ℕ
  pub seen : ℕ → ℕ

abbrev pub notes : List ℕ → List ℕ → List ℕ → Notes
notes met next seen = record { met = column met; next = column next; seen = column seen }

-- before anything is met
abbrev pub unmet : Regions → Notes
unmet R = record { met = λ c. kind.none; next = λ c. R.client c kind.oldest; seen = λ c. 0 }

-- row x follows prev in the window and p in its client's own list, which goes on with h after p
pub record Joins (R : Regions) (x prev p h : ℕ) : Type 0 where
  pub earlier : R.item x kind.earlier ≡ prev
  pub own : R.item x kind.own_earlier ≡ p
  pub next : h ≡ x

-- after p, the n-th, the own list of client c has the rows xs from pointer h on, up to its newest and its count
pub record OwnRest (R : Regions) (c p h n : ℕ) (xs : List ℕ) : Type 0 where
  pub run : Run (window_words R).own_earlier (window_words R).own_later p h xs kind.none (R.client c kind.newest)
  pub count : n + length xs ≡ R.client c kind.count

-- the same where row c is a client's; of another row nothing was met
pub record OwnLeft (R : Regions) (c p h n : ℕ) (xs : List ℕ) : Type 0 where
  pub nobody : R.client c kind.count ≡ 0 → n ≡ 0
  pub client : (R.client c kind.count ≡ 0 → ⊥) → OwnRest R c p h n xs

-- and no row is left of it
abbrev pub OwnEnds : Regions → ℕ → ℕ → ℕ → ℕ → Type 0
OwnEnds R c p h n = OwnLeft R c p h n []

-- with no row left at x, the window ends with prev, and each own list with what was noted of it
pub record Finished (q : ℕ) (R : Regions) (x prev : ℕ) (N : Notes) : Type 0 where
  pub none : x ≡ kind.none
  pub back : prev ≡ R.header kind.back_at
  pub own : (c : ℕ) → c < q → OwnEnds R c (N.met c) (N.next c) (N.seen c)

-- after prev the window has these rows from pointer x on, up to the back; and each own list, after what was noted of it, has those of its rows
pub record Follows (q : ℕ) (R : Regions) (x prev : ℕ) (N : Notes) (rows : List ℕ) : Type 0 where
  pub below : Below q rows
  pub run : Run (window_words R).earlier (window_words R).later prev x rows kind.none (R.header kind.back_at)
  pub owners : All (Owned q R) rows
  pub own : (c : ℕ) → c < q → OwnLeft R c (N.met c) (N.next c) (N.seen c) (own_of R c rows)

-- all of it, as many rows as the header says, before anything is met
abbrev pub Window : ℕ → Regions → Type 0
Window q R = Listed (R.header kind.requests_at) (Follows q R (R.header kind.front_at) kind.none (unmet R))

-- every row's oldest item is noted as the one to come
abbrev pub Expected : ℕ → Regions → List ℕ → Type 0
Expected q R next = (c : ℕ) → c < q → column next c ≡ R.client c kind.oldest

-- room to note every row in, where nothing is met yet
pub record Unmet (q : ℕ) (R : Regions) (met next seen : List ℕ) : Type 0 where
  pub met_room : q ≤ length met
  pub next_room : q ≤ length next
  pub seen_room : q ≤ length seen
  pub nobody : (c : ℕ) → c < q → column met c ≡ kind.none
  pub first : Expected q R next
  pub none_seen : (c : ℕ) → c < q → column seen c ≡ 0

-- no more items wait than there are rows, the window is right, and the other rows are free
pub record Whole (q : ℕ) (R : Regions) : Type 0 where
  pub few : R.header kind.requests_at ≤ q
  pub window : Window q R
  pub free : Free q kind.item_words kind.later R.item (R.header kind.free_item_at) (q - R.header kind.requests_at)
