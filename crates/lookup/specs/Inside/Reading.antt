-- What the loops over a table's words read: the rows from a pointer on, and what the check tests of them.
use Rattle.std.specs.Prelude.{List, [], ◌∷◌, map, cond, ◌≡◌, ℕ, zero, suc, ◌+◌, ◌-◌, ◌≤◌, ◌<◌, eqb, length, Option, SomeIff}
use Rattle.table.specs.Kind as kind
use Rattle.table.specs.Regions.{regions, bucket_word}
use Rattle.table.specs.Owners.{lookup_words, order_words}
use Rattle.rules.specs.Rows.{In, All, Distinct, Below}
use Rattle.rules.specs.Linked.{Chain}
use Rattle.rules.specs.Spread.{bucket}
use Rattle.rules.specs.Sound.{follow}

-- the columns that are read: of a client row its id and its next in bucket
abbrev pub id_of : ℕ → List ℕ → ℕ → ℕ
id_of q t = (order_words (regions q t)).id

abbrev pub next_of : ℕ → List ℕ → ℕ → ℕ
next_of q t = (lookup_words (regions q t)).next

-- the rows from a pointer on
abbrev pub from : ℕ → List ℕ → ℕ → List ℕ
from q t h = follow q (next_of q t) q h

-- followed from h on, the links end in none, by rows of the table
pub record Ends (q : ℕ) (o : ℕ → ℕ) (h : ℕ) : Type 0 where
  pub chain : Chain o h (follow q o q h)
  pub below : Below q (follow q o q h)

-- and they come to row r on the way
pub record Reaches (q : ℕ) (o : ℕ → ℕ) (h r : ℕ) : Type 0 where
  pub ends : Ends q o h
  pub there : In r (follow q o q h)

-- from h on they come to r in k steps, by rows of which P holds
abbrev pub Path : (ℕ → Type 0) → (ℕ → ℕ) → ℕ → ℕ → ℕ → Type 0
Path P o h zero r = h ≡ r
Path P o h (suc k) r = ((x : ℕ) × P x × Path P o h k x × (o x ≡ r))

-- how many steps the quick test goes at most
abbrev pub most_steps : ℕ
most_steps = 7

-- the numbers below k at which a column does not hold none
abbrev pub filled : (ℕ → ℕ) → ℕ → List ℕ
filled f zero = []
filled f (suc k) = cond (eqb (f k) kind.none) (filled f k) (k ∷ filled f k)

module _ (q : ℕ) (t : List ℕ) where
  -- the rows from h on have ids of their own
  abbrev pub OwnIds : ℕ → Type 0
  OwnIds h = Distinct (map (id_of q t) (from q t h))

  -- a row that may stand in bucket b: it has a count, and b is its id's
  pub record Fits (b r : ℕ) : Type 0 where
    pub low : r < q
    pub counts : (order_words (regions q t)).count r ≡ 0 → ⊥
    pub home : bucket q (id_of q t r) ≡ b

  -- from h on the chain ends, and its rows may stand in bucket b
  pub record Fitting (b h : ℕ) : Type 0 where
    pub ends : Ends q (next_of q t) h
    pub fits : All (Fits b) (from q t h)

  -- what is left of room for n rows after that chain: none where it is wrong or has not the room
  pub record Left (b h n : ℕ) (left : Option ℕ) : Type 0 where
    pub so : SomeIff left (Fitting b h × (length (from q t h) ≤ n)) (n - length (from q t h))

  -- a client's row whose id is not x
  pub record Other (x r : ℕ) : Type 0 where
    pub low : r < q
    pub counts : (order_words (regions q t)).count r ≡ 0 → ⊥
    pub other : id_of q t r ≡ x → ⊥

  -- from h on the links come to row r in a few steps, by clients whose ids are other than x
  pub record Comes (h r x : ℕ) : Type 0 where
    pub steps : ℕ
    pub few : steps ≤ most_steps
    pub path : Path (Other x) (next_of q t) h steps r

  -- they do from the first of row r's bucket on, by clients of other ids
  abbrev pub Stands : ℕ → Type 0
  Stands r = Comes (bucket_word t q (bucket q (id_of q t r))) r (id_of q t r)

  -- the next in bucket of a client's row; of another none
  abbrev pub onward : ℕ → ℕ
  onward r = cond (eqb ((order_words (regions q t)).count r) 0) kind.none (next_of q t r)

  -- every client is come to, and n pointers hold a row
  pub record Reached (n : ℕ) : Type 0 where
    pub stands : (r : ℕ) → r < q → ((order_words (regions q t)).count r ≡ 0 → ⊥) → Stands r
    pub many : length (filled (bucket_word t q) q) + length (filled onward q) ≡ n
