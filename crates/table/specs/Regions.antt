-- A table of exactly `size q` words, seen as five regions: the view that every later proof uses.
use Rattle.std.specs.Prelude.{List, [], ◌∷◌, ◌++◌, cond, ◌≡◌, ℕ, zero, suc, ◌+◌, ◌≤◌, eqb, length, get_or}
use Rattle.table.specs.Kind as kind

-- the word of each row and field; what stands past the rows that there are is never drawn
pub record Regions : Type 0 where
  pub header : ℕ → ℕ
  pub item : ℕ → ℕ → ℕ
  pub client : ℕ → ℕ → ℕ
  pub count : ℕ → ℕ → ℕ
  pub bucket : ℕ → ℕ

-- the first n values of f
unfoldable pub upto : ℕ → (ℕ → ℕ) → List ℕ
upto zero f = []
upto (suc n) f = f zero ∷ upto n (λ i. f (suc i))

-- q rows of k words
unfoldable pub rows : ℕ → ℕ → (ℕ → ℕ → ℕ) → List ℕ
rows k zero g = []
rows k (suc q) g = upto k (g zero) ++ rows k q (λ r. g (suc r))

-- the words of a table of q places, in document 01's order
unfoldable pub words : ℕ → Regions → List ℕ
words q R =
    upto kind.header_words R.header
    ++ (rows kind.item_words q R.item ++ (rows kind.client_words q R.client ++ (rows kind.count_words q R.count ++ upto q R.bucket)))

-- the words of a table, by row and field
abbrev pub item_word : List ℕ → ℕ → ℕ → ℕ
item_word t r f = get_or t (kind.item_at r f) 0

abbrev pub client_word : List ℕ → ℕ → ℕ → ℕ → ℕ
client_word t q r f = get_or t (kind.client_at q r f) 0

abbrev pub count_word : List ℕ → ℕ → ℕ → ℕ → ℕ
count_word t q r f = get_or t (kind.count_at q r f) 0

abbrev pub bucket_word : List ℕ → ℕ → ℕ → ℕ
bucket_word t q b = get_or t (kind.bucket_at q b) 0

-- the ticket that an item row holds
abbrev pub ticket_word : List ℕ → ℕ → ℕ
ticket_word t r = item_word t r kind.ticket

-- the regions that a list of words draws
abbrev pub regions : ℕ → List ℕ → Regions
regions q t =
    record {
      header = λ f. get_or t f 0;
      item = λ r f. item_word t r f;
      client = λ r f. client_word t q r f;
      count = λ r f. count_word t q r f;
      bucket = λ b. bucket_word t q b;
    }

-- one value altered
abbrev pub at : (ℕ → ℕ) → ℕ → ℕ → ℕ → ℕ
at f a v = λ i. cond (eqb i a) v (f i)

-- one value of a row altered. The field is tested first, so that at literal fields every other field computes back to what it was
abbrev pub upd : (ℕ → ℕ → ℕ) → ℕ → ℕ → ℕ → ℕ → ℕ → ℕ
upd g r f v = λ i j. cond (eqb j f) (cond (eqb i r) v (g i j)) (g i j)

-- one word altered
abbrev pub set_header : ℕ → ℕ → Regions → Regions
set_header f v R =
    record { header = at R.header f v; item = R.item; client = R.client; count = R.count; bucket = R.bucket }

abbrev pub set_item : ℕ → ℕ → ℕ → Regions → Regions
set_item r f v R =
    record { header = R.header; item = upd R.item r f v; client = R.client; count = R.count; bucket = R.bucket }

abbrev pub set_ticket : ℕ → ℕ → Regions → Regions
set_ticket r v = set_item r kind.ticket v

abbrev pub set_client : ℕ → ℕ → ℕ → Regions → Regions
set_client r f v R =
    record { header = R.header; item = R.item; client = upd R.client r f v; count = R.count; bucket = R.bucket }

abbrev pub set_count : ℕ → ℕ → ℕ → Regions → Regions
set_count r f v R =
    record { header = R.header; item = R.item; client = R.client; count = upd R.count r f v; bucket = R.bucket }

abbrev pub set_bucket : ℕ → ℕ → Regions → Regions
set_bucket b v R =
    record { header = R.header; item = R.item; client = R.client; count = R.count; bucket = at R.bucket b v }

-- a list of words that a table of q places takes
pub record Sized (q : ℕ) (t : List ℕ) : Type 0 where
  pub small : q ≤ kind.largest
  pub long : length t ≡ kind.size q

-- in how many places two lists differ
abbrev pub altered : List ℕ → List ℕ → ℕ
altered [] [] = 0
altered [] (y ∷ ys) = 0
altered (x ∷ xs) [] = 0
altered (x ∷ xs) (y ∷ ys) = cond (eqb x y) 0 1 + altered xs ys

-- what a writer does: whatever regions the table was drawn from, it is then drawn from what `step` makes of them
pub record Writes (q : ℕ) (before after : List ℕ) (step : Regions → Regions) : Type 0 where
  pub drawn : (R : Regions) → before ≡ words q R → after ≡ words q (step R)
  pub sized : length after ≡ length before
