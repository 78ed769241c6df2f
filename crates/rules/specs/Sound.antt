-- Soundness: which pictures are right, the picture that the words show, and when a table is sound; then the same clause by clause.
use Rattle.std.specs.Prelude.{List, [], ◌∷◌, ◌++◌, map, Bool, cond, ◌&&◌, ◌≡◌, ℕ, zero, suc, ◌≤◌, ◌<◌, eqb, ltb, length, get_or, replicate}
use Rattle.table.specs.Kind as kind
use Rattle.table.specs.Regions.{Regions, words, regions}
use Rattle.table.specs.Owners.{FixedWords, fixed_words, lookup_words, order_words, window_words}
use Rattle.rules.specs.Rows.{has, all, distinct, once, rising, same, In, All, Distinct, Once, Rising}
use Rattle.rules.specs.Linked.{Chain}
use Rattle.rules.specs.Spread.{bucket}
use Rattle.rules.specs.Picture.{Picture, item, client, client_id, item_rows, client_rows, count_of, concat}
use Rattle.rules.specs.Draw.{draw}
use Rattle.rules.specs.Parts.{Ordered, Queued}

-- a picture is right: Q in range; waiting and free rows together are each row once; each item's client row is a client's; counts from 1 up never fall;
-- ids are distinct; each client stands in its id's chain, each once, and chains hold nobody else
unfoldable pub right : Picture → Bool
right P =
    kind.in_range P.places
    && once P.places (item_rows P ++ P.free_items)
    && once P.places (client_rows P ++ P.free_clients)
    && all (λ i. has i.client (client_rows P)) P.window
    && rising 1 (map (count_of P.window) (client_rows P))
    && distinct (map client_id P.clients)
    && eqb (length P.chains) P.places
    && all (λ c. has c.row (get_or P.chains (bucket P.places c.id) [])) P.clients
    && distinct (concat P.chains)
    && all (λ r. has r (client_rows P)) (concat P.chains)

-- the rows that the links show from h on, as far as they are rows: k at most
unfoldable pub follow : ℕ → (ℕ → ℕ) → ℕ → ℕ → List ℕ
follow q on zero h = []
follow q on (suc k) h = cond (ltb h q) (h ∷ follow q on k (on h)) []

-- f of 0, 1, .. n - 1
abbrev pub build : {A : Type 0} → ℕ → (ℕ → A) → List A
build zero f = []
build (suc n) f = f zero ∷ build n (λ i. f (suc i))

-- the picture that the words show
abbrev pub shown : ℕ → Regions → Picture
shown q R =
    record {
      places = q;
      window = map (λ r. item r ((window_words R).owner r) ((window_words R).ticket r)) (follow q (λ r. R.item r kind.later) q (R.header kind.front_at));
      clients = map (λ r. client r (R.client r kind.id)) (follow q (λ r. R.client r kind.heavier) q (R.header kind.lightest_at));
      free_items = follow q (λ r. R.item r kind.later) q (R.header kind.free_item_at);
      free_clients = follow q (λ r. R.client r kind.heavier) q (R.header kind.free_client_at);
      chains = build q (λ b. follow q (λ r. R.client r kind.next_in_bucket) q (R.bucket b));
    }

unfoldable pub picture : List ℕ → Picture
picture t = shown (get_or t kind.places_at 0) (regions (get_or t kind.places_at 0) t)

-- a table is sound where it is the drawing of the picture that it shows, and that picture is right
unfoldable pub sound : List ℕ → Bool
sound t = right (picture t) && same t (draw (picture t))

-- mark, places and zeros of a table of q places
abbrev pub fixed_of : ℕ → FixedWords
fixed_of q = record { mark = kind.mark; places = q; zeros = replicate kind.zeros 0 }

-- The paragraph 'Sound means', clause by clause. First what it says of the picture
pub record Right (P : Picture) : Type 0 where
  pub least : 1 ≤ P.places
  pub most : P.places ≤ kind.largest
  pub items : Once P.places (item_rows P ++ P.free_items)
  pub clients : Once P.places (client_rows P ++ P.free_clients)
  pub owners : All (λ i. In i.client (client_rows P)) P.window
  pub counts : Rising 1 (map (count_of P.window) (client_rows P))
  pub ids : Distinct (map client_id P.clients)
  pub buckets : length P.chains ≡ P.places
  pub stands : All (λ c. In c.row (get_or P.chains (bucket P.places c.id) [])) P.clients
  pub apart : Distinct (concat P.chains)
  pub nobody : All (λ r. In r (client_rows P)) (concat P.chains)

-- and what it says of the words that hold the picture, layer by layer
pub record Holds (R : Regions) (P : Picture) : Type 0 where
  -- mark and zeros right
  pub fixed : fixed_words R ≡ fixed_of P.places
  -- the window links and each client's own list
  pub queued : Queued P.places (window_words R) P.window P.free_items
  -- the client links, as many as each count says, and the count rows
  pub ordered : Ordered P.places (order_words R) (client_rows P) (count_of P.window) P.free_clients
  pub ids : All (λ c. (order_words R).id c.row ≡ c.id) P.clients
  -- the bucket chains; a free client row stands in none
  pub chains : (b : ℕ) → b < P.places → Chain (lookup_words R).next ((lookup_words R).first b) (get_or P.chains b [])
  pub unchained : (r : ℕ) → In r P.free_clients → (lookup_words R).next r ≡ 0

-- the words hold a right picture
pub record Shows (t : List ℕ) (P : Picture) : Type 0 where
  pub regs : Regions
  pub drawn : t ≡ words P.places regs
  pub holds : Holds regs P

pub record Sound (t : List ℕ) : Type 0 where
  pub picture : Picture
  pub right : Right picture
  pub shows : Shows t picture
