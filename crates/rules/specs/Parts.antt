-- What the words hold of a picture, by the layer that keeps them: the clients' order, and the waiting items.
use Rattle.std.specs.Prelude.{List, ◌++◌, map, ◌≡◌, ℕ, suc, ◌≤◌, ◌<◌, length}
use Rattle.table.specs.Kind as kind
use Rattle.table.specs.Regions.{Regions}
use Rattle.table.specs.Owners.{OrderWords, WindowWords, lookup_words, order_words, window_words}
use Rattle.rules.specs.Rows.{head_or, last_or, In, All, Distinct, Below, Once, Rising}
use Rattle.rules.specs.Linked as linked
use Rattle.rules.specs.Linked.{Linked, Chain}
use Rattle.rules.specs.Picture.{Item, item_row, own_rows}
use Rattle.rules.specs.Draw.{group}

-- the clients in these rows, lightest first, with these counts, and the free client rows in the order of their chain
pub record Ordered (q : ℕ) (O : OrderWords) (rows : List ℕ) (count : ℕ → ℕ) (free : List ℕ) : Type 0 where
  -- the client links visit as many rows as the header says, the same both ways
  pub number : O.clients ≡ length rows
  pub linked : Linked q (linked.order O) rows
  -- with counts from 1 up never falling
  pub counted : (r : ℕ) → In r rows → O.count r ≡ count r
  pub rising : Rising 1 (map count rows)
  pub most : (r : ℕ) → In r rows → count r ≤ q
  -- each count row holds the ends of its group, or none twice
  pub light_end : (k : ℕ) → k < q → O.light_end k ≡ head_or kind.none (group count (suc k) rows)
  pub heavy_end : (k : ℕ) → k < q → O.heavy_end k ≡ last_or kind.none (group count (suc k) rows)
  -- the rest of the rows are in the free chain once each, with zeros
  pub each : Once q (rows ++ free)
  pub chain : Chain O.heavier O.free_client free
  pub idle : (r : ℕ) → In r free → (O.id r ≡ 0) × (O.count r ≡ 0) × (O.lighter r ≡ 0)

-- the client rows cs are those with a count; another row is blank, so that no other layer keeps anything in it. What one part of the soundness check hands to the next
pub record Present (q : ℕ) (R : Regions) (cs : List ℕ) : Type 0 where
  pub distinct : Distinct cs
  pub below : Below q cs
  pub counted : (r : ℕ) → In r cs → (order_words R).count r ≡ 0 → ⊥
  pub others : (r : ℕ) → r < q → ((order_words R).count r ≡ 0 → ⊥) → In r cs
  pub blank : (r : ℕ) → r < q → (order_words R).count r ≡ 0 → ((window_words R).oldest r ≡ 0) × ((window_words R).newest r ≡ 0) × ((lookup_words R).next r ≡ 0)

-- the own list of the client row c has exactly these items, the same both ways; its ends are in the client's words, which are 0 where it has none
pub record Own (q : ℕ) (W : WindowWords) (c : ℕ) (xs : List ℕ) : Type 0 where
  pub linked : Linked q (record { back = W.own_earlier; on = W.own_later; first = head_or kind.none xs; last = last_or kind.none xs }) xs
  pub oldest : W.oldest c ≡ head_or 0 xs
  pub newest : W.newest c ≡ last_or 0 xs

-- these items wait, oldest first, and the free item rows in the order of their chain
pub record Queued (q : ℕ) (W : WindowWords) (w : List Item) (free : List ℕ) : Type 0 where
  -- the window links visit as many item rows as the header says, the same both ways
  pub waiting : W.requests ≡ length w
  pub window : Linked q (linked.window W) (map item_row w)
  pub owner : All (λ i. W.owner i.row ≡ i.client) w
  pub ticket : All (λ i. W.ticket i.row ≡ i.ticket) w
  pub owners : All (λ i. i.client < q) w
  -- each client's own list has exactly its items, in window order
  pub own : (c : ℕ) → c < q → Own q W c (own_rows c w)
  -- the rest of the rows are in the free chain once each, with zeros
  pub each : Once q (map item_row w ++ free)
  pub chain : Chain W.later W.free_item free
  pub idle : (r : ℕ) → In r free → (W.owner r ≡ 0) × (W.ticket r ≡ 0) × (W.earlier r ≡ 0) × (W.own_earlier r ≡ 0) × (W.own_later r ≡ 0)
