-- The promise of the items' part of the soundness check: it tells exactly whether the words hold a window of items, where the clients are right.
use Rattle.std.specs.Prelude.{List, Bool, ◌≡◌, ℕ, length}
use Rattle.table.specs.Regions.{Regions, regions}
use Rattle.table.specs.Owners.{order_words, window_words}
use Rattle.rules.specs.Rows.{In, All}
use Rattle.rules.specs.Picture.{Item, own_rows}
use Rattle.rules.specs.Tells.{Tells}
use Rattle.rules.specs.Parts.{Queued, Present}

-- the words hold items of these clients, each client as many as its count
pub record Items (q : ℕ) (R : Regions) (cs : List ℕ) : Type 0 where
  pub w : List Item
  pub free : List ℕ
  pub queued : Queued q (window_words R) w free
  pub owners : All (λ i. In i.client cs) w
  pub counts : (c : ℕ) → In c cs → length (own_rows c w) ≡ (order_words R).count c

-- an answer that tells exactly that, where these are the clients
abbrev pub Checked : ℕ → List ℕ → Bool → Type 0
Checked q t ok = (cs : List ℕ) → Present q (regions q t) cs → Tells ok (Items q (regions q t) cs)
