-- The clients' part of soundness: what a right table has, and what the check promises.
use Rattle.std.specs.Prelude.{List, Bool, ℕ}
use Rattle.table.specs.Regions.{Regions, regions}
use Rattle.table.specs.Owners.{order_words}
use Rattle.rules.specs.Tells.{Tells}
use Rattle.rules.specs.Parts.{Ordered, Present}

-- the waiting clients' rows, lightest first, and the free ones. Every word of a free row but the chain's is 0: the order's by `idle`, and so it has no count and is blank to the other layers
pub record Clients (q : ℕ) (R : Regions) : Type 0 where
  pub rows : List ℕ
  pub free : List ℕ
  pub ordered : Ordered q (order_words R) rows (order_words R).count free
  pub present : Present q R rows

-- an answer that tells exactly whether the clients are right
abbrev pub Checked : ℕ → List ℕ → Bool → Type 0
Checked q t ok = Tells ok (Clients q (regions q t))
