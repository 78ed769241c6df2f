-- What the functions of the order ask of a table, and what admit and dismiss do to it: the order's step, and the lookup's words with it.
use Rattle.std.specs.Prelude.{List, ◌∷◌, ◌≡◌, ℕ, ◌≤◌, length}
use Rattle.table.specs.Regions.{Regions, words, at, Writes}
use Rattle.table.specs.Owners.{LookupWords, OrderWords, order_words, with_lookup}
use Rattle.rules.specs.Rows.{without, In, NotIn}
use Rattle.rules.specs.Linked.{Linked, order}
use Rattle.rules.specs.Spread.{bucket}
use Rattle.rules.specs.Parts.{Ordered}
use Rattle.lookup.specs.Promise.{Keeps, KeepsIn, put, cut}
use Rattle.order.specs.Moves.{admitted, dismissed}

-- a table is drawn from regions of whose words of the order F holds
pub record Drawn (q : ℕ) (t : List ℕ) (F : OrderWords → Type 0) : Type 0 where
  pub regs : Regions
  pub drawn : t ≡ words q regs
  pub holds : F (order_words regs)

-- row r is one of the clients, with a count of which F holds
pub record Listed (q r : ℕ) (F : ℕ → Type 0) (O : OrderWords) : Type 0 where
  pub rows : List ℕ
  pub count : ℕ → ℕ
  pub free : List ℕ
  pub ordered : Ordered q O rows count free
  pub there : In r rows
  pub counts : F (count r)

-- the order has a free row
pub record Vacant (q : ℕ) (O : OrderWords) : Type 0 where
  pub rows : List ℕ
  pub count : ℕ → ℕ
  pub free : List ℕ
  pub ordered : Ordered q O rows count free
  pub some : 1 ≤ length free

-- the rows r and e, which may be one, are in the list
pub record Strung (q r e : ℕ) (O : OrderWords) : Type 0 where
  pub rows : List ℕ
  pub linked : Linked q (order O) rows
  pub there : In r rows
  pub other : In e rows

-- what admit does: the client comes in row r, and the lookup has other words; whatever clients it kept before, if row r was none of them and none had that id, it then keeps r too, in front of its id's chain
pub record Admits (q : ℕ) (before after : List ℕ) (id r : ℕ) : Type 0 where
  pub lookup : LookupWords
  pub writes : Writes q before after (λ R. with_lookup lookup (admitted id R))
  pub keeps : (R : Regions) → before ≡ words q R → (cs : List ℕ) (C : ℕ → List ℕ) → KeepsIn q R cs C → NotIn r cs
      → ((s : ℕ) → In s cs → (order_words R).id s ≡ id → ⊥)
      → Keeps q lookup (at (order_words R).id r id) (r ∷ cs) (put (bucket q id) r C)

-- what dismiss does: the client in row r goes, and the lookup has other words; whatever clients it kept before, if row r was one of them, it then keeps the rest, in the order in which they stood
pub record Dismisses (q : ℕ) (before after : List ℕ) (r : ℕ) : Type 0 where
  pub lookup : LookupWords
  pub writes : Writes q before after (λ R. with_lookup lookup (dismissed r R))
  pub keeps : (R : Regions) → before ≡ words q R → (cs : List ℕ) (C : ℕ → List ℕ) → KeepsIn q R cs C → In r cs
      → Keeps q lookup (at (order_words R).id r 0) (without r cs) (cut r C)
