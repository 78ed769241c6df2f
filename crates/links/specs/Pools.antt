-- The free rows of a kind: chained from a header word, every other word 0.
use Rattle.std.specs.Prelude.{cond, ℕ, eqb}
use Rattle.table.specs.Kind as kind
use Rattle.table.specs.Regions.{Regions, set_header}
use Rattle.links.specs.Strands.{Region, items, clients}

-- the rows, the header word of the first free one, and the word by which they chain
pub record Pool : Type 0 where
  pub rows : Region
  pub head : ℕ
  pub link : ℕ

-- the free item rows
abbrev pub free_items : Pool
free_items = record { rows = items; head = kind.free_item_at; link = kind.later }

-- the free client rows
abbrev pub free_clients : Pool
free_clients = record { rows = clients; head = kind.free_client_at; link = kind.heavier }

-- row r with v in its word c and 0 in the others
abbrev pub blank : (ℕ → ℕ → ℕ) → ℕ → ℕ → ℕ → ℕ → ℕ → ℕ
blank g r c v = λ i j. cond (eqb j c) (cond (eqb i r) v (g i j)) (cond (eqb i r) 0 (g i j))

-- the first free row is taken: the next is the first
abbrev pub take_from : Pool → Regions → Regions
take_from P R = set_header P.head (P.rows.word R (R.header P.head) P.link) R

-- row r is freed: it becomes the first
abbrev pub free_into : Pool → ℕ → Regions → Regions
free_into P r R = set_header P.head r (P.rows.with (blank (P.rows.word R) r P.link (R.header P.head)) R)
