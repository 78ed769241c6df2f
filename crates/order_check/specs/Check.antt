-- What each part of the check tells.
use Rattle.std.specs.Prelude.{List, map, cond, ◌≡◌, ℕ, zero, suc, ◌+◌, ◌-◌, max, ◌≤◌, ◌<◌, eqb}
use Rattle.table.specs.Kind as kind
use Rattle.table.specs.Regions.{Regions}
use Rattle.table.specs.Owners.{OrderWords, order_words}
use Rattle.rules.specs.Rows.{head_or, last_or, All, Below, Rising}
use Rattle.rules.specs.Linked.{Run}
use Rattle.rules.specs.Draw.{group}
use Rattle.free_check.specs.Listed.{Listed}
use Rattle.free_check.specs.Free.{Free}

-- the group of this count, where it is not 0, ends with the row `prev`
abbrev pub Last : OrderWords → ℕ → ℕ → Type 0
Last O count prev = (k : ℕ) → suc k ≡ count → O.heavy_end k ≡ prev

-- the count rows from one to another hold none twice
abbrev pub Bare : OrderWords → ℕ → ℕ → Type 0
Bare O from to = (k : ℕ) → k < to → from ≤ k → (O.light_end k ≡ kind.none) × (O.heavy_end k ≡ kind.none)

-- 1 for a row, 0 for none
abbrev pub one_if_row : ℕ → ℕ
one_if_row x = cond (eqb x kind.none) 0 1

-- how many words of the count rows below k hold a row
abbrev pub rows_held : OrderWords → ℕ → ℕ
rows_held O zero = 0
rows_held O (suc k) = rows_held O k + (one_if_row (O.light_end k) + one_if_row (O.heavy_end k))

-- the row `at`, of this count, may follow the row `prev` of count `floor`, which is 0 before the first row:
-- where the counts differ, the group of `floor` has ended and the row is the lightest of its own
pub record Joins (q : ℕ) (O : OrderWords) (at count prev floor : ℕ) : Type 0 where
  pub back : O.lighter at ≡ prev
  pub least : 1 ≤ count
  pub rises : floor ≤ count
  pub most : count ≤ q
  pub begins : (k : ℕ) → suc k ≡ count → floor ≤ k → (O.light_end k ≡ at) × Last O floor prev

-- the count rows hold the ends of the groups of these rows, which follow `prev`: of the group of count `floor`, which began before them, the heavy end
pub record Ends (q : ℕ) (O : OrderWords) (prev floor : ℕ) (rows : List ℕ) : Type 0 where
  pub begun : (k : ℕ) → suc k ≡ floor → O.heavy_end k ≡ last_or prev (group O.count (suc k) rows)
  pub fresh : (k : ℕ) → k < q → floor ≤ k
      → (O.light_end k ≡ head_or kind.none (group O.count (suc k) rows)) × (O.heavy_end k ≡ last_or kind.none (group O.count (suc k) rows))

-- after the row `prev` of count `floor` the order has these rows from `at` on, up to the heaviest
pub record Follows (q : ℕ) (O : OrderWords) (at prev floor : ℕ) (rows : List ℕ) : Type 0 where
  pub below : Below q rows
  pub run : Run O.lighter O.heavier prev at rows kind.none O.heaviest
  pub rising : Rising (max 1 floor) (map O.count rows)
  pub most : All (λ r. O.count r ≤ q) rows
  pub ends : Ends q O prev floor rows

-- all of it, as many rows as the header says
abbrev pub Ranked : ℕ → OrderWords → Type 0
Ranked q O = Listed O.clients (Follows q O O.lightest kind.none 0)

-- no more clients than there are rows, in order, and the other rows are free
pub record Whole (q : ℕ) (R : Regions) : Type 0 where
  pub few : (order_words R).clients ≤ q
  pub ranked : Ranked q (order_words R)
  pub free : Free q kind.client_words kind.heavier R.client (order_words R).free_client (q - (order_words R).clients)
