-- Clients that stand in the chains of the buckets, and what enter and leave do to the words.
use Rattle.std.specs.Prelude.{List, map, cond, ◌≡◌, ℕ, ◌<◌, eqb}
use Rattle.table.specs.Kind as kind
use Rattle.table.specs.Regions.{Regions, set_client, set_bucket}
use Rattle.table.specs.Owners.{LookupWords, lookup_words, order_words}
use Rattle.rules.specs.Rows.{In, NotIn, Distinct}
use Rattle.rules.specs.Linked.{Chain}
use Rattle.rules.specs.Spread.{bucket}
use Rattle.rules.specs.Draw.{before}
use Rattle.rules.specs.Sound.{follow}

-- the clients cs stand in the chains C: each in its id's chain and nobody else in any, with ids of their own; a row that is no client's has next 0
pub record Filed (q : ℕ) (L : LookupWords) (id : ℕ → ℕ) (cs : List ℕ) (C : ℕ → List ℕ) : Type 0 where
  pub chained : (b : ℕ) → b < q → Chain L.next (L.first b) (C b)
  pub stands : (r : ℕ) → In r cs → In r (C (bucket q (id r)))
  pub only : (b r : ℕ) → b < q → In r (C b) → In r cs × (bucket q (id r) ≡ b)
  pub ids : Distinct (map id cs)
  pub below : (r : ℕ) → In r cs → r < q
  pub unchained : (r : ℕ) → r < q → NotIn r cs → L.next r ≡ 0

-- the same words in the rows that there are
pub record Same (q : ℕ) (L M : LookupWords) : Type 0 where
  pub next : (r : ℕ) → r < q → L.next r ≡ M.next r
  pub first : (b : ℕ) → b < q → L.first b ≡ M.first b

-- row r enters at the front of bucket b
abbrev pub enter_at : ℕ → ℕ → Regions → Regions
enter_at b r R = set_bucket b r (set_client r kind.next_in_bucket (R.bucket b) R)

-- of its id's bucket
abbrev pub enter_row : ℕ → ℕ → Regions → Regions
enter_row q r R = enter_at (bucket q ((order_words R).id r)) r R

-- the pointer out of row e, or bucket b's first where e is none, becomes v. (At e = none the column is altered past its rows)
abbrev pub hook : ℕ → ℕ → ℕ → Regions → Regions
hook b e v R =
    record {
      header = R.header;
      item = R.item;
      client = (set_client e kind.next_in_bucket v R).client;
      count = R.count;
      bucket = λ i. cond (eqb i b) (cond (eqb kind.none e) v (R.bucket i)) (R.bucket i);
    }

-- row r, which stands after e in bucket b, leaves, and its next is then 0
abbrev pub leave_at : ℕ → ℕ → ℕ → Regions → Regions
leave_at b e r R = set_client r kind.next_in_bucket 0 (hook b e (R.client r kind.next_in_bucket) R)

-- it leaves bucket b, wherever it stands there
abbrev pub leave_from : ℕ → ℕ → ℕ → Regions → Regions
leave_from q b r R = leave_at b (before 0 kind.none (follow q (lookup_words R).next q (R.bucket b)) r) r R

-- its id's bucket
abbrev pub leave_row : ℕ → ℕ → Regions → Regions
leave_row q r R = leave_from q (bucket q ((order_words R).id r)) r R
