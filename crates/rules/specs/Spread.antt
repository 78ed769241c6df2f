-- The spread table, and the bucket of an id.
use Rattle.std.specs.Prelude.{List, ◌≡◌, ℕ, zero, suc, ◌+◌, ◌*◌, ◌/◌, ◌%◌, ◌^◌, ◌<◌, get_or}

-- the next number: 48,271 times the one before, remainder by 2,147,483,647
abbrev pub step : ℕ → ℕ
step x = 48271 * x % 2147483647

-- the number at a place: the first is 1
unfoldable pub spread_at : ℕ → ℕ
spread_at zero = 1
spread_at (suc k) = step (spread_at k)

-- byte j of an id, 0 the lowest; the entry that it picks
abbrev pub byte_of : ℕ → ℕ → ℕ
byte_of id j = id / 256 ^ j % 256

abbrev pub entry : ℕ → ℕ → ℕ
entry id j = spread_at (256 * j + byte_of id j)

-- the bucket: the sum of the four entries, remainder by q
unfoldable pub bucket : ℕ → ℕ → ℕ
bucket q id = (entry id 0 + entry id 1 + entry id 2 + entry id 3) % q

-- a list that holds the number of each of the 1,024 places
pub record IsSpread (t : List ℕ) : Type 0 where
  pub at : (k : ℕ) → k < 1024 → get_or t k 0 ≡ spread_at k
