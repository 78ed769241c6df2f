-- Which layer keeps which words: no other layer writes them. What a layer promises speaks of its own words alone, so a step of another layer leaves it as it was by computing.
use Rattle.std.specs.Prelude.{cond, List, [], ◌∷◌, ℕ, zero, suc, eqb}
use Rattle.table.specs.Kind as kind
use Rattle.table.specs.Regions.{Regions}

-- lay-out's: nobody writes them afterwards
pub record FixedWords : Type 0 where
  pub mark : ℕ
  pub places : ℕ
  pub zeros : List ℕ

-- the lookup's: of a client row its next in bucket, of a bucket its first row
pub record LookupWords : Type 0 where
  pub next : ℕ → ℕ
  pub first : ℕ → ℕ

-- the order's: header, client rows, count rows
pub record OrderWords : Type 0 where
  pub clients : ℕ
  pub lightest : ℕ
  pub heaviest : ℕ
  pub free_client : ℕ
  pub id : ℕ → ℕ
  pub count : ℕ → ℕ
  pub lighter : ℕ → ℕ
  pub heavier : ℕ → ℕ
  pub light_end : ℕ → ℕ
  pub heavy_end : ℕ → ℕ

-- the window's: header, item rows, and of a client row the ends of its own items
pub record WindowWords : Type 0 where
  pub requests : ℕ
  pub front : ℕ
  pub back : ℕ
  pub free_item : ℕ
  pub owner : ℕ → ℕ
  pub ticket : ℕ → ℕ
  pub earlier : ℕ → ℕ
  pub later : ℕ → ℕ
  pub own_earlier : ℕ → ℕ
  pub own_later : ℕ → ℕ
  pub oldest : ℕ → ℕ
  pub newest : ℕ → ℕ

-- n values from a place on
abbrev pub from : ℕ → ℕ → (ℕ → ℕ) → List ℕ
from zero a f = []
from (suc n) a f = f a ∷ from n (suc a) f

abbrev pub fixed_words : Regions → FixedWords
fixed_words R =
    record { mark = R.header kind.mark_at; places = R.header kind.places_at; zeros = from kind.zeros kind.zeros_at R.header }

abbrev pub lookup_words : Regions → LookupWords
lookup_words R = record { next = λ r. R.client r kind.next_in_bucket; first = R.bucket }

abbrev pub order_words : Regions → OrderWords
order_words R =
    record {
      clients = R.header kind.clients_at;
      lightest = R.header kind.lightest_at;
      heaviest = R.header kind.heaviest_at;
      free_client = R.header kind.free_client_at;
      id = λ r. R.client r kind.id;
      count = λ r. R.client r kind.count;
      lighter = λ r. R.client r kind.lighter;
      heavier = λ r. R.client r kind.heavier;
      light_end = λ k. R.count k kind.light_end;
      heavy_end = λ k. R.count k kind.heavy_end;
    }

abbrev pub window_words : Regions → WindowWords
window_words R =
    record {
      requests = R.header kind.requests_at;
      front = R.header kind.front_at;
      back = R.header kind.back_at;
      free_item = R.header kind.free_item_at;
      owner = λ r. R.item r kind.owner;
      ticket = λ r. R.item r kind.ticket;
      earlier = λ r. R.item r kind.earlier;
      later = λ r. R.item r kind.later;
      own_earlier = λ r. R.item r kind.own_earlier;
      own_later = λ r. R.item r kind.own_later;
      oldest = λ c. R.client c kind.oldest;
      newest = λ c. R.client c kind.newest;
    }

-- the regions with other words of the lookup: whatever these are, every other layer's words are as they were
abbrev pub with_lookup : LookupWords → Regions → Regions
with_lookup L R =
    record {
      header = R.header;
      item = R.item;
      client = λ r f. cond (eqb f kind.next_in_bucket) (L.next r) (R.client r f);
      count = R.count;
      bucket = L.first;
    }
