-- A fact of each number below n, and so of every word of the header or of a row, from the same of each word by its name.
use Prim.Native.Nat.{ℕ, zero, suc, ◌+◌, ◌<◌}
use native.Mathlib.Nat.{not-suc-le-zero, le_of_suc-le-suc}
use Rattle.table.specs.Kind as kind

abbrev pub Each : ℕ → (ℕ → Type 0) → Type 0
Each zero F = Unit {0}
Each (suc n) F = F zero × Each n (λ i. F (suc i))

pub each : (n : ℕ) (F : ℕ → Type 0) → Each n F → (f : ℕ) → f < n → F f
each zero F a f h = absurd (not-suc-le-zero h)
each (suc n) F a zero h = a.0
each (suc n) F a (suc f) h = each n (λ i. F (suc i)) a.1 f (le_of_suc-le-suc h)

module _ (F : ℕ → Type 0) where
  pub item_fields : F kind.owner → F kind.ticket → F kind.earlier → F kind.later → F kind.own_earlier → F kind.own_later → (f : ℕ) → f < kind.item_words → F f
  item_fields a b c d e g = each kind.item_words F (a, (b, (c, (d, (e, (g, tt))))))

  pub client_fields : F kind.id → F kind.count → F kind.lighter → F kind.heavier → F kind.oldest → F kind.newest → F kind.next_in_bucket
      → (f : ℕ) → f < kind.client_words → F f
  client_fields a b c d e g h = each kind.client_words F (a, (b, (c, (d, (e, (g, (h, tt)))))))

  pub count_fields : F kind.light_end → F kind.heavy_end → (f : ℕ) → f < kind.count_words → F f
  count_fields a b = each kind.count_words F (a, (b, tt))

  pub header_fields : F kind.mark_at → F kind.places_at → F kind.requests_at → F kind.clients_at → F kind.front_at → F kind.back_at → F kind.lightest_at → F kind.heaviest_at
      → F kind.free_item_at → F kind.free_client_at → Each kind.zeros (λ z. F (kind.zeros_at + z)) → (f : ℕ) → f < kind.header_words → F f
  header_fields a b c d e g h i j k zeros = each kind.header_words F (a, (b, (c, (d, (e, (g, (h, (i, (j, (k, zeros))))))))))
