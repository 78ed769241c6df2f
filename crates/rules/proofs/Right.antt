-- What the clauses of a right picture give at once: of its rows, and that its clients are no more than its requests.
use mathlib.Core.List.{[], map}
use mathlib.Core.Path.{◌≡◌}
use Prim.Native.Nat.{ℕ, ◌+◌, ◌≤◌}
use native.Mathlib.Omega.{arith}
use lib.ListN.{length, get_or, length-append, length-map}
use Rattle.rules.specs.Rows.{In, Distinct, Below}
use Rattle.rules.specs.Spread.{bucket}
use Rattle.rules.specs.Picture.{Picture, item_row, client_row, item_rows, client_rows, count_of, concat}
use Rattle.rules.specs.Sound.{Right}
use Rattle.rules.proofs.Put.{take_all}
use Rattle.rules.proofs.Rows.{distinct_left, below_left, rising_least, all_in, fewer}
use Rattle.rules.proofs.Columns.{in_concat}
use Rattle.rules.proofs.Look.{find, own_some}

module _ (P : Picture) (v : Right P) where
  pub items_distinct : Distinct (item_rows P)
  items_distinct = distinct_left (item_rows P) P.free_items v.items.distinct

  pub items_below : Below P.places (item_rows P)
  items_below = below_left P.places (item_rows P) P.free_items v.items.below

  pub clients_distinct : Distinct (client_rows P)
  clients_distinct = distinct_left (client_rows P) P.free_clients v.clients.distinct

  pub clients_below : Below P.places (client_rows P)
  clients_below = below_left P.places (client_rows P) P.free_clients v.clients.below

  -- each client has a request, and stands in a chain, where nobody else does
  pub counts_one : (c : ℕ) → In c (client_rows P) → 1 ≤ count_of P.window c
  counts_one = rising_least 1 (count_of P.window) (client_rows P) v.counts

  pub chained : (c : ℕ) → In c (client_rows P) → In c (concat P.chains)
  chained c i =
      let f = find client_row c P.clients i in
      let s = (take_all (λ c. In c.row (get_or P.chains (bucket P.places c.id) [])) f.put v.stands).0 in
      in_concat P.chains (bucket P.places f.one.id) c (rw f.is at s)

  pub listed : (c : ℕ) → In c (concat P.chains) → In c (client_rows P)
  listed = all_in (λ r. In r (client_rows P)) (concat P.chains) v.nobody

  -- no more requests than places, and no more clients than requests: where an item row is free, so is a client row
  pub places : length P.window + length P.free_items ≡ P.places
  places = omega (arith, length-append (item_rows P) P.free_items, length-map P.window item_row, v.items.long)

  pub window_fits : length P.window ≤ P.places
  window_fits = omega (arith, places)

  pub clients_fit : length P.clients ≤ length P.window
  clients_fit =
      omega (
        arith,
        length-map P.clients client_row,
        length-map P.window (λ i. i.client),
        fewer (client_rows P) (map (λ i. i.client) P.window) clients_distinct (λ c i. own_some c P.window (counts_one c i)),
      )

  pub room : 1 ≤ length P.free_items → 1 ≤ length P.free_clients
  room h =
      omega (arith, places, clients_fit, length-append (client_rows P) P.free_clients, length-map P.clients client_row, v.clients.long)
