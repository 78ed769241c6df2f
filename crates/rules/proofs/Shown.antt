-- Regions show the right picture that they hold: every list is read back by following its links.
use mathlib.Core.List.{List, [], ◌∷◌, ◌++◌, map}
use mathlib.Core.Path.{◌≡◌, refl, sym, ap, ap₂, ◌∙◌}
use Prim.Native.Nat.{ℕ, suc, ◌≤◌, ◌<◌}
use native.Mathlib.Omega.{arith}
use lib.ListN.{length, get_or}
use Rattle.table.specs.Kind as kind
use Rattle.table.specs.Regions.{Regions}
use Rattle.table.specs.Owners.{lookup_words, order_words, window_words}
use Rattle.rules.specs.Rows.{Below, Once}
use Rattle.rules.specs.Linked.{Chain}
use Rattle.rules.specs.Picture.{Item, Client, Picture, item, client, item_row, client_row, item_rows, client_rows}
use Rattle.rules.specs.Sound.{follow, build, shown, Right, Holds}
use Rattle.rules.proofs.Rows.{in_below, below_in, below_right, rebuild, all_both, all_so}
use Rattle.rules.proofs.Columns.{in_concat, linked_chain, followed}
use Rattle.rules.proofs.Right.{items_below, clients_below, listed}

pub build_is : (f : ℕ → List ℕ) (cs : List (List ℕ)) → ((b : ℕ) → b < length cs → f b ≡ get_or cs b []) → build (length cs) f ≡ cs
build_is f [] h = refl
build_is f (c ∷ cs) h = ap₂ ◌∷◌ (h 0 (omega arith)) (build_is (λ b. f (suc b)) cs (λ b l. h (suc b) (omega arith)))

-- the regions show the picture that they hold
module _ (P : Picture) (v : Right P) (R : Regions) (h : Holds R P) where
  few : P.places ≤ kind.none
  few = omega (arith, v.most)

  reads : (o : ℕ → ℕ) (k : ℕ) (xs : List ℕ) → Below P.places xs → Chain o k xs → follow P.places o P.places k ≡ xs
  reads o = followed P.places few o

  window_shown : (shown P.places R).window ≡ P.window
  window_shown =
      let make : ℕ → Item = λ r. item r ((window_words R).owner r) ((window_words R).ticket r) in
      ap (map make) (reads (window_words R).later (window_words R).front (item_rows P) (items_below P v) (linked_chain h.queued.window))
      ∙ rebuild item_row make P.window (all_both _ _ _ P.window (λ i e f. ap₂ (item i.row) e f) h.queued.owner h.queued.ticket)

  clients_shown : (shown P.places R).clients ≡ P.clients
  clients_shown =
      let make : ℕ → Client = λ r. client r ((order_words R).id r) in
      ap (map make) (reads (order_words R).heavier (order_words R).lightest (client_rows P) (clients_below P v) (linked_chain h.ordered.linked))
      ∙ rebuild client_row make P.clients (all_so _ _ P.clients (λ c e. ap (client c.row) e) h.ids)

  free_shown : (o : ℕ → ℕ) (k : ℕ) (xs ys : List ℕ) → Once P.places (xs ++ ys) → Chain o k ys → follow P.places o P.places k ≡ ys
  free_shown o k xs ys w = reads o k ys (below_right P.places xs ys w.below)

  chains_shown : (shown P.places R).chains ≡ P.chains
  chains_shown =
      let chain : ℕ → List ℕ = λ b. follow P.places (lookup_words R).next P.places ((lookup_words R).first b) in
      ap (λ (n : ℕ). build n chain) (sym v.buckets)
      ∙ build_is chain P.chains (λ b l. reads (lookup_words R).next ((lookup_words R).first b) (get_or P.chains b [])
      (below_in P.places (get_or P.chains b []) (λ r i. in_below P.places (client_rows P) (clients_below P v) r (listed P v r (in_concat P.chains b r i))))
      (h.chains b (rw (← v.buckets) l)))

  pub holds_shown : shown P.places R ≡ P
  holds_shown =
      let free_items = free_shown (window_words R).later (window_words R).free_item (item_rows P) P.free_items v.items h.queued.chain in
      let free_clients = free_shown (order_words R).heavier (order_words R).free_client (client_rows P) P.free_clients v.clients h.ordered.chain in
      λ i. record {
        places = P.places;
        window = window_shown i;
        clients = clients_shown i;
        free_items = free_items i;
        free_clients = free_clients i;
        chains = chains_shown i;
      }
