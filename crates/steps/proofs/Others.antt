-- All that a picture's words are but the waiting items: the window's steps leave it alone by computing, and with the items it is the whole.
use mathlib.Core.List.{List, []}
use mathlib.Core.Path.{◌≡◌}
use Prim.Native.Nat.{ℕ, ◌<◌}
use lib.ListN.{get_or}
use Rattle.table.specs.Regions.{Regions}
use Rattle.table.specs.Owners.{FixedWords, LookupWords, OrderWords, fixed_words, lookup_words, order_words, window_words}
use Rattle.rules.specs.Rows.{In, All}
use Rattle.rules.specs.Linked.{Chain}
use Rattle.rules.specs.Picture.{Picture, client_rows, count_of}
use Rattle.rules.specs.Parts.{Ordered, Queued}
use Rattle.rules.specs.Sound.{fixed_of, Holds}
use Rattle.rules.proofs.Rows.{in_below, below_right, apart_right}
use Rattle.rules.proofs.Ready.{parts_hold}
use Rattle.lookup.specs.Promise.{Keeps, keeps_unchained}

pub record Others (q : ℕ) (F : FixedWords) (O : OrderWords) (L : LookupWords) (Q : Picture) : Type 0 where
  pub fixed : F ≡ fixed_of q
  pub ordered : Ordered q O (client_rows Q) (count_of Q.window) Q.free_clients
  pub ids : All (λ c. O.id c.row ≡ c.id) Q.clients
  pub chains : (b : ℕ) → b < q → Chain L.next (L.first b) (get_or Q.chains b [])
  pub unchained : (r : ℕ) → In r Q.free_clients → L.next r ≡ 0

-- of regions
abbrev pub OthersIn : ℕ → Regions → Picture → Type 0
OthersIn q S Q = Others q (fixed_words S) (order_words S) (lookup_words S) Q

pub others_hold : {q : ℕ} (S : Regions) (Q : Picture) → Q.places ≡ q → OthersIn q S Q → Queued q (window_words S) Q.window Q.free_items → Holds S Q
others_hold S Q e o w = parts_hold S Q e (o.fixed, w, o.ordered, o.chains) o.ids o.unchained

-- where the lookup keeps the clients, a free row stands in no chain
pub free_unchained : {q : ℕ} {O : OrderWords} {L : LookupWords} {rows free : List ℕ} {n id : ℕ → ℕ} {C : ℕ → List ℕ} → Ordered q O rows n free → Keeps q L id rows C
    → (r : ℕ) → In r free → L.next r ≡ 0
free_unchained {q} {rows = rows} {free} o k r i =
    keeps_unchained k r (in_below q free (below_right q rows free o.each.below) r i) (apart_right r rows free o.each.distinct i)
