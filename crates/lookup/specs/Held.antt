-- A right picture's clients are filed in its chains, by the words that hold it.
use Rattle.std.specs.Prelude.{List, [], ◌∷◌, map, ◌≡◌, refl, ℕ, get_or}
use Rattle.std.proofs.Common.{sym, ap, ap₂, ◌∙◌, ⊎_elim}
use Rattle.table.specs.Regions.{Regions}
use Rattle.table.specs.Owners.{lookup_words, order_words}
use Rattle.rules.specs.Rows.{In, All}
use Rattle.rules.specs.Spread.{bucket}
use Rattle.rules.specs.Picture.{Client, Picture, client_row, client_id, client_rows}
use Rattle.rules.specs.Sound.{Right, Holds}
use Rattle.rules.proofs.Put.{take_all}
use Rattle.rules.proofs.Rows.{not_both, in_either, in_below, fills}
use Rattle.rules.proofs.Columns.{in_concat}
use Rattle.rules.proofs.Look.{find}
use Rattle.rules.proofs.Right.{clients_below, listed}
use Rattle.lookup.specs.Inside.Filed.{Filed}
use Rattle.lookup.specs.Inside.Buckets.{place_once}

-- the ids that the words hold, row by row
ids_are : (id : ℕ → ℕ) (cs : List Client) → All (λ c. id c.row ≡ c.id) cs → map id (map client_row cs) ≡ map client_id cs
ids_are id [] a = refl
ids_are id (c ∷ cs) a = ap₂ ◌∷◌ a.0 (ids_are id cs a.1)

module _ (P : Picture) (v : Right P) (R : Regions) (h : Holds R P) where
  abbrev chain : ℕ → List ℕ
  chain b = get_or P.chains b []

  stands : (r : ℕ) → In r (client_rows P) → In r (chain (bucket P.places ((order_words R).id r)))
  stands r i =
      let f = find client_row r P.clients i in
      let id = (take_all (λ c. (order_words R).id c.row ≡ c.id) f.put h.ids).0 in
      rw (ap (order_words R).id (sym f.is) ∙ id) (rw f.is at (take_all (λ c. In c.row (chain (bucket P.places c.id))) f.put v.stands).0)

  pub holds_filed : Filed P.places (lookup_words R) (order_words R).id (client_rows P) chain
  holds_filed =
      record {
        chained = h.chains;
        stands = stands;
        only = λ b r l i.
            let c = listed P v r (in_concat P.chains b r i) in (c, place_once P.chains r (bucket P.places ((order_words R).id r)) b v.apart (stands r c) i);
        ids = rw (ids_are (order_words R).id P.clients h.ids) v.ids;
        below = in_below P.places (client_rows P) (clients_below P v);
        unchained = λ r l n.
            ⊎_elim (λ i. absurd (not_both r (client_rows P) i n)) (h.unchained r) (in_either r (client_rows P) P.free_clients (fills P.places _ v.clients r l));
      }
