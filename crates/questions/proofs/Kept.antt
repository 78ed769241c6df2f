-- What the lookup asks of a ready table; and what it finds there is the client of that id.
use mathlib.Core.List.{List, []}
use mathlib.Core.Path.{◌≡◌, sym, ◌∙◌, subst}
use Prim.Native.Nat.{ℕ, ◌<◌}
use lib.ListN.{get_or}
use Rattle.table.specs.Kind as kind
use Rattle.table.specs.Regions.{regions}
use Rattle.table.specs.Owners.{order_words}
use Rattle.rules.specs.Rows.{In}
use Rattle.rules.specs.Linked.{Link}
use Rattle.rules.specs.Picture.{client_row, client_id, client_rows, id_of, plain}
use Rattle.rules.specs.Sound.{picture}
use Rattle.rules.specs.Ready.{Ready}
use Rattle.rules.proofs.Put.{put_there, take_all}
use Rattle.rules.proofs.Rows.{in_below}
use Rattle.rules.proofs.Look.{find, look_in}
use Rattle.rules.proofs.Ready.{ready_right, ready_holds, ready_ordered}
use Rattle.lookup.specs.Promise.{Kept, Found, Seeks, ready_keeps}

module _ {q : ℕ} {t : List ℕ} (y : Ready q t) where
  -- a client's row is one of the table's
  pub client_low : (r : ℕ) → In r (client_rows (picture t)) → r < q
  client_low = in_below q (client_rows (picture t)) (ready_ordered y).linked.below

  -- what the lookup asks
  pub ready_kept : Kept q t
  ready_kept = record { clients = client_rows (picture t); chains = λ b. get_or (picture t).chains b []; keeps = ready_keeps y }

  pub ready_some : 0 < q
  ready_some = subst (λ (n : ℕ). 0 < n) y.places (ready_right y).least

  -- what the lookup finds: a client's row, or nobody
  pub ready_found : {x : ℕ} {at : _} → Seeks q t x at → Found (order_words (regions q t)).id (client_rows (picture t)) x at.row
  ready_found s = s.found _ _ (ready_keeps y)

  module _ {x r : ℕ} (f : Found (order_words (regions q t)).id (client_rows (picture t)) x r) where
    pub found_client : (r ≡ kind.none → ⊥) → In r (client_rows (picture t)) × (id_of (picture t).clients r ≡ x)
    found_client n = let u = f.row n in (u.0, sym (look_in client_row client_id (order_words (regions q t)).id (picture t).clients (ready_holds y).ids r u.0) ∙ u.1)

    pub found_low : Link q r
    found_low n = client_low r (f.row n).0

    pub found_nobody : r ≡ kind.none → In x (plain (picture t)).order → ⊥
    found_nobody e i =
        let c = find client_id x (picture t).clients i in
        f.absent e c.one.row (put_there client_row c.put) ((take_all _ c.put (ready_holds y).ids).0 ∙ c.is)
