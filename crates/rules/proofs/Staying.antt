-- After one of several items of a client left, every client stands in its row with its id.
use mathlib.Core.List.{List, map}
use mathlib.Core.Path.{◌≡◌, refl, sym, ap₂, ◌∙◌}
use Prim.Native.Nat.{ℕ, ◌≤◌}
use native.Mathlib.Omega.{arith}
use borrow.Author.Tests.{ne_eqb}
use Rattle.rules.specs.Rows.{In, Distinct}
use Rattle.rules.specs.Picture.{Item, Client, Picture, client, item_row, client_row, client_id, client_rows, count_of, id_of}
use Rattle.rules.specs.Steps.{without_item, leave}
use Rattle.rules.specs.Sound.{Right}
use Rattle.rules.proofs.Put.{Put, put_map, put_in, take_in, take_all, take_out, put_fresh}
use Rattle.rules.proofs.Look.{find, put_look}
use Rattle.rules.proofs.Right.{items_distinct, clients_distinct}
use Rattle.rules.proofs.Plain.{place_put, client_out}
use Rattle.rules.proofs.Settle.{count_more}
use Rattle.rules.proofs.Moves.{leave_more}

-- the clients ds are the clients cs, in another order
pub record Staying (cs ds : List Client) : Type 0 where
  pub stays : (r : ℕ) → In r (map client_row cs) → In r (map client_row ds)
  pub stood : (r : ℕ) → In r (map client_row ds) → In r (map client_row cs)
  pub named : (r : ℕ) → id_of ds r ≡ id_of cs r

-- one of them was put elsewhere among the others
placed : {c : Client} {xs cs ds : List Client} → Put c xs cs → Put c xs ds → Distinct (map client_row cs) → Staying cs ds
placed p o d =
    record {
      stays = λ r i. put_in r (put_map client_row o) (take_in r (put_map client_row p) i);
      stood = λ r i. put_in r (put_map client_row p) (take_in r (put_map client_row o) i);
      named = λ r. put_look client_row client_id r o (put_fresh client_row p d) ∙ sym (put_look client_row client_id r p (put_fresh client_row p d));
    }

pub leave_staying : (P : Picture) (i : Item) (v : List Item) → Right P → Put i v P.window → 2 ≤ count_of P.window i.client → Staying P.clients (leave P i).clients
leave_staying P i v h p two =
    let w : List Item = without_item i.row P.window in
    let f = find client_row i.client P.clients (take_all (λ i. In i.client (client_rows P)) p h.owners).0 in
    let c : f.one ≡ client i.client (id_of P.clients i.client) = ap₂ client f.is (sym (f.look client_id)) in
    let its = rw c at f.put in
    let out : w ≡ v = take_out item_row (without_item i.row) (λ x l. refl) p (items_distinct P h) in
    let more : count_of w i.client ≡ 0 → ⊥ = λ e. omega (arith, two, count_more p, rw out at e) in
    rw (leave_more P i more, ne_eqb (count_of w i.client) 0 more, client_out its (clients_distinct P h))
    (placed its (place_put (count_of w) _ f.others) (clients_distinct P h))
