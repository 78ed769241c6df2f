-- A picture that is right but for the count of one client: an item joins it or leaves it, and then the client settles, as the plain history says.
use mathlib.Core.List.{List, [], ◌∷◌, ◌++◌, map}
use mathlib.Core.Bool.{Bool, true, false, cond}
use mathlib.Core.Path.{◌≡◌, refl, sym, ap, ◌∙◌}
use mathlib.Core.Logic.{⊎_elim}
use Prim.Native.Nat.{ℕ, suc}
use native.Mathlib.Omega.{arith}
use lib.Dec.{eqb}
use lib.ListN.{length}
use borrow.Author.Tests.{ne_eqb, eqb-true, eqb-false}
use Rattle.rules.specs.Rows.{In, NotIn, All, Once, Rising}
use Rattle.rules.specs.History.{Waiting, changed, Limits}
use Rattle.rules.specs.Picture.{Item, Client, Picture, item, item_row, client_row, client_id, item_rows, client_rows, count_of, id_of, request_of, plain, limits_of}
use Rattle.rules.specs.Steps.{without_client, place, moved, release}
use Rattle.rules.specs.Sound.{Right}
use Rattle.rules.proofs.Put.{Put, here, put_map, put_first, put_second, put_last, put_all, take_all, all_puts, put_in, take_in, put_there, put_fresh, put_once, put_length}
use Rattle.rules.proofs.Rows.{other, all_so, all_both, in_all, map_so}
use Rattle.rules.proofs.Look.{put_look, own_put, own_kept}
use Rattle.rules.proofs.Clients.{Standing, rows_distinct, standing_moved, standing_released, standing_right}
use Rattle.rules.proofs.Plain.{requests_so, place_put, place_rising, client_out, moved_plain}

-- a right picture within limits L that forgets to s
pub record Step (L : Limits) (s : Waiting) (J : Picture) : Type 0 where
  pub right : Right J
  pub limits : limits_of J ≡ L
  pub plain : plain J ≡ s

pub step_so : {L : Limits} {s t : Waiting} {J : Picture} → s ≡ t → Step L s J → Step L t J
step_so e j = record { right = j.right; limits = j.limits; plain = j.plain ∙ e }

-- the client c may have any count; the others xs are in order
pub record Near (c : Client) (xs : List Client) (P : Picture) : Type 0 where
  pub standing : Standing P.places P.clients P.free_clients P.chains
  pub put : Put c xs P.clients
  pub items : Once P.places (item_rows P ++ P.free_items)
  pub owners : All (λ i. In i.client (client_rows P)) P.window
  pub others : Rising 1 (map (count_of P.window) (map client_row xs))

-- another window, or another order
abbrev pub waiting : List Item → List ℕ → Picture → Picture
waiting w free P =
    record { places = P.places; window = w; clients = P.clients; free_items = free; free_clients = P.free_clients; chains = P.chains }

abbrev pub ordered : List Client → Picture → Picture
ordered cs P =
    record { places = P.places; window = P.window; clients = cs; free_items = P.free_items; free_clients = P.free_clients; chains = P.chains }

-- the client in its place by count, or released where it has no item
abbrev pub settled : Client → Picture → Picture
settled c P =
    let Q : Picture = ordered (moved c P.window P.clients) P in
    cond (eqb (count_of P.window c.row) 0) (release c.row Q) Q

-- a count changes with an item of the client's own alone

pub count_more : {i : Item} {v w : List Item} → Put i v w → count_of w i.client ≡ suc (count_of v i.client)
count_more {i} p = put_length (own_put i.client p refl)

counts_kept : {i : Item} {v w : List Item} (rs : List ℕ) → Put i v w → NotIn i.client rs → map (count_of w) rs ≡ map (count_of v) rs
counts_kept {i} {v} {w} rs p n =
    map_so (count_of w) (count_of v) rs (in_all _ rs (λ r j. ap length (own_kept r p (other i.client r rs n j))))

pub none_own : (c : ℕ) (w : List Item) → count_of w c ≡ 0 → All (λ i. i.client ≡ c → ⊥) w
none_own c w z = all_puts _ w (λ i v p e. omega (arith, put_length (own_put c p e), z))

module _ {c : Client} {xs : List Client} {P : Picture} (n : Near c xs P) where
  fresh : NotIn c.row (map client_row xs)
  fresh = put_fresh client_row n.put (rows_distinct n.standing)

  -- an item of the client joins in the first free row
  pub near_joined : (r ticket : ℕ) (free : List ℕ) → P.free_items ≡ r ∷ free → Near c xs (waiting (P.window ++ item r c.row ticket ∷ []) free P)
  near_joined r ticket free e =
      let i = item r c.row ticket in
      let p = put_last i P.window in
      record {
        standing = n.standing;
        put = n.put;
        items = put_once P.places (put_second (item_rows P) here) (put_first free (put_map item_row p)) (rw e at n.items);
        owners = put_all (λ i. In i.client (client_rows P)) p (put_there client_row n.put) n.owners;
        others = rw (counts_kept (map client_row xs) p fresh) n.others;
      }

  -- an item of the client leaves
  pub near_left : {i : Item} {v : List Item} → Put i v P.window → i.client ≡ c.row → Near c xs (waiting v (i.row ∷ P.free_items) P)
  near_left {i} {v} p e =
      record {
        standing = n.standing;
        put = n.put;
        items = put_once P.places (put_first P.free_items (put_map item_row p)) (put_second (map item_row v) here) n.items;
        owners = (take_all (λ i. In i.client (client_rows P)) p n.owners).1;
        others = rw (← counts_kept (map client_row xs) p (rw e fresh)) n.others;
      }

  -- it settles: to its place by count, or released with its last item
  placed : Put c xs (place (count_of P.window) c xs)
  placed = place_put (count_of P.window) c xs

  placed_name : (r : ℕ) → id_of (place (count_of P.window) c xs) r ≡ id_of P.clients r
  placed_name r = put_look client_row client_id r placed fresh ∙ sym (put_look client_row client_id r n.put fresh)

  placed_right : (count_of P.window c.row ≡ 0 → ⊥) → Right (ordered (place (count_of P.window) c xs) P)
  placed_right m =
      standing_right (ordered (place (count_of P.window) c xs) P) (standing_moved n.standing n.put placed) n.items
      (all_so _ _ P.window (λ i j. put_in i.client (put_map client_row placed) (take_in i.client (put_map client_row n.put) j)) n.owners)
      (place_rising (count_of P.window) 1 c xs (omega (arith, m)) n.others)

  released_right : count_of P.window c.row ≡ 0 → Right (release c.row (ordered xs P))
  released_right z =
      standing_right (release c.row (ordered xs P)) (standing_released n.standing n.put) n.items
      (all_both _ _ _ P.window (λ i j m. ⊎_elim (λ e. absurd (m e)) (λ k. k) (take_in i.client (put_map client_row n.put) j)) n.owners (none_own c.row P.window z))
      n.others

  released_name : (r : ℕ) → (r ≡ c.row → ⊥) → id_of xs r ≡ id_of P.clients r
  released_name r o = sym (put_look client_row client_id r n.put fresh ∙ rw (ne_eqb c.row r (λ e. o (sym e))))

  pub near_settled : Step (limits_of P) (changed c.id (plain P).window (plain P)) (settled c P)
  near_settled = go (eqb (count_of P.window c.row) 0) refl
    where
      ds : List Client
      ds = moved c P.window P.clients

      out : without_client c.row P.clients ≡ xs
      out = client_out n.put (rows_distinct n.standing)

      forgets : (es : List Client) → ds ≡ es → All (λ i. id_of es i.client ≡ id_of P.clients i.client) P.window
          → plain (ordered ds P) ≡ changed c.id (plain P).window (plain P)
      forgets es m a =
          let window = ap (λ (l : List Client). map (request_of l) P.window) m ∙ requests_so es P.clients P.window a in
          let order = moved_plain n.put P.window (rows_distinct n.standing) n.standing.ids n.owners in
          λ k. record { window = window k; order = order k }

      go : (b : Bool) → eqb (count_of P.window c.row) 0 ≡ b
          → Step (limits_of P) (changed c.id (plain P).window (plain P)) (cond b (release c.row (ordered ds P)) (ordered ds P))
      go true e =
          let z = eqb-true (count_of P.window c.row) 0 e in
          let m : ds ≡ xs = rw (e, out) in
          record { right = rw m (released_right z); limits = refl; plain = forgets xs m (all_so _ _ P.window (λ i o. released_name i.client o) (none_own c.row P.window z)) }
      go false e =
          let m : ds ≡ place (count_of P.window) c xs = rw (e, out) in
          record {
            right = rw m (placed_right (eqb-false (count_of P.window c.row) 0 e));
            limits = refl;
            plain = forgets (place (count_of P.window) c xs) m (all_puts _ P.window (λ i v p. placed_name i.client));
          }
