-- Rows and ids name the same clients: requests, counts and places by row are the plain history's by id.
use mathlib.Core.List.{List, [], ◌∷◌, map, map-id}
use mathlib.Core.Path.{◌≡◌, refl, sym, ap, ◌∙◌}
use Prim.Native.Nat.{ℕ, suc, ◌≤◌}
use native.Mathlib.Decide.{ℕ_discrete, dec_le}
use native.Mathlib.Omega.{arith}
use lib.Dec.{eqb, leb}
use borrow.Author.Tests.{eq-eqb, ne_eqb, le-leb, lt-leb}
use Rattle.rules.specs.Rows.{without, In, All, Distinct, Rising}
use Rattle.rules.specs.History as history
use Rattle.rules.specs.Picture.{Item, Client, client_row, client_id, count_of, id_of, row_of, request_of}
use Rattle.rules.specs.Steps.{without_client, place, moved}
use Rattle.rules.proofs.Put.{Put, here, there, put_map, put_there, all_puts, take_all, take_out}
use Rattle.rules.proofs.Choose.{either_way, side_by_side}
use Rattle.rules.proofs.Rows.{map_so, all_so}
use Rattle.rules.proofs.Look.{look_same, look_back}

-- a function that can be undone keeps the test of equality
eqb_undone : (f g : ℕ → ℕ) (a b : ℕ) → g (f a) ≡ a → g (f b) ≡ b → eqb (f a) (f b) ≡ eqb a b
eqb_undone f g a b p q =
    elim (ℕ_discrete a b) [
      | yes e ↦ eq-eqb (f a) (f b) (ap f e) ∙ sym (eq-eqb a b e)
      | no n ↦ ne_eqb (f a) (f b) (λ e. n (sym p ∙ ap g e ∙ q)) ∙ sym (ne_eqb a b n)
    ]

module _ (cs : List Client) (d : Distinct (map client_id cs)) where
  pub id_test : (a b : ℕ) → In a (map client_row cs) → In b (map client_row cs) → eqb (id_of cs a) (id_of cs b) ≡ eqb a b
  id_test a b i j = eqb_undone (id_of cs) (row_of cs) a b (look_back client_row client_id cs d a i) (look_back client_row client_id cs d b j)

  -- a count by row
  pub count_plain : (r : ℕ) → In r (map client_row cs) → (w : List Item) → All (λ i. In i.client (map client_row cs)) w
      → history.count (id_of cs r) (map (request_of cs) w) ≡ count_of w r
  count_plain r i [] a = refl
  count_plain r i (x ∷ w) a =
      rw (id_test x.client r a.0 i)
      (elim (ℕ_discrete x.client r) [
        | yes e ↦ rw (eq-eqb x.client r e) (ap suc (count_plain r i w a.1))
        | no n ↦ rw (ne_eqb x.client r n) (count_plain r i w a.1)
      ])

  pub clients_plain : (w : List Item) → Distinct (map client_row cs) → All (λ i. In i.client (map client_row cs)) w
      → All (λ c. history.count c.id (map (request_of cs) w) ≡ count_of w c.row) cs
  clients_plain w e a =
      all_puts _ cs (λ c xs p. ap (λ (z : ℕ). history.count z (map (request_of cs) w)) (sym (look_same client_row client_id p e))
      ∙ count_plain c.row (put_there client_row p) w a)

-- requests are read alike by two lists of clients that name the items' owners alike
pub requests_so : (cs ds : List Client) (w : List Item) → All (λ i. id_of cs i.client ≡ id_of ds i.client) w → map (request_of cs) w ≡ map (request_of ds) w
requests_so cs ds w a =
    map_so (request_of cs) (request_of ds) w (all_so _ _ w (λ i e. ap (λ (z : ℕ). history.request z i.ticket) e) a)

-- a client in its place: by row as by id, where the counts are the same
place_plain : (n m : ℕ → ℕ) (c : Client) (xs : List Client) → All (λ x. m x.id ≡ n x.row) xs → m c.id ≡ n c.row
    → map client_id (place n c xs) ≡ history.place m c.id (map client_id xs)
place_plain n m c [] a e = refl
place_plain n m c (x ∷ xs) a e =
    rw (a.0, e) (side_by_side (map client_id) (leb (n c.row) (n x.row)) refl (ap (λ (l : List ℕ). x.id ∷ l) (place_plain n m c xs a.1 e)))

pub place_put : (n : ℕ → ℕ) (c : Client) (xs : List Client) → Put c xs (place n c xs)
place_put n c [] = here
place_put n c (x ∷ xs) = either_way (Put c (x ∷ xs)) (leb (n c.row) (n x.row)) here (there (place_put n c xs))

pub place_rising : (n : ℕ → ℕ) (m : ℕ) (c : Client) (xs : List Client) → m ≤ n c.row → Rising m (map n (map client_row xs)) → Rising m (map n (map client_row (place n c xs)))
place_rising n m c [] h u = (h, tt)
place_rising n m c (x ∷ xs) h u =
    elim (dec_le (n c.row) (n x.row)) [
      | yes l ↦ rw (le-leb (n c.row) (n x.row) l) (h, (l, u.1))
      | no g ↦ rw (lt-leb (n c.row) (n x.row) (omega arith)) (u.0, place_rising n (n x.row) c xs (omega arith) u.1)
    ]

-- the client that moves taken out of the order
module _ {c : Client} {xs cs : List Client} (p : Put c xs cs) where
  pub client_out : Distinct (map client_row cs) → without_client c.row cs ≡ xs
  client_out d = take_out client_row (without_client c.row) (λ x l. refl) p d

  id_out : Distinct (map client_id cs) → without c.id (map client_id cs) ≡ map client_id xs
  id_out d =
      take_out (λ z. z) (without c.id) (λ x l. refl) (put_map client_id p) (rw map-id d)

  pub moved_plain : (w : List Item) → Distinct (map client_row cs) → Distinct (map client_id cs) → All (λ i. In i.client (map client_row cs)) w
      → map client_id (moved c w cs) ≡ history.moved c.id (map (request_of cs) w) (map client_id cs)
  moved_plain w dr di o =
      let a = take_all _ p (clients_plain cs di w dr o) in
      rw (client_out dr, id_out di, a.0)
      (elim (ℕ_discrete (count_of w c.row) 0) [
        | yes e ↦ rw (eq-eqb (count_of w c.row) 0 e)
        | no n ↦
            rw (ne_eqb (count_of w c.row) 0 n)
            (place_plain (count_of w) (λ i. history.count i (map (request_of cs) w)) c xs a.1 a.0)
      ])
