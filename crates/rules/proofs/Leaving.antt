-- Which request leaves: by rows the newest item of the heaviest client, or the front item, is the request that the plain history names.
use mathlib.Core.List.{List, [], ◌∷◌, map}
use mathlib.Core.Bool.{Bool, true, false, cond, ◌&&◌, and-false}
use mathlib.Core.Path.{◌≡◌, refl, sym, ap, ap₂, ◌∙◌, subst}
use mathlib.Core.Logic.{inl}
use Prim.Native.Nat.{ℕ, ◌≤◌}
use native.Mathlib.Decide.{ℕ_discrete}
use native.Mathlib.Nat.{not-suc-le-zero}
use native.Mathlib.Omega.{arith}
use lib.Dec.{eqb}
use lib.ListN.{length}
use borrow.Author.Tests.{eq-eqb, ne_eqb}
use Rattle.table.specs.Kind as kind
use Rattle.rules.specs.Rows.{last_or, In, All, Distinct}
use Rattle.rules.specs.History as history
use Rattle.rules.specs.History.{Request, heaviest_client, largest_count, changed, evict, front, left, drop_front}
use Rattle.rules.specs.Picture.{Item, Client, Picture, item, client_row, client_id, client_rows, own_rows, count_of, id_of, request_of, plain, limits_of}
use Rattle.rules.specs.Steps.{leave, newest_item, front_item}
use Rattle.rules.specs.Sound.{Right}
use Rattle.rules.proofs.Put.{Put, here, there, put_map, put_in}
use Rattle.rules.proofs.Look.{look_same}
use Rattle.rules.proofs.Right.{clients_distinct, counts_one}
use Rattle.rules.proofs.Plain.{id_test, count_plain}
use Rattle.rules.proofs.Settle.{Step, step_so, none_own}
use Rattle.rules.proofs.Moves.{leave_step}

-- the newest item of a client is in the last of its own rows
pub newest_row : (c : ℕ) (d : Item) (w : List Item) → (newest_item c d w).row ≡ last_or d.row (own_rows c w)
newest_row c d [] = refl
newest_row c d (x ∷ w) = newest_row c (cond (eqb x.client c) x d) w ∙ go (eqb x.client c) (own_rows c w)
  where
    go : (b : Bool) (o : List ℕ) → last_or (cond b x d).row o ≡ last_or d.row (cond b (x.row ∷ o) o)
    go true o = refl
    go false o = refl

-- i is the newest item of the client in row c, by row and by id
pub record Newest (cs : List Client) (c : ℕ) (w : List Item) (i : Item) : Type 0 where
  pub others : List Item
  pub put : Put i others w
  pub client : i.client ≡ c
  pub request : request_of cs i ≡ history.newest (id_of cs c) (map (request_of cs) w)
  pub rest : map (request_of cs) others ≡ history.without_newest (id_of cs c) (map (request_of cs) w)

none_newer : (c : ℕ) (d : Item) (w : List Item) → All (λ i. i.client ≡ c → ⊥) w → newest_item c d w ≡ d
none_newer c d [] a = refl
none_newer c d (x ∷ w) a = rw (ne_eqb x.client c a.0) (none_newer c d w a.1)

module _ (cs : List Client) (c : ℕ) (d : Distinct (map client_id cs)) (i : In c (map client_row cs)) where
  abbrev Owners : List Item → Type 0
  Owners w = All (λ i. In i.client (map client_row cs)) w

  last_plain : (x : Item) (w : List Item) (b : Bool) → Owners (x ∷ w) → eqb x.client c && eqb (count_of w c) 0 ≡ b
      → history.last_one (id_of cs c) (request_of cs x) (map (request_of cs) w) ≡ b
  last_plain x w b a e = rw (id_test cs d x.client c a.0 i, count_plain cs d c i w a.1) e

  newest_item_lem : (e : Item) (w : List Item) → Owners w → 1 ≤ count_of w c → Newest cs c w (newest_item c e w)
  newest_item_lem e [] a h = absurd (not-suc-le-zero h)
  newest_item_lem e (x ∷ w) a h =
      elim (ℕ_discrete (count_of w c) 0) [
        | yes z ↦
            elim (ℕ_discrete x.client c) [
              | yes f ↦
                  let last = last_plain x w true a (rw (eq-eqb x.client c f, eq-eqb (count_of w c) 0 z)) in
                  rw (eq-eqb x.client c f, none_newer c x w (none_own c w z))
                  (record { others = w; put = here; client = f; request = rw last; rest = rw last })
              | no n ↦ absurd (omega (arith, rw (ne_eqb x.client c n) at h))
            ]
        | no z ↦
            let more = last_plain x w false a (rw (ne_eqb (count_of w c) 0 z) (and-false (eqb x.client c))) in
            let u = newest_item_lem (cond (eqb x.client c) x e) w a.1 (omega (arith, z)) in
            record {
              others = x ∷ u.others;
              put = there u.put;
              client = u.client;
              request = rw more u.request;
              rest = rw more (ap (λ (l : List Request). request_of cs x ∷ l) u.rest);
            }
      ]

-- the last of the clients
record Last (cs : List Client) : Type 0 where
  pub one : Client
  pub others : List Client
  pub put : Put one others cs
  pub is : (f : Client → ℕ) (p : ℕ) → last_or p (map f cs) ≡ f one

last_of : (cs : List Client) → 1 ≤ length cs → Last cs
last_of [] h = absurd (not-suc-le-zero h)
last_of (c ∷ []) h = record { one = c; others = []; put = here; is = λ f p. refl }
last_of (c ∷ x ∷ cs) h =
    let l = last_of (x ∷ cs) (omega arith) in
    record { one = l.one; others = c ∷ l.others; put = there l.put; is = λ f p. l.is f (f c) }

some_client : (cs : List Client) (w : List Item) → All (λ i. In i.client (map client_row cs)) w → 1 ≤ length w → 1 ≤ length cs
some_client cs [] a h = absurd (not-suc-le-zero h)
some_client [] (i ∷ w) a h = absurd a.0
some_client (c ∷ cs) (i ∷ w) a h = omega arith

pub front_first : (w : List Item) → 1 ≤ length w → (v : List Item) × (front_item w ∷ v ≡ w)
front_first [] h = absurd (not-suc-le-zero h)
front_first (i ∷ w) h = (w, refl)

module _ (P : Picture) (v : Right P) (h : 1 ≤ length P.window) where
  -- the heaviest client, by row and by id
  abbrev heaviest : ℕ
  heaviest = last_or kind.none (client_rows P)

  pub heaviest_is : In heaviest (client_rows P) × (id_of P.clients heaviest ≡ heaviest_client (plain P))
  heaviest_is =
      let l = last_of P.clients (some_client P.clients P.window v.owners h) in
      let row = l.is client_row kind.none in
      let name = look_same client_row client_id l.put (clients_distinct P v) in
      (put_in heaviest (put_map client_row l.put) (inl row), ap (id_of P.clients) row ∙ name ∙ sym (l.is client_id 0))

  pub heaviest_count : count_of P.window heaviest ≡ largest_count (plain P)
  heaviest_count =
      sym (count_plain P.clients v.ids heaviest heaviest_is.0 P.window v.owners) ∙ ap (λ (i : ℕ). history.count i (plain P).window) heaviest_is.1

  -- its newest item
  abbrev newest : Item
  newest = newest_item heaviest (item 0 0 0) P.window

  pub newest_is : Newest P.clients heaviest P.window newest
  newest_is = newest_item_lem P.clients heaviest v.ids heaviest_is.0 (item 0 0 0) P.window v.owners (counts_one P v heaviest heaviest_is.0)

  pub evicted_request : request_of P.clients newest ≡ history.newest (heaviest_client (plain P)) (plain P).window
  evicted_request = newest_is.request ∙ ap (λ (z : ℕ). history.newest z (plain P).window) heaviest_is.1

  pub evict_step : Step (limits_of P) (evict (plain P)) (leave P newest)
  evict_step =
      let name = ap (id_of P.clients) newest_is.client ∙ heaviest_is.1 in
      let window = newest_is.rest ∙ ap (λ (z : ℕ). history.without_newest z (plain P).window) heaviest_is.1 in
      step_so (ap₂ (λ (z : ℕ) (w : List Request). changed z w (plain P)) name window) (leave_step P newest newest_is.others v newest_is.put)

  -- the front item
  pub front_request : front (plain P).window ≡ left (request_of P.clients (front_item P.window))
  front_request = ap (λ (w : List Item). front (map (request_of P.clients) w)) (sym (front_first P.window h).1)

  pub front_step : Step (limits_of P) (history.leave (plain P)) (leave P (front_item P.window))
  front_step =
      let (w, e) = front_first P.window h in
      step_so (ap (λ (l : List Item). drop_front (map (request_of P.clients) l) (plain P)) e)
      (leave_step P (front_item P.window) w v (subst (Put (front_item P.window) w) e here))
