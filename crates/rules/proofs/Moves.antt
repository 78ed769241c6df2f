-- A request joins and a request leaves: the picture stays right and of its size, and forgets to the plain history's step.
use mathlib.Core.List.{List, [], ◌∷◌, ◌++◌, map}
use mathlib.Core.Bool.{Bool, true, false, cond}
use mathlib.Core.Path.{◌≡◌, refl, sym, ap, ap₂, ◌∙◌, subst}
use mathlib.Core.Logic.{inl, inr}
use Prim.Native.Nat.{ℕ, ◌≤◌}
use native.Mathlib.Omega.{arith}
use lib.Dec.{eqb}
use lib.ListN.{length}
use borrow.Author.Tests.{eq-eqb, ne_eqb}
use Rattle.table.specs.Kind as kind
use Rattle.rules.specs.Rows.{head_or, rest, In, NotIn}
use Rattle.rules.specs.History as history
use Rattle.rules.specs.History.{Request, request, changed}
use Rattle.rules.specs.Picture.{Item, Client, Picture, item, client, item_row, client_row, client_id, client_rows, count_of, id_of, row_of, request_of, plain, limits_of}
use Rattle.rules.specs.Steps.{without_item, admit, known, join_as, join, drop_item, release, leave}
use Rattle.rules.specs.Sound.{Right}
use Rattle.rules.proofs.Choose.{either_way}
use Rattle.rules.proofs.Put.{Put, here, put_map, put_last, take_all, take_rising, take_out, put_in}
use Rattle.rules.proofs.Rows.{not_both, other, meets, head_rest, without_absent, map_snoc, all_so}
use Rattle.rules.proofs.Look.{find, look_same, look_back}
use Rattle.rules.proofs.Decide.{has_decides, has_not}
use Rattle.rules.proofs.Right.{items_distinct, room}
use Rattle.rules.proofs.Clients.{Standing, rows_distinct, standing, standing_admitted}
use Rattle.rules.proofs.Plain.{requests_so}
use Rattle.rules.proofs.Settle.{Step, step_so, Near, near_joined, near_left, near_settled, count_more}

-- a right picture is near, whichever client one takes
near : (P : Picture) {c : Client} {xs : List Client} → Right P → Put c xs P.clients → Near c xs P
near P v p =
    record {
      standing = standing P v;
      put = p;
      items = v.items;
      owners = v.owners;
      others = take_rising 1 (put_map (count_of P.window) (put_map client_row p)) v.counts;
    }

-- and so is one with a client that was just admitted
module _ (P : Picture) (id : ℕ) (v : Right P) (n : NotIn id (map client_id P.clients)) (h : 1 ≤ length P.free_clients) where
  abbrev r : ℕ
  r = head_or kind.none P.free_clients

  free : Standing P.places P.clients (r ∷ rest P.free_clients) P.chains
  free = rw (head_rest kind.none P.free_clients h) at (standing P v)

  near_new : Near (client r id) P.clients (admit id P)
  near_new =
      record {
        standing = standing_admitted free n;
        put = here;
        items = v.items;
        owners = all_so _ _ P.window (λ i j. inr j) v.owners;
        others = v.counts;
      }

  -- of which the plain history knows nothing yet
  requests_kept : (plain (admit id P)).window ≡ (plain P).window
  requests_kept =
      let out = meets r (client_rows P) (rest P.free_clients) free.rows.distinct in
      requests_so (client r id ∷ P.clients) P.clients P.window
      (all_so _ _ P.window (λ i j. rw (ne_eqb r i.client (other r i.client (client_rows P) out j))) v.owners)

  order_kept : (w : List Request) → history.moved id w (id ∷ (plain P).order) ≡ history.moved id w (plain P).order
  order_kept w = rw (eq-eqb id id refl, without_absent id (plain P).order n)

  new_plain : (ticket : ℕ) → history.join (plain (admit id P)) (request id ticket) ≡ history.join (plain P) (request id ticket)
  new_plain ticket =
      let w : List Request = (plain P).window ++ (request id ticket ∷ []) in
      ap (λ (l : List Request). changed id (l ++ (request id ticket ∷ [])) (plain (admit id P))) requests_kept
      ∙ (λ k. record { window = w; order = order_kept w k })

-- a request joins
join_near : (P : Picture) {c : Client} {xs : List Client} (ticket : ℕ) → Near c xs P → 1 ≤ length P.free_items
    → Step (limits_of P) (history.join (plain P) (request c.id ticket)) (join_as c ticket P)
join_near P {c} {xs} ticket n h =
    let r : ℕ = head_or kind.none P.free_items in
    let i : Item = item r c.row ticket in
    let s = near_settled (near_joined n r ticket (rest P.free_items) (head_rest kind.none P.free_items h)) in
    let n' : ℕ = count_of (P.window ++ i ∷ []) c.row in
    let some : eqb n' 0 ≡ false = ne_eqb n' 0 (λ z. omega (arith, count_more (put_last i P.window), z)) in
    let name = look_same client_row client_id n.put (rows_distinct n.standing) in
    let window = map_snoc (request_of P.clients) P.window i ∙ ap (λ (z : ℕ). (plain P).window ++ (request z ticket ∷ [])) name in
    step_so (ap (λ (l : List Request). changed c.id l (plain P)) window) (rw some (rw some at s))

-- the row of a client that was just let in
admitted_row : (P : Picture) (id : ℕ) → row_of (admit id P).clients id ≡ head_or kind.none P.free_clients
admitted_row P id = rw (eq-eqb id id refl)

pub join_step : (P : Picture) (id ticket : ℕ) → Right P → 1 ≤ length P.free_items → Step (limits_of P) (history.join (plain P) (request id ticket)) (join P id ticket)
unfolding join
join_step P id ticket v h = go (known id P) refl
  where
    go : (b : Bool) → known id P ≡ b
        → Step (limits_of P) (history.join (plain P) (request id ticket)) (join_as (client (row_of (cond b P (admit id P)).clients id) id) ticket (cond b P (admit id P)))
    go true e =
        let f = find client_id id P.clients ((has_decides id (map client_id P.clients)).0 e) in
        let c : f.one ≡ client (row_of P.clients id) id = ap₂ client (sym (f.look client_row)) f.is in
        join_near P ticket (near P v (rw c at f.put)) h
    go false e =
        let n = has_not id (map client_id P.clients) e in
        subst (λ (r : ℕ). Step (limits_of P) (history.join (plain P) (request id ticket)) (join_as (client r id) ticket (admit id P)))
        (sym (admitted_row P id)) (step_so (new_plain P id v n (room P v h) ticket) (join_near (admit id P) ticket (near_new P id v n (room P v h)) h))

-- the client that joins by its row: one that waits, or a new one
module _ (P : Picture) (id ticket : ℕ) where
  pub join_known : Right P → (r : ℕ) → In r (client_rows P) → id_of P.clients r ≡ id → join P id ticket ≡ join_as (client r id) ticket P
  unfolding join
  join_known v r i e =
      let f = find client_row r P.clients i in
      let there : In id (map client_id P.clients) = put_in id (put_map client_id f.put) (inl (sym e ∙ f.look client_id)) in
      let row : row_of P.clients id ≡ r = ap (row_of P.clients) (sym e) ∙ look_back client_row client_id P.clients v.ids r i in
      rw ((has_decides id (map client_id P.clients)).1 there, row)

  pub join_new : NotIn id (map client_id P.clients) → join P id ticket ≡ join_as (client (head_or kind.none P.free_clients) id) ticket (admit id P)
  unfolding join
  join_new n = go (known id P) refl
    where
      go : (b : Bool) → known id P ≡ b
          → join_as (client (row_of (cond b P (admit id P)).clients id) id) ticket (cond b P (admit id P)) ≡ join_as (client (head_or kind.none P.free_clients) id) ticket (admit id P)
      go true e = absurd (not_both id (map client_id P.clients) ((has_decides id (map client_id P.clients)).0 e) n)
      go false e = ap (λ (r : ℕ). join_as (client r id) ticket (admit id P)) (admitted_row P id)

-- a request leaves, and its row is the first free one
pub leave_frees : (P : Picture) (i : Item) → (leave P i).free_items ≡ i.row ∷ P.free_items
unfolding leave
leave_frees P i =
    either_way (λ J. J.free_items ≡ i.row ∷ P.free_items) (eqb (count_of (drop_item i P).window i.client) 0)
    {x = release i.client (drop_item i P)} {y = drop_item i P} refl refl

-- its client stays, or goes with it
module _ (P : Picture) (i : Item) where
  pub leave_last : count_of (without_item i.row P.window) i.client ≡ 0 → leave P i ≡ release i.client (drop_item i P)
  unfolding leave
  leave_last z = rw (eq-eqb (count_of (without_item i.row P.window) i.client) 0 z)

  pub leave_more : (count_of (without_item i.row P.window) i.client ≡ 0 → ⊥) → leave P i ≡ drop_item i P
  unfolding leave
  leave_more n = rw (ne_eqb (count_of (without_item i.row P.window) i.client) 0 n)

pub leave_step : (P : Picture) (i : Item) (v : List Item) → Right P → Put i v P.window
    → Step (limits_of P) (changed (id_of P.clients i.client) (map (request_of P.clients) v) (plain P)) (leave P i)
unfolding leave
leave_step P i v h p =
    let f = find client_row i.client P.clients (take_all (λ i. In i.client (client_rows P)) p h.owners).0 in
    let c : f.one ≡ client i.client (id_of P.clients i.client) = ap₂ client f.is (sym (f.look client_id)) in
    rw (take_out item_row (without_item i.row) (λ x l. refl) p (items_distinct P h))
    (near_settled (near_left (near P h (rw c at f.put)) p refl))
