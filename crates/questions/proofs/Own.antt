-- A client's own requests: by rows and by id the same, and an absent client has none.
use mathlib.Core.Bool.{Bool, true, false, cond, ◌&&◌}
use mathlib.Core.List.{List, [], ◌∷◌, map}
use mathlib.Core.Path.{◌≡◌, refl, sym, ap, ap₂, subst}
use mathlib.Core.Logic.{inl}
use Prim.Native.Nat.{ℕ, suc, ◌≤◌}
use native.Mathlib.Nat.{not-suc-le-zero}
use lib.Dec.{eqb, eqb-suc-zero}
use lib.ListN.{length}
use borrow.Author.Tests.{ne_eqb}
use Rattle.rules.specs.Rows.{head_or, last_or, In, All, Distinct}
use Rattle.rules.specs.History as history
use Rattle.rules.specs.History.{Request, Waiting}
use Rattle.rules.specs.Picture.{Item, Client, client_row, client_id, own_rows, id_of, request_of}
use Rattle.rules.proofs.Choose.{side_by_side}
use Rattle.rules.proofs.Rows.{last_in}
use Rattle.rules.proofs.Look.{id_in_lem}
use Rattle.rules.proofs.Plain.{id_test}
use Rattle.questions.proofs.Ends.{End, oldest_end, newest_end, end_of, ticket_at}

-- the tickets of client i's requests, oldest first: as many as its count, and its oldest and newest at the ends

abbrev pub tickets : ℕ → List Request → List ℕ
tickets i [] = []
tickets i (r ∷ w) = cond (eqb r.id i) (r.ticket ∷ tickets i w) (tickets i w)

count_tickets : (i : ℕ) (w : List Request) → history.count i w ≡ length (tickets i w)
count_tickets i [] = refl
count_tickets i (r ∷ w) = sym (side_by_side length (eqb r.id i) (ap suc (sym (count_tickets i w))) (sym (count_tickets i w)))

oldest_ticket_lem : (i : ℕ) (w : List Request) → (history.oldest i w).ticket ≡ head_or 0 (tickets i w)
oldest_ticket_lem i [] = refl
oldest_ticket_lem i (r ∷ w) = go (eqb r.id i) (oldest_ticket_lem i w)
  where
    go : (b : Bool) → (history.oldest i w).ticket ≡ head_or 0 (tickets i w)
        → (cond b r (history.oldest i w)).ticket ≡ head_or 0 (cond b (r.ticket ∷ tickets i w) (tickets i w))
    go true e = refl
    go false e = e

newest_ticket_lem : (i : ℕ) (w : List Request) → (history.newest i w).ticket ≡ last_or 0 (tickets i w)
newest_ticket_lem i [] = refl
newest_ticket_lem i (r ∷ w) = rw (count_tickets i w) (go (eqb r.id i) (tickets i w) (newest_ticket_lem i w))
  where
    go : (b : Bool) (xs : List ℕ) → (history.newest i w).ticket ≡ last_or 0 xs
        → (cond (b && eqb (length xs) 0) r (history.newest i w)).ticket ≡ last_or 0 (cond b (r.ticket ∷ xs) xs)
    go true [] e = refl
    go true (x ∷ xs) e = rw (eqb-suc-zero (length xs)) e
    go false xs e = e

-- an end of a list

pub end_in : (e : End) (xs : List ℕ) → 1 ≤ length xs → In (end_of e xs) xs
end_in e [] h = absurd (not-suc-le-zero h)
end_in oldest_end (x ∷ xs) h = inl refl
end_in newest_end (x ∷ xs) h = last_in x xs

last_map : (f : ℕ → ℕ) (x : ℕ) (xs : List ℕ) → f (last_or x xs) ≡ last_or (f x) (map f xs)
last_map f x [] = refl
last_map f x (y ∷ xs) = last_map f y xs

pub end_map : (e : End) (f : ℕ → ℕ) (xs : List ℕ) → 1 ≤ length xs → f (end_of e xs) ≡ end_of e (map f xs)
end_map e f [] h = absurd (not-suc-le-zero h)
end_map oldest_end f (x ∷ xs) h = refl
end_map newest_end f (x ∷ xs) h = last_map f x xs

pub end_ticket : (e : End) (s : Waiting) (i : ℕ) → ticket_at e s i ≡ end_of e (tickets i s.window)
end_ticket oldest_end s i = oldest_ticket_lem i s.window
end_ticket newest_end s i = newest_ticket_lem i s.window

-- by rows and by id

module _ (cs : List Client) where
  pub count_absent : (x : ℕ) → (In x (map client_id cs) → ⊥) → (w : List Item) → All (λ i. In i.client (map client_row cs)) w → history.count x (map (request_of cs) w) ≡ 0
  count_absent x n [] a = refl
  count_absent x n (i ∷ w) a =
      rw (ne_eqb (id_of cs i.client) x (λ e. n (subst (λ (z : ℕ). In z (map client_id cs)) e (id_in_lem cs i.client a.0)))) (count_absent x n w a.1)

  pub own_tickets : Distinct (map client_id cs) → (c : ℕ) → In c (map client_row cs) → (f : ℕ → ℕ) (w : List Item) → All (λ i. In i.client (map client_row cs)) w
      → All (λ i. f i.row ≡ i.ticket) w → map f (own_rows c w) ≡ tickets (id_of cs c) (map (request_of cs) w)
  own_tickets d c i f [] a g = refl
  own_tickets d c i f (x ∷ w) a g =
      let rest = own_tickets d c i f w a.1 g.1 in
      rw (id_test cs d x.client c a.0 i) (side_by_side (map f) (eqb x.client c) (ap₂ ◌∷◌ g.0 rest) rest)
