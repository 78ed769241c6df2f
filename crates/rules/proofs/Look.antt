-- Who is in a row, and whose items are whose: `look`, and each client's own rows.
use mathlib.Core.List.{List, [], ◌∷◌, map}
use mathlib.Core.Bool.{cond}
use mathlib.Core.Path.{◌≡◌, refl, sym, ap, ◌∙◌}
use mathlib.Core.Logic.{⊎_elim, inl}
use Prim.Native.Nat.{ℕ, ◌≤◌}
use native.Mathlib.Decide.{ℕ_discrete}
use lib.Dec.{eqb}
use borrow.Author.Tests.{eq-eqb, ne_eqb}
use Rattle.rules.specs.Rows.{head_or, In, NotIn, All, Distinct}
use Rattle.rules.specs.Picture.{Item, Client, item_row, client_row, client_id, own_rows, count_of, id_of, look}
use Rattle.rules.specs.Draw.{owner_of}
use Rattle.rules.proofs.Put.{Put, here, there, put_map, put_in, take_all, all_puts, put_there, put_fresh}
use Rattle.rules.proofs.Rows.{other, not_both, notin, head_some}

-- the one of a key that is there, and what is looked up by it
pub record Found {A : Type 0} (key : A → ℕ) (r : ℕ) (xs : List A) : Type 0 where
  pub one : A
  pub others : List A
  pub put : Put one others xs
  pub is : key one ≡ r
  pub look : (value : A → ℕ) → look key value xs r ≡ value one

pub find : {A : Type 0} (key : A → ℕ) (r : ℕ) (xs : List A) → In r (map key xs) → Found key r xs
find key r [] i = absurd i
find key r (x ∷ xs) i =
    elim (ℕ_discrete (key x) r) [
      | yes e ↦ record { one = x; others = xs; put = here; is = e; look = λ value. rw (eq-eqb (key x) r e) }
      | no n ↦
          let f = find key r xs (⊎_elim (λ e. absurd (n (sym e))) (λ j. j) i) in
          record { one = f.one; others = x ∷ f.others; put = there f.put; is = f.is; look = λ value. rw (ne_eqb (key x) r n) (f.look value) }
    ]

-- a key that is not there
pub look_out : {A : Type 0} (key value : A → ℕ) (r : ℕ) (xs : List A) → NotIn r (map key xs) → look key value xs r ≡ 0
look_out key value r [] n = refl
look_out key value r (x ∷ xs) n = rw (ne_eqb (key x) r (λ e. n.0 (sym e))) (look_out key value r xs n.1)

-- with one more there
pub put_look : {A : Type 0} (key value : A → ℕ) {c : A} {xs ys : List A} (r : ℕ) → Put c xs ys → NotIn (key c) (map key xs)
    → look key value ys r ≡ cond (eqb (key c) r) (value c) (look key value xs r)
put_look key value r here n = refl
put_look key value {c} r (there {x = x} p) n =
    elim (ℕ_discrete (key x) r) [
      | yes e ↦ rw (eq-eqb (key x) r e, ne_eqb (key c) r (λ z. n.0 (z ∙ sym e)))
      | no m ↦ rw (ne_eqb (key x) r m) (put_look key value r p n.1)
    ]

pub look_same : {A : Type 0} (key value : A → ℕ) {c : A} {xs ys : List A} → Put c xs ys → Distinct (map key ys) → look key value ys (key c) ≡ value c
look_same key value {c} p d = put_look key value (key c) p (put_fresh key p d) ∙ rw (eq-eqb (key c) (key c) refl)

-- a column that has each one's value is `look`, and the other way
pub look_in : {A : Type 0} (key value : A → ℕ) (o : ℕ → ℕ) (xs : List A) → All (λ x. o (key x) ≡ value x) xs → (r : ℕ) → In r (map key xs) → o r ≡ look key value xs r
look_in key value o xs a r i =
    let f = find key r xs i in ap o (sym f.is) ∙ (take_all (λ x. o (key x) ≡ value x) f.put a).0 ∙ sym (f.look value)

pub look_all : {A : Type 0} (key value : A → ℕ) (o : ℕ → ℕ) (xs : List A) → Distinct (map key xs) → ((r : ℕ) → In r (map key xs) → o r ≡ look key value xs r)
    → All (λ x. o (key x) ≡ value x) xs
look_all key value o xs d h =
    all_puts (λ x. o (key x) ≡ value x) xs
    (λ x ys p. h (key x) (put_there key p) ∙ look_same key value p d)

-- looked up there and back
pub look_back : {A : Type 0} (key value : A → ℕ) (xs : List A) → Distinct (map value xs) → (r : ℕ) → In r (map key xs) → look value key xs (look key value xs r) ≡ r
look_back key value xs d r i =
    let f = find key r xs i in
    rw (f.look value) (look_same value key f.put d ∙ f.is)

-- a client's own rows, with one item more or less

pub own_put : {i : Item} {v w : List Item} (c : ℕ) → Put i v w → i.client ≡ c → Put i.row (own_rows c v) (own_rows c w)
own_put {i} c here e = rw (eq-eqb i.client c e) here
own_put c (there {x = x} p) e =
    elim (ℕ_discrete x.client c) [
      | yes f ↦ rw (eq-eqb x.client c f) (there (own_put c p e))
      | no n ↦ rw (ne_eqb x.client c n) (own_put c p e)
    ]

pub own_kept : {i : Item} {v w : List Item} (c : ℕ) → Put i v w → (i.client ≡ c → ⊥) → own_rows c w ≡ own_rows c v
own_kept {i} c here n = rw (ne_eqb i.client c n)
own_kept c (there {x = x} p) n = ap (λ (l : List ℕ). cond (eqb x.client c) (x.row ∷ l) l) (own_kept c p n)

-- the item of a row that is a client's own
pub record Owned (c r : ℕ) (w : List Item) : Type 0 where
  pub item : Item
  pub others : List Item
  pub put : Put item others w
  pub row : item.row ≡ r
  pub client : item.client ≡ c

pub own_item : (c r : ℕ) (w : List Item) → In r (own_rows c w) → Owned c r w
own_item c r [] i = absurd i
own_item c r (x ∷ w) i =
    elim (ℕ_discrete x.client c) [
      | yes e ↦
          ⊎_elim (λ z. record { item = x; others = w; put = here; row = sym z; client = e }) (λ j. later (own_item c r w j))
          (rw (eq-eqb x.client c e) at i)
      | no n ↦ later (own_item c r w (rw (ne_eqb x.client c n) at i))
    ]
  where
    later : Owned c r w → Owned c r (x ∷ w)
    later o = record { item = o.item; others = x ∷ o.others; put = there o.put; row = o.row; client = o.client }

pub own_in : (c r : ℕ) (w : List Item) → In r (own_rows c w) → In r (map item_row w)
own_in c r w i = let o = own_item c r w i in put_in r (put_map item_row o.put) (inl (sym o.row))

pub own_out : (c r : ℕ) (w : List Item) → NotIn r (map item_row w) → NotIn r (own_rows c w)
own_out c r w n = notin r (own_rows c w) (λ i. not_both r (map item_row w) (own_in c r w i) n)

pub own_distinct : (c : ℕ) (w : List Item) → Distinct (map item_row w) → Distinct (own_rows c w)
own_distinct c [] d = tt
own_distinct c (x ∷ w) d =
    elim (ℕ_discrete x.client c) [
      | yes e ↦ rw (eq-eqb x.client c e) (own_out c x.row w d.0, own_distinct c w d.1)
      | no n ↦ rw (ne_eqb x.client c n) (own_distinct c w d.1)
    ]

-- a row's owner owns it, and nobody else
pub own_of_lem : (r : ℕ) (w : List Item) → In r (map item_row w) → In r (own_rows (owner_of w r) w)
own_of_lem r w i =
    let f = find item_row r w i in put_in r (own_put (owner_of w r) f.put (sym (f.look (λ i. i.client)))) (inl (sym f.is))

pub owner_own : (c r : ℕ) (w : List Item) → Distinct (map item_row w) → In r (own_rows c w) → owner_of w r ≡ c
owner_own c r w d i =
    let o = own_item c r w i in
    ap (owner_of w) (sym o.row) ∙ look_same item_row (λ i. i.client) o.put d ∙ o.client

-- a row that owns nothing, and one that owns something
pub own_none : (c : ℕ) (os : List ℕ) (w : List Item) → All (λ i. In i.client os) w → NotIn c os → own_rows c w ≡ []
own_none c os [] a n = refl
own_none c os (x ∷ w) a n = rw (ne_eqb x.client c (λ e. other c x.client os n a.0 (sym e))) (own_none c os w a.1 n)

pub own_some : (c : ℕ) (w : List Item) → 1 ≤ count_of w c → In c (map (λ i. i.client) w)
own_some c w h =
    let o = own_item c (head_or 0 (own_rows c w)) w (head_some 0 (own_rows c w) h) in
    put_in c (put_map (λ i. i.client) o.put) (inl (sym o.client))

-- a client's id is one of the ids
pub id_in_lem : (cs : List Client) (c : ℕ) → In c (map client_row cs) → In (id_of cs c) (map client_id cs)
id_in_lem cs c i = let f = find client_row c cs i in rw (f.look client_id) (put_there client_id f.put)
