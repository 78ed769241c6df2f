-- Each computed test decides its fact.
use mathlib.Core.List.{List, [], ◌∷◌, ◌++◌, map}
use mathlib.Core.Bool.{Bool, true, false, cond, ◌&&◌}
use mathlib.Core.Path.{◌≡◌, refl, sym, ap, ap₂, ◌∙◌}
use mathlib.Core.Logic.{◌⊎◌, ⊎_elim, inl, inr}
use Prim.Native.Nat.{ℕ, ◌≤◌, ◌<◌}
use native.Mathlib.Omega.{arith}
use lib.Dec.{eqb, leb, ltb}
use lib.ListN.{length, get_or}
use borrow.Author.Tests.{eq-eqb, le-leb, lt-ltb, eqb-true, leb-true, ltb-true}
use Rattle.table.specs.Kind as kind
use Rattle.rules.specs.Rows.{has, all, distinct, once, rising, same, In, NotIn, All, Distinct, Below, Once, Rising}
use Rattle.rules.specs.Spread.{bucket}
use Rattle.rules.specs.Picture.{Picture, Client, client_id, item_rows, client_rows, count_of, concat}
use Rattle.rules.specs.Sound.{right, Right}
use Rattle.rules.proofs.Rows.{not_both, notin}

abbrev pub Decides : Bool → Type 0 → Type 0
Decides b A = (b ≡ true → A) × (A → b ≡ true)

pub no_true : false ≡ true → ⊥
no_true e = let z : ◌≡◌ {A = ℕ} 0 1 = ap (λ (b : Bool). cond b 1 0) e in omega arith

-- tests put together

infixl 35 ◌&◌ ◌then◌
◌then◌ : {a b : Bool} {A B : Type 0} → Decides a A → Decides b B → Decides (cond a b false) (A × B)
◌then◌ {a = true} d e = (λ z. (d.0 refl, e.0 z), λ u. e.1 u.1)
◌then◌ {a = false} d e = (λ z. absurd (no_true z), λ u. d.1 u.0)

pub ◌&◌ : {a b : Bool} {A B : Type 0} → Decides a A → Decides b B → Decides (a && b) (A × B)
◌&◌ {a = true} d e = d then e
◌&◌ {a = false} d e = d then e

or_decides : {a b : Bool} {A B : Type 0} → Decides a A → Decides b B → Decides (cond a true b) (A ⊎ B)
or_decides {a = true} d e = (λ z. inl (d.0 refl), λ u. refl)
or_decides {a = false} d e = (λ z. inr (e.0 z), λ u. ⊎_elim (λ x. absurd (no_true (d.1 x))) e.1 u)

so_decides : {b : Bool} {A B : Type 0} → (A → B) → (B → A) → Decides b A → Decides b B
so_decides f g d = (λ z. f (d.0 z), λ x. d.1 (g x))

-- of numbers

pub eqb_decides : (m n : ℕ) → Decides (eqb m n) (m ≡ n)
eqb_decides m n = (eqb-true m n, eq-eqb m n)

pub leb_decides : (m n : ℕ) → Decides (leb m n) (m ≤ n)
leb_decides m n = (leb-true m n, le-leb m n)

ltb_decides : (m n : ℕ) → Decides (ltb m n) (m < n)
ltb_decides m n = (ltb-true m n, lt-ltb m n)

pub range_decides : (q : ℕ) → Decides (kind.in_range q) ((1 ≤ q) × (q ≤ kind.largest))
range_decides q = leb_decides 1 q & leb_decides q kind.largest

-- of lists

pub has_decides : (r : ℕ) (xs : List ℕ) → Decides (has r xs) (In r xs)
has_decides r [] = (λ z. no_true z, λ i. absurd i)
has_decides r (x ∷ xs) = or_decides (eqb_decides r x) (has_decides r xs)

pub has_not : (r : ℕ) (xs : List ℕ) → has r xs ≡ false → NotIn r xs
has_not r xs e = notin r xs (λ i. no_true (sym e ∙ (has_decides r xs).1 i))

all_decides : {A : Type 0} (p : A → Bool) (F : A → Type 0) (xs : List A) → ((x : A) → Decides (p x) (F x)) → Decides (all p xs) (All F xs)
all_decides p F [] d = (λ z. tt, λ u. refl)
all_decides p F (x ∷ xs) d = d x then all_decides p F xs d

below_decides : (q : ℕ) (xs : List ℕ) → Decides (all (λ r. ltb r q) xs) (Below q xs)
below_decides q [] = (λ z. tt, λ u. refl)
below_decides q (x ∷ xs) = ltb_decides x q then below_decides q xs

rising_decides : (m : ℕ) (xs : List ℕ) → Decides (rising m xs) (Rising m xs)
rising_decides m [] = (λ z. tt, λ u. refl)
rising_decides m (x ∷ xs) = leb_decides m x then rising_decides x xs

distinct_decides : (xs : List ℕ) → Decides (distinct xs) (Distinct xs)
distinct_decides [] = (λ z. tt, λ u. refl)
distinct_decides (x ∷ xs) = go (has x xs) (has_decides x xs) (distinct_decides xs)
  where
    go : (b : Bool) → Decides b (In x xs) → Decides (distinct xs) (Distinct xs) → Decides (cond b false (distinct xs)) (Distinct (x ∷ xs))
    go true d e = (λ z. absurd (no_true z), λ u. absurd (not_both x xs (d.0 refl) u.0))
    go false d e = (λ z. (notin x xs (λ i. no_true (d.1 i)), e.0 z), λ u. e.1 u.1)

once_decides : (q : ℕ) (xs : List ℕ) → Decides (once q xs) (Once q xs)
once_decides q xs =
    so_decides (λ ((d, b), l). record { distinct = d; below = b; long = l }) (λ u. ((u.distinct, u.below), u.long))
    (distinct_decides xs & below_decides q xs & eqb_decides (length xs) q)

pub same_decides : (xs ys : List ℕ) → Decides (same xs ys) (xs ≡ ys)
same_decides [] [] = (λ z. refl, λ u. refl)
same_decides [] (y ∷ ys) = (λ z. absurd (no_true z), λ u. cc)
same_decides (x ∷ xs) [] = (λ z. absurd (no_true z), λ u. cc)
same_decides (x ∷ xs) (y ∷ ys) =
    so_decides (λ (e, f). ap₂ ◌∷◌ e f) (λ u. (cc, cc)) (eqb_decides x y then same_decides xs ys)

-- the clauses of a right picture
pub right_decides : (P : Picture) → Decides (right P) (Right P)
unfolding right
right_decides P =
    let chain : Client → List ℕ = λ c. get_or P.chains (bucket P.places c.id) [] in
    so_decides
    (λ ((((((((((least, most), items), clients), owners), counts), ids), buckets), stands), apart), nobody).
    record {
      least = least;
      most = most;
      items = items;
      clients = clients;
      owners = owners;
      counts = counts;
      ids = ids;
      buckets = buckets;
      stands = stands;
      apart = apart;
      nobody = nobody;
    })
    (λ v. ((((((((((v.least, v.most), v.items), v.clients), v.owners), v.counts), v.ids), v.buckets), v.stands), v.apart), v.nobody))
    (range_decides P.places
    & once_decides P.places (item_rows P ++ P.free_items)
    & once_decides P.places (client_rows P ++ P.free_clients)
    & all_decides (λ i. has i.client (client_rows P)) (λ i. In i.client (client_rows P)) P.window (λ i. has_decides i.client (client_rows P))
    & rising_decides 1 (map (count_of P.window) (client_rows P))
    & distinct_decides (map client_id P.clients)
    & eqb_decides (length P.chains) P.places
    & all_decides (λ c. has c.row (chain c)) (λ c. In c.row (chain c)) P.clients (λ c. has_decides c.row (chain c))
    & distinct_decides (concat P.chains)
    & all_decides (λ r. has r (client_rows P)) (λ r. In r (client_rows P)) (concat P.chains) (λ r. has_decides r (client_rows P)))
