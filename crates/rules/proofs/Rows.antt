-- Laws of lists of rows, said once for every layer.
use mathlib.Core.List.{List, [], ◌∷◌, ◌++◌, map, reverse_aux}
use mathlib.Core.Bool.{Bool, true, false}
use mathlib.Core.Path.{◌≡◌, refl, sym, ap, ap₂, ◌∙◌, subst}
use mathlib.Core.Logic.{◌⊎◌, ⊎_elim, inl, inr}
use Prim.Native.Nat.{ℕ, zero, suc, ◌+◌, ◌≤◌, ◌<◌}
use native.Mathlib.Nat.{not-suc-le-zero, le_of_suc-le-suc}
use native.Mathlib.Omega.{arith}
use lib.Dec.{eqb}
use lib.ListN.{length, take, drop, length-append}
use borrow.Author.Tests.{eqb-true, eqb-false, ne_eqb}
use Rattle.table.specs.Regions.{upto}
use Rattle.table.proofs.Draw.{length_upto}
use Rattle.rules.specs.Rows.{head_or, last_or, rest, without, In, NotIn, All, Distinct, Below, Once, Rising}
use Rattle.rules.proofs.Put.{Put, here, put_map, put_second, all_puts, put_in, take_in, take_notin, put_distinct, take_distinct, put_below, take_below, put_length, without_put}

-- in and not in

pub not_both : (y : ℕ) (xs : List ℕ) → In y xs → NotIn y xs → ⊥
not_both y [] i n = i
not_both y (x ∷ xs) i n = ⊎_elim n.0 (λ j. not_both y xs j n.1) i

pub notin : (y : ℕ) (xs : List ℕ) → (In y xs → ⊥) → NotIn y xs
notin y [] h = tt
notin y (x ∷ xs) h = (λ e. h (inl e), notin y xs (λ i. h (inr i)))

pub in_or_not : (y : ℕ) (xs : List ℕ) → In y xs ⊎ NotIn y xs
in_or_not y [] = inr tt
in_or_not y (x ∷ xs) = go (eqb y x) refl (in_or_not y xs)
  where
    go : (b : Bool) → eqb y x ≡ b → In y xs ⊎ NotIn y xs → In y (x ∷ xs) ⊎ NotIn y (x ∷ xs)
    go true e w = inl (inl (eqb-true y x e))
    go false e w = ⊎_elim (λ i. inl (inr i)) (λ n. inr (eqb-false y x e, n)) w

-- a row of a list that x is not in is another one
pub other : (x y : ℕ) (xs : List ℕ) → NotIn x xs → In y xs → x ≡ y → ⊥
other x y xs n i e = not_both x xs (rw e i) n

pub in_left : (x : ℕ) (xs ys : List ℕ) → In x xs → In x (xs ++ ys)
in_left x [] ys i = absurd i
in_left x (y ∷ xs) ys i = ⊎_elim (λ e. inl e) (λ j. inr (in_left x xs ys j)) i

pub in_right : (x : ℕ) (xs ys : List ℕ) → In x ys → In x (xs ++ ys)
in_right x [] ys i = i
in_right x (y ∷ xs) ys i = inr (in_right x xs ys i)

pub in_either : (x : ℕ) (xs ys : List ℕ) → In x (xs ++ ys) → In x xs ⊎ In x ys
in_either x [] ys i = inr i
in_either x (y ∷ xs) ys i = ⊎_elim (λ e. inl (inl e)) (λ j. ⊎_elim (λ k. inl (inr k)) (λ k. inr k) (in_either x xs ys j)) i

pub notin_left : (x : ℕ) (xs ys : List ℕ) → NotIn x (xs ++ ys) → NotIn x xs
notin_left x [] ys h = tt
notin_left x (y ∷ xs) ys h = (h.0, notin_left x xs ys h.1)

pub notin_right : (x : ℕ) (xs ys : List ℕ) → NotIn x (xs ++ ys) → NotIn x ys
notin_right x [] ys h = h
notin_right x (y ∷ xs) ys h = notin_right x xs ys h.1

pub notin_both : (x : ℕ) (xs ys : List ℕ) → NotIn x xs → NotIn x ys → NotIn x (xs ++ ys)
notin_both x [] ys n m = m
notin_both x (y ∷ xs) ys n m = (n.0, notin_both x xs ys n.1 m)

-- a row put in, or dropped, between two parts

between : (r : ℕ) (xs ys : List ℕ) → Put r (xs ++ ys) (xs ++ r ∷ ys)
between r xs ys = put_second xs here

-- distinct rows

pub distinct_left : (xs ys : List ℕ) → Distinct (xs ++ ys) → Distinct xs
distinct_left [] ys d = tt
distinct_left (x ∷ xs) ys d = (notin_left x xs ys d.0, distinct_left xs ys d.1)

pub distinct_right : (xs ys : List ℕ) → Distinct (xs ++ ys) → Distinct ys
distinct_right [] ys d = d
distinct_right (x ∷ xs) ys d = distinct_right xs ys d.1

pub distinct_drop : (r : ℕ) (xs ys : List ℕ) → Distinct (xs ++ r ∷ ys) → Distinct (xs ++ ys)
distinct_drop r xs ys d = (take_distinct (between r xs ys) d).1

pub distinct_put : (r : ℕ) (xs ys : List ℕ) → NotIn r (xs ++ ys) → Distinct (xs ++ ys) → Distinct (xs ++ r ∷ ys)
distinct_put r xs ys n d = put_distinct (between r xs ys) n d

-- two lists with no row in common
pub distinct_both : (xs ys : List ℕ) → Distinct xs → Distinct ys → ((x : ℕ) → In x xs → In x ys → ⊥) → Distinct (xs ++ ys)
distinct_both [] ys d e h = e
distinct_both (x ∷ xs) ys d e h =
    (notin_both x xs ys d.0 (notin x ys (h x (inl refl))), distinct_both xs ys d.1 e (λ y i j. h y (inr i) j))

-- a row of the second list is not in the first
pub apart_right : (r : ℕ) (xs ys : List ℕ) → Distinct (xs ++ ys) → In r ys → NotIn r xs
apart_right r [] ys d i = tt
apart_right r (x ∷ xs) ys d i = (λ e. not_both x (xs ++ ys) (rw (sym e) (in_right r xs ys i)) d.0, apart_right r xs ys d.1 i)

-- the row in the middle is in neither part
pub meets : (y : ℕ) (xs ys : List ℕ) → Distinct (xs ++ y ∷ ys) → NotIn y xs
meets y xs ys d = apart_right y xs (y ∷ ys) d (inl refl)

-- rows of the table

pub below_left : (q : ℕ) (xs ys : List ℕ) → Below q (xs ++ ys) → Below q xs
below_left q [] ys b = tt
below_left q (x ∷ xs) ys b = (b.0, below_left q xs ys b.1)

pub below_right : (q : ℕ) (xs ys : List ℕ) → Below q (xs ++ ys) → Below q ys
below_right q [] ys b = b
below_right q (x ∷ xs) ys b = below_right q xs ys b.1

pub below_drop : (q r : ℕ) (xs ys : List ℕ) → Below q (xs ++ r ∷ ys) → Below q (xs ++ ys)
below_drop q r xs ys b = (take_below q (between r xs ys) b).1

pub below_put : (q r : ℕ) (xs ys : List ℕ) → r < q → Below q (xs ++ ys) → Below q (xs ++ r ∷ ys)
below_put q r xs ys h b = put_below q (between r xs ys) h b

pub in_below : (q : ℕ) (xs : List ℕ) → Below q xs → (x : ℕ) → In x xs → x < q
in_below q [] b x i = absurd i
in_below q (y ∷ xs) b x i = ⊎_elim (λ e. omega (arith, e, b.0)) (λ j. in_below q xs b.1 x j) i

pub below_in : (q : ℕ) (xs : List ℕ) → ((x : ℕ) → In x xs → x < q) → Below q xs
below_in q [] h = tt
below_in q (x ∷ xs) h = (h x (inl refl), below_in q xs (λ y i. h y (inr i)))

-- a number past the rows is none of them
pub past : (q x : ℕ) (xs : List ℕ) → q ≤ x → Below q xs → NotIn x xs
past q x [] h b = tt
past q x (y ∷ xs) h b = (λ e. omega (arith, e, b.0), past q x xs h b.1)

-- the ends

pub last_in : (p : ℕ) (xs : List ℕ) → (last_or p xs ≡ p) ⊎ In (last_or p xs) xs
last_in p [] = inl refl
last_in p (x ∷ xs) = ⊎_elim (λ e. inr (inl e)) (λ i. inr (inr i)) (last_in x xs)

pub head_in : (n : ℕ) (xs : List ℕ) → (head_or n xs ≡ n) ⊎ In (head_or n xs) xs
head_in n [] = inl refl
head_in n (x ∷ xs) = inr (inl refl)

-- the ends of a list that is not empty, whatever stands for an empty one's
pub head_some : (n : ℕ) (xs : List ℕ) → 1 ≤ length xs → In (head_or n xs) xs
head_some n [] h = absurd (not-suc-le-zero h)
head_some n (x ∷ xs) h = inl refl

pub head_any : (a b : ℕ) (xs : List ℕ) → 1 ≤ length xs → head_or a xs ≡ head_or b xs
head_any a b [] h = absurd (not-suc-le-zero h)
head_any a b (x ∷ xs) h = refl

pub last_any : (a b : ℕ) (xs : List ℕ) → 1 ≤ length xs → last_or a xs ≡ last_or b xs
last_any a b [] h = absurd (not-suc-le-zero h)
last_any a b (x ∷ xs) h = refl

pub head_rest : (n : ℕ) (xs : List ℕ) → 1 ≤ length xs → xs ≡ head_or n xs ∷ rest xs
head_rest n [] h = absurd (not-suc-le-zero h)
head_rest n (x ∷ xs) h = refl

-- a list without one of its rows

-- nothing to take out
pub without_absent : (r : ℕ) (xs : List ℕ) → NotIn r xs → without r xs ≡ xs
without_absent r [] n = refl
without_absent r (x ∷ xs) n = rw (ne_eqb x r (λ e. n.0 (sym e))) (ap (λ (l : List ℕ). x ∷ l) (without_absent r xs n.1))

without_is : (r : ℕ) (xs : List ℕ) → Put r (without r xs) xs ⊎ (without r xs ≡ xs)
without_is r xs = ⊎_elim (λ i. inl (without_put r xs i)) (λ n. inr (without_absent r xs n)) (in_or_not r xs)

pub in_without : (r z : ℕ) (xs : List ℕ) → In z (without r xs) → In z xs
in_without r z xs i = ⊎_elim (λ p. put_in z p (inr i)) (λ e. rw e at i) (without_is r xs)

pub notin_without : (r z : ℕ) (xs : List ℕ) → NotIn z xs → NotIn z (without r xs)
notin_without r z xs n = notin z (without r xs) (λ i. not_both z xs (in_without r z xs i) n)

pub without_in : (r z : ℕ) (xs : List ℕ) → (z ≡ r → ⊥) → In z xs → In z (without r xs)
without_in r z xs n i = ⊎_elim (λ p. ⊎_elim (λ e. absurd (n e)) (λ j. j) (take_in z p i)) (λ e. rw e i) (without_is r xs)

pub without_length : (r : ℕ) (xs : List ℕ) → In r xs → length xs ≡ suc (length (without r xs))
without_length r xs i = put_length (without_put r xs i)

-- taken out, it is there no more
pub gone : (r : ℕ) (rs : List ℕ) → In r rs → Distinct rs → NotIn r (without r rs)
gone r rs i d = (take_distinct (without_put r rs i) d).0

-- where a row stands in a list
pub record Split (r : ℕ) (rs : List ℕ) : Type 0 where
  pub left : List ℕ
  pub right : List ℕ
  pub is : rs ≡ left ++ r ∷ right
  pub rest : without r rs ≡ left ++ right

pub split_at : (r : ℕ) (rs : List ℕ) → In r rs → Split r rs
split_at r [] h = absurd h
split_at r (x ∷ xs) h = go (eqb x r) refl (λ i. split_at r xs i)
  where
    go : (b : Bool) → eqb x r ≡ b → (In r xs → Split r xs) → Split r (x ∷ xs)
    go true e f = record { left = []; right = xs; is = ap (λ (z : ℕ). z ∷ xs) (eqb-true x r e); rest = rw e }
    go false e f =
        let s = f (⊎_elim (λ z. absurd (eqb-false x r e (sym z))) (λ z. z) h) in
        record { left = x ∷ s.left; right = s.right; is = ap (λ (l : List ℕ). x ∷ l) s.is; rest = rw e (ap (λ (l : List ℕ). x ∷ l) s.rest) }

-- the pigeonhole: distinct rows out of a list are no more than it has; as many as it has, they are all of them

abbrev pub Within : List ℕ → List ℕ → Type 0
Within xs ys = (x : ℕ) → In x xs → In x ys

pub fewer : (xs ys : List ℕ) → Distinct xs → Within xs ys → length xs ≤ length ys
fewer [] ys d w = omega arith
fewer (x ∷ xs) ys d w =
    let i = fewer xs (without x ys) d.1 (λ z j. without_in x z ys (λ e. other x z xs d.0 j (sym e)) (w z (inr j))) in
    omega (arith, i, without_length x ys (w x (inl refl)))

pub all_there : (xs ys : List ℕ) → Distinct xs → Within xs ys → length ys ≤ length xs → Within ys xs
all_there xs ys d w h y i =
    ⊎_elim (λ j. j)
    (λ n. let more = fewer (y ∷ xs) ys (n, d) (λ z k. ⊎_elim (λ e. subst (λ (v : ℕ). In v ys) (sym e) i) (w z) k) in absurd (omega (arith, h, more)))
    (in_or_not y xs)

in_upto : (n : ℕ) (f : ℕ → ℕ) (i : ℕ) → i < n → In (f i) (upto n f)
unfolding upto
in_upto zero f i h = absurd (not-suc-le-zero h)
in_upto (suc n) f zero h = inl refl
in_upto (suc n) f (suc i) h = inr (in_upto n (λ j. f (suc j)) i (le_of_suc-le-suc h))

-- distinct rows of a table of q places are at most q; where they are q, each row is there
pub at_most : (q : ℕ) (xs : List ℕ) → Distinct xs → Below q xs → length xs ≤ q
at_most q xs d b =
    omega (arith, fewer xs (upto q (λ i. i)) d (λ x i. in_upto q (λ j. j) x (in_below q xs b x i)), length_upto q (λ i. i))

pub fills : (q : ℕ) (xs : List ℕ) → Once q xs → (r : ℕ) → r < q → In r xs
fills q xs o r h =
    ⊎_elim (λ i. i) (λ n. absurd (let z : suc (length xs) ≤ q = at_most q (r ∷ xs) (n, o.distinct) (h, o.below) in omega (arith, o.long))) (in_or_not r xs)

-- a fact of all

pub all_so : {A : Type 0} (F G : A → Type 0) (xs : List A) → ((x : A) → F x → G x) → All F xs → All G xs
all_so F G [] h a = tt
all_so F G (x ∷ xs) h a = (h x a.0, all_so F G xs h a.1)

pub all_both : {A : Type 0} (F G H : A → Type 0) (xs : List A) → ((x : A) → F x → G x → H x) → All F xs → All G xs → All H xs
all_both F G H [] f a b = tt
all_both F G H (x ∷ xs) f a b = (f x a.0 b.0, all_both F G H xs f a.1 b.1)

pub all_in : (F : ℕ → Type 0) (xs : List ℕ) → All F xs → (r : ℕ) → In r xs → F r
all_in F [] a r i = absurd i
all_in F (x ∷ xs) a r i = ⊎_elim (λ e. rw e a.0) (λ j. all_in F xs a.1 r j) i

pub in_all : (F : ℕ → Type 0) (xs : List ℕ) → ((r : ℕ) → In r xs → F r) → All F xs
in_all F [] h = tt
in_all F (x ∷ xs) h = (h x (inl refl), in_all F xs (λ r i. h r (inr i)))

pub notin_all : {A : Type 0} (key : A → ℕ) (r : ℕ) (xs : List A) → NotIn r (map key xs) → All (λ x. r ≡ key x → ⊥) xs
notin_all key r xs n = all_puts (λ x. r ≡ key x → ⊥) xs (λ x ys p. (take_notin r (put_map key p) n).0)

pub all_snoc : {A : Type 0} (F : A → Type 0) (xs : List A) (x : A) → All F xs → F x → All F (xs ++ x ∷ [])
all_snoc F [] x a f = (f, tt)
all_snoc F (y ∷ xs) x a f = (a.0, all_snoc F xs x a.1 f)

pub all_reverse : {A : Type 0} (F : A → Type 0) (xs ys : List A) → All F xs → All F ys → All F (reverse_aux xs ys)
all_reverse F [] ys a b = b
all_reverse F (x ∷ xs) ys a b = all_reverse F xs (x ∷ ys) a.1 (a.0, b)

pub all_take : {A : Type 0} (F : A → Type 0) (k : ℕ) (xs : List A) → All F xs → All F (take k xs)
all_take F zero xs a = tt
all_take F (suc k) [] a = tt
all_take F (suc k) (x ∷ xs) a = (a.0, all_take F k xs a.1)

pub all_drop : {A : Type 0} (F : A → Type 0) (k : ℕ) (xs : List A) → All F xs → All F (drop k xs)
all_drop F zero xs a = a
all_drop F (suc k) [] a = tt
all_drop F (suc k) (x ∷ xs) a = all_drop F k xs a.1

pub map_snoc : {A B : Type 0} (f : A → B) (xs : List A) (x : A) → map f (xs ++ x ∷ []) ≡ map f xs ++ (f x ∷ [])
map_snoc f [] x = refl
map_snoc f (y ∷ xs) x = ap (λ (l : List _). f y ∷ l) (map_snoc f xs x)

pub map_so : {A B : Type 0} (f g : A → B) (xs : List A) → All (λ x. f x ≡ g x) xs → map f xs ≡ map g xs
map_so f g [] a = refl
map_so f g (x ∷ xs) a = ap₂ ◌∷◌ a.0 (map_so f g xs a.1)

pub rebuild : {A : Type 0} (key : A → ℕ) (make : ℕ → A) (xs : List A) → All (λ x. make (key x) ≡ x) xs → map make (map key xs) ≡ xs
rebuild key make [] a = refl
rebuild key make (x ∷ xs) a = ap₂ ◌∷◌ a.0 (rebuild key make xs a.1)

-- of numbers that never fall none is below the first bound
pub rising_least : (m : ℕ) (f : ℕ → ℕ) (xs : List ℕ) → Rising m (map f xs) → (r : ℕ) → In r xs → m ≤ f r
rising_least m f [] u r i = absurd i
rising_least m f (x ∷ xs) u r i = ⊎_elim (λ e. rw e u.0) (λ j. omega (arith, u.0, rising_least (f x) f xs u.1 r j)) i

-- two lists with no row in common that are together as many as there are rows
pub once_both : (q : ℕ) (xs ys : List ℕ) → Distinct (xs ++ ys) → Below q xs → Below q ys → length xs + length ys ≡ q → Once q (xs ++ ys)
once_both q xs ys d a b e =
    record {
      distinct = d;
      below = below_in q (xs ++ ys) (λ x i. ⊎_elim (in_below q xs a x) (in_below q ys b x) (in_either x xs ys i));
      long = length-append xs ys ∙ e;
    }
