-- A list with one more in it somewhere: `put-` laws go from the shorter list to the longer, `take-` laws back.
use mathlib.Core.List.{List, [], ◌∷◌, ◌++◌, map}
use mathlib.Core.Bool.{cond}
use mathlib.Core.Path.{◌≡◌, refl, sym, ap, ◌∙◌, subst}
use mathlib.Core.Logic.{◌⊎◌, ⊎_elim, inl, inr}
use Prim.Native.Nat.{ℕ, suc, ◌≤◌, ◌<◌}
use native.Mathlib.Decide.{ℕ_discrete}
use native.Mathlib.Omega.{arith}
use lib.Dec.{eqb}
use lib.ListN.{length}
use borrow.Author.Tests.{eq-eqb, ne_eqb}
use Rattle.rules.specs.Rows.{without, In, NotIn, All, Distinct, Below, Once, Rising}

-- the second list is the first with c put in
pub data Put {A : Type 0} (c : A) : List A → List A → Type 0 where
  here : {xs : List A} → Put c xs (c ∷ xs)
  there : {x : A} {xs ys : List A} → Put c xs ys → Put c (x ∷ xs) (x ∷ ys)

-- wherever there is more besides

pub put_map : {A : Type 0} (f : A → ℕ) {c : A} {xs ys : List A} → Put c xs ys → Put (f c) (map f xs) (map f ys)
put_map f here = here
put_map f (there p) = there (put_map f p)

pub put_first : {A : Type 0} {c : A} {xs ys : List A} (zs : List A) → Put c xs ys → Put c (xs ++ zs) (ys ++ zs)
put_first zs here = here
put_first zs (there p) = there (put_first zs p)

pub put_second : {A : Type 0} {c : A} (zs : List A) {xs ys : List A} → Put c xs ys → Put c (zs ++ xs) (zs ++ ys)
put_second [] p = p
put_second (z ∷ zs) p = there (put_second zs p)

pub put_last : {A : Type 0} (c : A) (xs : List A) → Put c xs (xs ++ c ∷ [])
put_last c [] = here
put_last c (x ∷ xs) = there (put_last c xs)

pub put_length : {A : Type 0} {c : A} {xs ys : List A} → Put c xs ys → length ys ≡ suc (length xs)
put_length here = refl
put_length (there p) = ap suc (put_length p)

-- a fact of all

pub put_all : {A : Type 0} (F : A → Type 0) {c : A} {xs ys : List A} → Put c xs ys → F c → All F xs → All F ys
put_all F here f a = (f, a)
put_all F (there p) f a = (a.0, put_all F p f a.1)

pub take_all : {A : Type 0} (F : A → Type 0) {c : A} {xs ys : List A} → Put c xs ys → All F ys → F c × All F xs
take_all F here a = a
take_all F (there p) a = let u = take_all F p a.1 in (u.0, (a.0, u.1))

pub all_puts : {A : Type 0} (F : A → Type 0) (ys : List A) → ((c : A) (xs : List A) → Put c xs ys → F c) → All F ys
all_puts F [] h = tt
all_puts F (y ∷ ys) h = (h y ys here, all_puts F ys (λ c xs p. h c (y ∷ xs) (there p)))

-- who is in, and that each is there once

pub put_in : {r : ℕ} {xs ys : List ℕ} (z : ℕ) → Put r xs ys → (z ≡ r) ⊎ In z xs → In z ys
put_in z here i = i
put_in z (there p) i = ⊎_elim (λ e. inr (put_in z p (inl e))) (⊎_elim (λ e. inl e) (λ j. inr (put_in z p (inr j)))) i

pub take_in : {r : ℕ} {xs ys : List ℕ} (z : ℕ) → Put r xs ys → In z ys → (z ≡ r) ⊎ In z xs
take_in z here i = i
take_in z (there p) i = ⊎_elim (λ e. inr (inl e)) (λ j. ⊎_elim (λ e. inl e) (λ k. inr (inr k)) (take_in z p j)) i

pub put_notin : {r : ℕ} {xs ys : List ℕ} (z : ℕ) → Put r xs ys → (z ≡ r → ⊥) → NotIn z xs → NotIn z ys
put_notin z here n m = (n, m)
put_notin z (there p) n m = (m.0, put_notin z p n m.1)

pub take_notin : {r : ℕ} {xs ys : List ℕ} (z : ℕ) → Put r xs ys → NotIn z ys → (z ≡ r → ⊥) × NotIn z xs
take_notin z here n = n
take_notin z (there p) n = let u = take_notin z p n.1 in (u.0, (n.0, u.1))

pub put_distinct : {r : ℕ} {xs ys : List ℕ} → Put r xs ys → NotIn r xs → Distinct xs → Distinct ys
put_distinct here n d = (n, d)
put_distinct (there {x = x} p) n d = (put_notin x p (λ e. n.0 (sym e)) d.0, put_distinct p n.1 d.1)

pub take_distinct : {r : ℕ} {xs ys : List ℕ} → Put r xs ys → Distinct ys → NotIn r xs × Distinct xs
take_distinct here d = d
take_distinct (there {x = x} p) d =
    let u = take_distinct p d.1 in let n = take_notin x p d.0 in ((λ e. n.0 (sym e), u.0), (n.1, u.1))

-- by their keys
pub put_there : {A : Type 0} (key : A → ℕ) {c : A} {xs ys : List A} → Put c xs ys → In (key c) (map key ys)
put_there key {c} p = put_in (key c) (put_map key p) (inl refl)

pub put_fresh : {A : Type 0} (key : A → ℕ) {c : A} {xs ys : List A} → Put c xs ys → Distinct (map key ys) → NotIn (key c) (map key xs)
put_fresh key p d = (take_distinct (put_map key p) d).0

pub put_below : (q : ℕ) {r : ℕ} {xs ys : List ℕ} → Put r xs ys → r < q → Below q xs → Below q ys
put_below q here h b = (h, b)
put_below q (there p) h b = (b.0, put_below q p h b.1)

pub take_below : (q : ℕ) {r : ℕ} {xs ys : List ℕ} → Put r xs ys → Below q ys → (r < q) × Below q xs
take_below q here b = b
take_below q (there p) b = let u = take_below q p b.1 in (u.0, (b.0, u.1))

-- each row once, wherever one of them stands
pub put_once : (q : ℕ) {r : ℕ} {xs ys zs : List ℕ} → Put r xs ys → Put r xs zs → Once q ys → Once q zs
put_once q p s o =
    let d = take_distinct p o.distinct in
    let b = take_below q p o.below in
    record {
      distinct = put_distinct s d.0 d.1;
      below = put_below q s b.0 b.1;
      long = put_length s ∙ sym (put_length p) ∙ o.long;
    }

-- numbers that never fall

pub rising_less : (m n : ℕ) (xs : List ℕ) → m ≤ n → Rising n xs → Rising m xs
rising_less m n [] h u = tt
rising_less m n (x ∷ xs) h u = (omega (arith, u.0), u.1)

pub take_rising : {r : ℕ} (m : ℕ) {xs ys : List ℕ} → Put r xs ys → Rising m ys → Rising m xs
take_rising {r} m {xs} here u = rising_less m r xs u.0 u.1
take_rising m (there {x = x} p) u = (u.0, take_rising x p u.1)

-- taken out by its key: `drop` is any function that leaves out the first of c's key
pub take_out : {A : Type 0} (key : A → ℕ) {c : A} {xs ys : List A} (drop : List A → List A)
    → ((x : A) (l : List A) → drop (x ∷ l) ≡ cond (eqb (key x) (key c)) l (x ∷ drop l)) → Put c xs ys → Distinct (map key ys) → drop ys ≡ xs
take_out key {c} drop step (here {xs = xs}) d = step c xs ∙ rw (eq-eqb (key c) (key c) refl)
take_out key {c} drop step (there {x = x} {ys = ys} p) d =
    step x ys ∙ rw (ne_eqb (key x) (key c) (take_notin (key x) (put_map key p) d.0).0, take_out key drop step p d.1)

pub without_put : (r : ℕ) (xs : List ℕ) → In r xs → Put r (without r xs) xs
without_put r [] i = absurd i
without_put r (x ∷ xs) i =
    elim (ℕ_discrete x r) [
      | yes e ↦ rw (eq-eqb x r e) (subst (λ (z : ℕ). Put z xs (x ∷ xs)) e here)
      | no n ↦ rw (ne_eqb x r n) (there (without_put r xs (⊎_elim (λ e. absurd (n (sym e))) (λ j. j) i)))
    ]
