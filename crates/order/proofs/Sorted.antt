-- Rows in order of count are their groups one after the other: group k has the rows of count k + 1.
use mathlib.Core.List.{List, [], ◌∷◌, ◌++◌, map, append_assoc, append-nil}
use mathlib.Core.Bool.{Bool, true, false, cond}
use mathlib.Core.Path.{◌≡◌, refl, sym, ap, ◌∙◌, subst}
use mathlib.Core.Logic.{⊎_elim, inl, inr}
use Prim.Native.Nat.{ℕ, zero, suc, ◌+◌, ◌-◌, ◌≤◌, ◌<◌}
use native.Mathlib.Omega.{arith}
use lib.Dec.{eqb, leb}
use borrow.Author.Tests.{eq-eqb, ne_eqb, eqb-true, eqb-false, le-leb, lt-leb}
use Rattle.table.specs.Regions.{at}
use Rattle.table.proofs.Draw.{at_same, at_other}
use Rattle.rules.specs.Rows.{without, In, NotIn, Distinct, Rising}
use Rattle.rules.specs.History.{place}
use Rattle.rules.specs.Draw.{group}
use Rattle.rules.proofs.Put.{Put, here, there, rising_less}
use Rattle.rules.proofs.Rows.{other, meets, in_without, Split}
use Rattle.order.proofs.Joined.{joined, but, joined_so, above, parts, parts_but, of_but, in_joined, among}

module _ (c : ℕ → ℕ) where
  -- the rows of a group

  pub group_in : (k x : ℕ) (xs : List ℕ) → In x (group c k xs) → In x xs × (c x ≡ k)
  group_in k x [] i = absurd i
  group_in k x (y ∷ xs) i = go (eqb (c y) k) refl (group_in k x xs) i
    where
      go : (b : Bool) → eqb (c y) k ≡ b → (In x (group c k xs) → In x xs × (c x ≡ k))
          → In x (cond b (y ∷ group c k xs) (group c k xs)) → In x (y ∷ xs) × (c x ≡ k)
      go true e f j = ⊎_elim (λ z. (inl z, ap c z ∙ eqb-true (c y) k e)) (λ z. (inr (f z).0, (f z).1)) j
      go false e f j = (inr (f j).0, (f j).1)

  -- of rows of other counts, of that count, of others again, those in the middle
  group_first : (k : ℕ) (ys zs : List ℕ) → ((x : ℕ) → In x ys → c x ≡ k) → group c k zs ≡ [] → group c k (ys ++ zs) ≡ ys
  group_first k [] zs h e = e
  group_first k (y ∷ ys) zs h e =
      rw (eq-eqb (c y) k (h y (inl refl))) (ap (λ (l : List ℕ). y ∷ l) (group_first k ys zs (λ x i. h x (inr i)) e))

  group_after : (k : ℕ) (xs ys : List ℕ) → ((x : ℕ) → In x xs → c x ≡ k → ⊥) → group c k (xs ++ ys) ≡ group c k ys
  group_after k [] ys h = refl
  group_after k (x ∷ xs) ys h = rw (ne_eqb (c x) k (h x (inl refl))) (group_after k xs ys (λ y i. h y (inr i)))

  -- the plain rule: in front of the first whose count is not below its own
  place_between : (r : ℕ) (xs ys : List ℕ) → ((x : ℕ) → In x xs → c x < c r) → ((x : ℕ) → In x ys → c r ≤ c x) → place c r (xs ++ ys) ≡ xs ++ r ∷ ys
  place_between r [] [] a b = refl
  place_between r [] (y ∷ ys) a b = rw (le-leb (c r) (c y) (b y (inl refl)))
  place_between r (x ∷ xs) ys a b =
      rw (lt-leb (c r) (c x) (a x (inl refl))) (ap (λ (l : List ℕ). x ∷ l) (place_between r xs ys (λ y i. a y (inr i)) b))

  pub place_put : (r : ℕ) (xs : List ℕ) → Put r xs (place c r xs)
  place_put r [] = here
  place_put r (x ∷ xs) = go (leb (c r) (c x)) (place_put r xs)
    where
      go : (b : Bool) → Put r xs (place c r xs) → Put r (x ∷ xs) (cond b (r ∷ x ∷ xs) (x ∷ place c r xs))
      go true p = here
      go false p = there p

  -- never falling

  rising_after : (m k : ℕ) (xs ys : List ℕ) → m ≤ k → ((x : ℕ) → In x xs → c x ≡ k) → Rising k (map c ys) → Rising m (map c (xs ++ ys))
  rising_after m k [] ys h e s = rising_less m k (map c ys) h s
  rising_after m k (x ∷ xs) ys h e s =
      let f = e x (inl refl) in
      (omega arith, rising_after (c x) k xs ys (omega arith) (λ y i. e y (inr i)) s)

  -- q groups, with the counts of their rows
  abbrev pub Counted : ℕ → (ℕ → List ℕ) → Type 0
  Counted q g = (k x : ℕ) → k < q → In x (g k) → c x ≡ suc k

  module _ (q : ℕ) (g : ℕ → List ℕ) (counted : Counted q g) where
    count_among : (i n x : ℕ) → i + n ≤ q → In x (joined g i n) → (i < c x) × (c x ≤ i + n)
    count_among i n x h j =
        let a = among g i n x j in
        let e = counted a.group x (omega (arith, a.most)) a.there in
        (omega (arith, a.least), omega (arith, a.most))

    -- without a row
    pub counted_out : (r i : ℕ) → i < q → Counted q (but g i (without r (g i)))
    counted_out r i h k x l =
        of_but (λ v xs. In x xs → c x ≡ suc k) k i k k (without r (g i)) (g k) (λ e j. rw e (counted i x h (in_without r x (g i) j))) (counted k x l)

    -- the groups of the whole
    pub group_joined : (i : ℕ) → i < q → group c (suc i) (joined g 0 q) ≡ g i
    group_joined i h =
        ap (group c (suc i)) (parts g i q h)
        ∙ group_after (suc i) (joined g 0 i) _ (λ x j e. omega (arith, (count_among 0 i x (omega arith) j).1))
        ∙ group_first (suc i) (g i) (above g i q) (λ x j. counted i x h j)
        (ap (group c (suc i)) (sym (append-nil (above g i q)))
        ∙ group_after (suc i) (above g i q) [] (λ x j e. omega (arith, (count_among (suc i) (q - suc i) x (omega arith) j).0)))

    pub rising_joined : (n i m : ℕ) → i + n ≤ q → m ≤ suc i → Rising m (map c (joined g i n))
    rising_joined zero i m h l = tt
    rising_joined (suc n) i m h l =
        rising_after m (suc i) (g i) (joined g (suc i) n) l (λ x j. counted i x (omega arith) j) (rising_joined n (suc i) (suc i) (omega arith) (omega arith))

    -- a row placed in the whole goes to the front of its group
    pub place_joined : (r i : ℕ) → i < q → c r ≡ suc i → place c r (joined g 0 q) ≡ joined (but g i (r ∷ g i)) 0 q
    place_joined r i h e =
        ap (place c r) (parts g i q h)
        ∙ place_between r (joined g 0 i) (g i ++ above g i q)
        (λ x j. omega (arith, (count_among 0 i x (omega arith) j).1))
        (λ x j. omega (arith, (count_among i (suc (q - suc i)) x (omega arith) j).0))
        ∙ sym (parts_but g i q (r ∷ g i) h)

  -- the groups of rows that never fall, with counts up to q, are those rows
  abbrev pub groups : List ℕ → ℕ → List ℕ
  groups xs k = group c (suc k) xs

  groups_cons : (x i k : ℕ) (xs : List ℕ) → c x ≡ suc i → groups (x ∷ xs) k ≡ but (groups xs) i (x ∷ groups xs i) k
  groups_cons x i k xs e = go (eqb k i) refl
    where
      go : (b : Bool) → eqb k i ≡ b → groups (x ∷ xs) k ≡ cond b (x ∷ groups xs i) (groups xs k)
      go true f = let h = eqb-true k i f in rw (eq-eqb (c x) (suc k) (omega arith)) (ap (λ (n : ℕ). x ∷ groups xs n) h)
      go false f = rw (ne_eqb (c x) (suc k) (λ h. eqb-false k i f (omega arith)))

  place_first : (x : ℕ) (xs : List ℕ) → Rising (c x) (map c xs) → place c x xs ≡ x ∷ xs
  place_first x [] s = refl
  place_first x (y ∷ xs) s = rw (le-leb (c x) (c y) s.0)

  joined_none : (i n : ℕ) → joined (λ k. []) i n ≡ []
  joined_none i zero = refl
  joined_none i (suc n) = joined_none (suc i) n

  pub joined_groups : (q m : ℕ) (xs : List ℕ) → 1 ≤ m → Rising m (map c xs) → ((x : ℕ) → In x xs → c x ≤ q) → joined (groups xs) 0 q ≡ xs
  joined_groups q m [] l s h = joined_none 0 q
  joined_groups q m (x ∷ xs) l s h =
      let i = c x - 1 in
      let most = h x (inl refl) in
      let e : c x ≡ suc i = omega (arith, s.0) in
      joined_so (groups (x ∷ xs)) (but (groups xs) i (x ∷ groups xs i)) 0 q (λ k a b. groups_cons x i k xs e)
      ∙ sym (place_joined q (groups xs) (λ k y b j. (group_in (suc k) y xs j).1) x i (omega arith) e)
      ∙ ap (place c x) (joined_groups q (c x) xs (omega (arith, s.0)) s.1 (λ y j. h y (inr j)))
      ∙ place_first x xs s.1

-- another count for a row that is in none of the groups; and that row in the group of its count
pub counted_at : (c : ℕ → ℕ) (q : ℕ) (g : ℕ → List ℕ) (r n : ℕ) → NotIn r (joined g 0 q) → Counted c q g → Counted (at c r n) q g
counted_at c q g r n out f k x l j = at_other c r n x (λ z. other r x (joined g 0 q) out (in_joined g k q x l j) (sym z)) ∙ f k x l j

pub counted_put : (c : ℕ → ℕ) (q : ℕ) (g : ℕ → List ℕ) (r i n : ℕ) → i < q → n ≡ suc i → NotIn r (joined g 0 q) → Counted c q g → Counted (at c r n) q (but g i (r ∷ g i))
counted_put c q g r i n h e out f k x l =
    let others = counted_at c q g r n out f k x l in
    of_but (λ v xs. In x xs → at c r n x ≡ suc k) k i k k (r ∷ g i) (g k)
    (λ z j. ⊎_elim (λ w. rw w (at_same c r n ∙ e ∙ ap suc (sym z))) (λ w. others (rw z w)) j) others

-- a row in its group, and in the whole

without_mid : (r : ℕ) (xs ys : List ℕ) → NotIn r xs → without r (xs ++ r ∷ ys) ≡ xs ++ ys
without_mid r [] ys n = rw (eq-eqb r r refl)
without_mid r (x ∷ xs) ys n = rw (ne_eqb x r (λ e. n.0 (sym e))) (ap (λ (l : List ℕ). x ∷ l) (without_mid r xs ys n.1))

module _ (q : ℕ) (g : ℕ → List ℕ) (r i : ℕ) (hi : i < q) (s : Split r (g i)) where
  pub whole : joined g 0 q ≡ (joined g 0 i ++ s.left) ++ r ∷ (s.right ++ above g i q)
  whole = parts g i q hi ∙ ap (λ (l : List ℕ). joined g 0 i ++ (l ++ above g i q)) s.is ∙ simp append_assoc

  pub left_out : joined (but g i (without r (g i))) 0 q ≡ (joined g 0 i ++ s.left) ++ (s.right ++ above g i q)
  left_out =
      parts_but g i q (without r (g i)) hi ∙ ap (λ (l : List ℕ). joined g 0 i ++ (l ++ above g i q)) s.rest ∙ simp append_assoc

  pub without_joined : Distinct (joined g 0 q) → without r (joined g 0 q) ≡ joined (but g i (without r (g i))) 0 q
  without_joined d =
      ap (without r) whole
      ∙ without_mid r (joined g 0 i ++ s.left) (s.right ++ above g i q) (meets r (joined g 0 i ++ s.left) (s.right ++ above g i q) (subst Distinct whole d))
      ∙ sym left_out
