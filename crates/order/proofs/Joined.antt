-- Groups of rows one after the other: one of them found in the whole, and changed.
use mathlib.Core.List.{List, [], ◌++◌, append_assoc, append-nil}
use mathlib.Core.Bool.{Bool, true, false, cond}
use mathlib.Core.Path.{◌≡◌, refl, sym, ap, ap₂, ◌∙◌}
use mathlib.Core.Logic.{⊎_elim}
use Prim.Native.Nat.{ℕ, zero, suc, ◌+◌, ◌-◌, ◌≤◌, ◌<◌}
use native.Mathlib.Nat.{zero-add, add-zero, add-suc, suc-add}
use native.Mathlib.Omega.{arith}
use lib.Dec.{eqb}
use borrow.Author.Tests.{eq-eqb, ne_eqb, eqb-true}
use Rattle.rules.specs.Rows.{In}
use Rattle.rules.proofs.Rows.{in_left, in_right, in_either}

-- n groups from i on, one after the other
abbrev pub joined : (ℕ → List ℕ) → ℕ → ℕ → List ℕ
joined g i zero = []
joined g i (suc n) = g i ++ joined g (suc i) n

-- the groups g, but xs for group i
abbrev pub but : (ℕ → List ℕ) → ℕ → List ℕ → ℕ → List ℕ
but g i xs = λ k. cond (eqb k i) xs (g k)

-- groups that agree from i on
pub joined_so : (g h : ℕ → List ℕ) (i n : ℕ) → ((k : ℕ) → i ≤ k → k < i + n → g k ≡ h k) → joined g i n ≡ joined h i n
joined_so g h i zero e = refl
joined_so g h i (suc n) e =
    ap₂ ◌++◌ (e i (omega arith) (omega arith)) (joined_so g h (suc i) n (λ k a b. e k (omega arith) (omega arith)))

split : (g : ℕ → List ℕ) (i a b : ℕ) → joined g i (a + b) ≡ joined g i a ++ joined g (i + a) b
split g i zero b = rw (zero-add b, add-zero i)
split g i (suc a) b =
    rw (suc-add a b, add-suc i a)
    (ap (λ (l : List ℕ). g i ++ l) (split g (suc i) a b ∙ rw (suc-add i a)) ∙ sym (append_assoc (g i) _ _))

-- up to group i and with it
pub upto_suc : (g : ℕ → List ℕ) (i : ℕ) → joined g 0 (suc i) ≡ joined g 0 i ++ g i
upto_suc g i = let n : suc i ≡ i + 1 = omega arith in ap (joined g 0) n ∙ split g 0 i 1 ∙ rw (zero-add i, append-nil)

-- the groups after group i, of q
abbrev pub above : (ℕ → List ℕ) → ℕ → ℕ → List ℕ
above g i q = joined g (suc i) (q - suc i)

-- group i in the whole
pub parts : (g : ℕ → List ℕ) (i q : ℕ) → i < q → joined g 0 q ≡ joined g 0 i ++ (g i ++ above g i q)
parts g i q h =
    let n : q ≡ i + suc (q - suc i) = omega arith in
    ap (joined g 0) n ∙ split g 0 i (suc (q - suc i)) ∙ rw (zero-add i)

-- group i changed
pub below_but : (g : ℕ → List ℕ) (i k : ℕ) (xs : List ℕ) → k ≤ i → joined (but g i xs) 0 k ≡ joined g 0 k
below_but g i k xs h = joined_so (but g i xs) g 0 k (λ j a b. rw (ne_eqb j i (λ e. omega arith)))

pub parts_but : (g : ℕ → List ℕ) (i q : ℕ) (xs : List ℕ) → i < q → joined (but g i xs) 0 q ≡ joined g 0 i ++ (xs ++ above g i q)
parts_but g i q xs h =
    let here : but g i xs i ≡ xs = rw (eq-eqb i i refl) in
    parts (but g i xs) i q h
    ∙ ap₂ ◌++◌ (below_but g i i xs (omega arith))
    (ap₂ ◌++◌ here (joined_so (but g i xs) g (suc i) (q - suc i) (λ j a b. rw (ne_eqb j i (λ e. omega arith)))))

-- a fact of a group k, of the changed one and of the others
pub of_but : (F : ℕ → List ℕ → Type 0) (k i v w : ℕ) (xs ys : List ℕ) → (k ≡ i → F v xs) → F w ys → F (cond (eqb k i) v w) (cond (eqb k i) xs ys)
of_but F k i v w xs ys h f = go (eqb k i) refl
  where
    go : (b : Bool) → eqb k i ≡ b → F (cond b v w) (cond b xs ys)
    go true e = h (eqb-true k i e)
    go false e = f

-- a row of a group is in the whole
pub in_joined : (g : ℕ → List ℕ) (i q x : ℕ) → i < q → In x (g i) → In x (joined g 0 q)
in_joined g i q x h j = rw (parts g i q h) (in_right x (joined g 0 i) _ (in_left x (g i) _ j))

-- and a row of the whole is in one of the groups
pub record Among (g : ℕ → List ℕ) (i n x : ℕ) : Type 0 where
  pub group : ℕ
  pub least : i ≤ group
  pub most : group < i + n
  pub there : In x (g group)

pub among : (g : ℕ → List ℕ) (i n x : ℕ) → In x (joined g i n) → Among g i n x
among g i zero x h = absurd h
among g i (suc n) x h =
    ⊎_elim (λ j. record { group = i; least = omega arith; most = omega arith; there = j })
    (λ j.
    let a = among g (suc i) n x j in
    record { group = a.group; least = omega (arith, a.least); most = omega (arith, a.most); there = a.there })
    (in_either x (g i) (joined g (suc i) n) h)
