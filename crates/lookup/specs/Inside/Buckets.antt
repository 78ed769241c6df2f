-- The chains of the buckets together: in which a row stands, and how many rows they hold.
use Rattle.std.specs.Prelude.{List, [], ◌∷◌, ◌++◌, ◌≡◌, refl, ℕ, zero, suc, ◌+◌, ◌≤◌, ◌<◌, length, get_or}
use Rattle.std.proofs.Common.{ap, ap₂, ⊎_elim, not-suc-le-zero, le_of_suc-le-suc, add-suc, add-zero, zero-add, arith, length-append}
use Rattle.std.proofs.Math.Nat.{suc_inj}
use Rattle.rules.specs.Rows.{In, Distinct}
use Rattle.rules.specs.Picture.{concat}
use Rattle.rules.specs.Sound.{build}
use Rattle.rules.proofs.Rows.{not_both, in_left, in_right, in_either, distinct_right, distinct_both, apart_right}
use Rattle.rules.proofs.Columns.{in_concat}

-- the rows of q chains, one chain after the other
abbrev pub rows_of : ℕ → (ℕ → List ℕ) → List ℕ
rows_of q C = concat (build q C)

-- the chains after the first
abbrev on : (ℕ → List ℕ) → ℕ → List ℕ
on C b = C (suc b)

-- the chain in which a row stands
pub record Place (q : ℕ) (C : ℕ → List ℕ) (x : ℕ) : Type 0 where
  pub bucket : ℕ
  pub low : bucket < q
  pub there : In x (C bucket)

pub rows_place : (q : ℕ) (C : ℕ → List ℕ) (x : ℕ) → In x (rows_of q C) → Place q C x
rows_place zero C x i = absurd i
rows_place (suc q) C x i =
    ⊎_elim (λ j. record { bucket = 0; low = omega arith; there = j })
    (λ j. let p = rows_place q (on C) x j in record { bucket = suc p.bucket; low = omega (arith, p.low); there = p.there })
    (in_either x (C 0) (rows_of q (on C)) i)

pub place_rows : (q : ℕ) (C : ℕ → List ℕ) (x b : ℕ) → b < q → In x (C b) → In x (rows_of q C)
place_rows zero C x b h i = absurd (not-suc-le-zero h)
place_rows (suc q) C x zero h i = in_left x (C 0) (rows_of q (on C)) i
place_rows (suc q) C x (suc b) h i = in_right x (C 0) (rows_of q (on C)) (place_rows q (on C) x b (le_of_suc-le-suc h) i)

-- a row stands in one chain only, where they are apart; and they are apart where it does
pub place_once : (cs : List (List ℕ)) (x a b : ℕ) → Distinct (concat cs) → In x (get_or cs a []) → In x (get_or cs b []) → a ≡ b
place_once [] x a b d i j = absurd i
place_once (c ∷ cs) x zero zero d i j = refl
place_once (c ∷ cs) x zero (suc b) d i j = absurd (not_both x c i (apart_right x c (concat cs) d (in_concat cs b x j)))
place_once (c ∷ cs) x (suc a) zero d i j = absurd (not_both x c j (apart_right x c (concat cs) d (in_concat cs a x i)))
place_once (c ∷ cs) x (suc a) (suc b) d i j = ap suc (place_once cs x a b (distinct_right c (concat cs) d) i j)

pub rows_apart : (q : ℕ) (C : ℕ → List ℕ) → ((b : ℕ) → b < q → Distinct (C b)) → ((x b d : ℕ) → b < q → d < q → In x (C b) → In x (C d) → b ≡ d) → Distinct (rows_of q C)
rows_apart zero C d h = tt
rows_apart (suc q) C d h =
    distinct_both (C 0) (rows_of q (on C)) (d 0 (omega arith))
    (rows_apart q (on C) (λ b l. d (suc b) (omega arith)) (λ x a b l m i j. suc_inj (h x (suc a) (suc b) (omega arith) (omega arith) i j)))
    (λ x i j. let p = rows_place q (on C) x j in omega (arith, h x 0 (suc p.bucket) (omega arith) (omega (arith, p.low)) i p.there))

-- how many they are
pub rows_more : (q : ℕ) (C : ℕ → List ℕ) → length (rows_of (suc q) C) ≡ length (rows_of q C) + length (C q)
rows_more zero C = rw (length-append, zero-add, add-zero)
rows_more (suc q) C =
    rw (length-append (C 0) (rows_of (suc q) (on C)), length-append (C 0) (rows_of q (on C)), rows_more q (on C)) (omega arith)

pub rows_fewer : (k m : ℕ) (C : ℕ → List ℕ) → length (rows_of m C) ≤ length (rows_of (m + k) C)
rows_fewer zero m C = rw add-zero (omega arith)
rows_fewer (suc k) m C = rw add-suc (omega (arith, rows_fewer k m C, rows_more (m + k) C))

pub rows_same : (q : ℕ) (C D : ℕ → List ℕ) → ((b : ℕ) → b < q → C b ≡ D b) → rows_of q C ≡ rows_of q D
rows_same zero C D h = refl
rows_same (suc q) C D h = ap₂ ◌++◌ (h 0 (omega arith)) (rows_same q (on C) (on D) (λ b l. h (suc b) (omega arith)))
