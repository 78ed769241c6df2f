-- Lists of rows: who is in them, their ends, and lists without a row.
use Rattle.std.specs.Prelude.{List, [], ◌∷◌, Bool, true, false, cond, ◌&&◌, ◌≡◌, ◌⊎◌, ℕ, ◌≤◌, ◌<◌, eqb, leb, ltb, length}

-- the first of the rows, or n where there is none; the last, or p
abbrev pub head_or : ℕ → List ℕ → ℕ
head_or n [] = n
head_or n (x ∷ xs) = x

abbrev pub last_or : ℕ → List ℕ → ℕ
last_or p [] = p
last_or p (x ∷ xs) = last_or x xs

-- the rows after the first
abbrev pub rest : List ℕ → List ℕ
rest [] = []
rest (x ∷ xs) = xs

-- the rows but r, which stands in them once at most
abbrev pub without : ℕ → List ℕ → List ℕ
without r [] = []
without r (x ∷ xs) = cond (eqb x r) xs (x ∷ without r xs)

-- tests on lists: r is in it; each is different from the others; each number below q is there once; from m up, never falling
abbrev pub has : ℕ → List ℕ → Bool
has r [] = false
has r (x ∷ xs) = cond (eqb r x) true (has r xs)

abbrev pub all : {A : Type 0} → (A → Bool) → List A → Bool
all p [] = true
all p (x ∷ xs) = cond (p x) (all p xs) false

abbrev pub distinct : List ℕ → Bool
distinct [] = true
distinct (x ∷ xs) = cond (has x xs) false (distinct xs)

abbrev pub once : ℕ → List ℕ → Bool
once q xs = distinct xs && all (λ r. ltb r q) xs && eqb (length xs) q

abbrev pub rising : ℕ → List ℕ → Bool
rising m [] = true
rising m (x ∷ xs) = cond (leb m x) (rising x xs) false

abbrev pub same : List ℕ → List ℕ → Bool
same [] [] = true
same [] (y ∷ ys) = false
same (x ∷ xs) [] = false
same (x ∷ xs) (y ∷ ys) = cond (eqb x y) (same xs ys) false

-- the same as facts
abbrev pub In : ℕ → List ℕ → Type 0
In r [] = ⊥
In r (x ∷ xs) = (r ≡ x) ⊎ In r xs

abbrev pub NotIn : ℕ → List ℕ → Type 0
NotIn r [] = Unit {0}
NotIn r (x ∷ xs) = (r ≡ x → ⊥) × NotIn r xs

abbrev pub All : {A : Type 0} → (A → Type 0) → List A → Type 0
All p [] = Unit {0}
All p (x ∷ xs) = p x × All p xs

abbrev pub Distinct : List ℕ → Type 0
Distinct [] = Unit {0}
Distinct (x ∷ xs) = NotIn x xs × Distinct xs

abbrev pub Below : ℕ → List ℕ → Type 0
Below q [] = Unit {0}
Below q (x ∷ xs) = (x < q) × Below q xs

pub record Once (q : ℕ) (xs : List ℕ) : Type 0 where
  pub distinct : Distinct xs
  pub below : Below q xs
  pub long : length xs ≡ q

abbrev pub Rising : ℕ → List ℕ → Type 0
Rising m [] = Unit {0}
Rising m (x ∷ xs) = (m ≤ x) × Rising x xs
