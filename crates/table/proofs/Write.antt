-- Writers: the count of altered words, one word, one writer after another, and words that were read on the way.
use mathlib.Core.List.{List, [], ◌∷◌, ◌++◌}
use mathlib.Core.Bool.{Bool, true, false, cond}
use mathlib.Core.Path.{◌≡◌, refl, sym, ap, ◌∙◌}
use Prim.Native.Nat.{ℕ, zero, suc, ◌+◌, ◌≤◌, ◌<◌}
use native.Mathlib.Nat.{suc_inj, suc-ne-zero}
use native.Mathlib.Omega.{arith}
use lib.Dec.{eqb}
use lib.ListN.{length, get_or, set, length-set}
use borrow.Author.Tests.{eq-eqb, eqb-true}
use Rattle.table.specs.Kind as kind
use Rattle.table.specs.Regions.{Regions, words, regions, item_word, client_word, count_word, bucket_word, Sized, altered, Writes, set_header, set_item, set_client, set_count, set_bucket}
use Rattle.table.proofs.Draw.{get_header, get_item, get_client, get_count, get_bucket, set_header_lem, set_item_lem, set_client_lem, set_count_lem, set_bucket_lem}
use Rattle.table.proofs.Whole.{whole}

-- how many words differ

pub altered_same : (xs : List ℕ) → altered xs xs ≡ 0
altered_same [] = refl
altered_same (x ∷ xs) = rw (eq-eqb x x refl, altered_same xs)

bit : (b : Bool) → cond b 0 1 ≤ 1
bit true = omega arith
bit false = omega arith

-- words that follow both lists alter nothing
pub altered_before : (xs ys zs : List ℕ) → length ys ≡ length xs → altered (xs ++ zs) (ys ++ zs) ≡ altered xs ys
altered_before [] [] zs e = altered_same zs
altered_before [] (y ∷ ys) zs e = absurd (suc-ne-zero (length ys) e)
altered_before (x ∷ xs) [] zs e = absurd (suc-ne-zero (length xs) (sym e))
altered_before (x ∷ xs) (y ∷ ys) zs e = rw (altered_before xs ys zs (suc_inj e))

pub altered_set : (xs : List ℕ) (i v : ℕ) → altered xs (set xs i v) ≤ 1
altered_set [] i v = omega arith
altered_set (x ∷ xs) zero v = omega (arith, bit (eqb x v), altered_same xs)
altered_set (x ∷ xs) (suc i) v = rw (eq-eqb x x refl) (omega (arith, altered_set xs i v))

-- where x and y are equal, and y and z, so are x and z
step : (x y z : ℕ) → cond (eqb x z) 0 1 ≤ cond (eqb x y) 0 1 + cond (eqb y z) 0 1
step x y z = go (eqb x y) refl (eqb y z) refl
  where
    go : (a : Bool) → eqb x y ≡ a → (b : Bool) → eqb y z ≡ b → cond (eqb x z) 0 1 ≤ cond a 0 1 + cond b 0 1
    go true e true f = rw (eq-eqb x z (eqb-true x y e ∙ eqb-true y z f)) (omega arith)
    go true e false f = omega (arith, bit (eqb x z))
    go false e b f = omega (arith, bit (eqb x z))

pub altered_trans : (xs ys zs : List ℕ) → length ys ≡ length xs → altered xs zs ≤ altered xs ys + altered ys zs
altered_trans [] ys [] e = omega arith
altered_trans [] ys (z ∷ zs) e = omega arith
altered_trans (x ∷ xs) ys [] e = omega arith
altered_trans (x ∷ xs) [] (z ∷ zs) e = absurd (suc-ne-zero (length xs) (sym e))
altered_trans (x ∷ xs) (y ∷ ys) (z ∷ zs) e = omega (arith, step x y z, altered_trans xs ys zs (suc_inj e))

-- writers

pub nothing : (q : ℕ) (t : List ℕ) → Writes q t t (λ R. R)
nothing q t = record { drawn = λ R e. e; sized = refl }

pub then : {q : ℕ} {a b c : List ℕ} {f g : Regions → Regions} → Writes q a b f → Writes q b c g → Writes q a c (λ R. g (f R))
then {f = f} x y = record { drawn = λ R e. y.drawn (f R) (x.drawn R e); sized = y.sized ∙ x.sized }

-- another step that draws the same; another step that is the same where the table is drawn from R
pub drawn_so : {q : ℕ} {a b : List ℕ} {f g : Regions → Regions} → Writes q a b f → ((R : Regions) → words q (f R) ≡ words q (g R)) → Writes q a b g
drawn_so x h = record { drawn = λ R e. x.drawn R e ∙ h R; sized = x.sized }

pub so_read : {q : ℕ} {a b : List ℕ} {f g : Regions → Regions} → Writes q a b f → ((R : Regions) → a ≡ words q R → f R ≡ g R) → Writes q a b g
so_read {q} x h = record { drawn = λ R e. x.drawn R e ∙ ap (words q) (h R e); sized = x.sized }

pub sized_after : {q : ℕ} {a b : List ℕ} {f : Regions → Regions} → Sized q a → Writes q a b f → Sized q b
sized_after s w = record { small = s.small; long = w.sized ∙ s.long }

-- the regions that a writer draws, from those that the words show
pub draws : {q : ℕ} {a b : List ℕ} {f : Regions → Regions} → Sized q a → Writes q a b f → b ≡ words q (f (regions q a))
draws {q} {a} s w = w.drawn (regions q a) (whole q a s.long)

-- one word

pub one : (q : ℕ) (t : List ℕ) (i v : ℕ) (f : Regions → Regions) → ((R : Regions) → set (words q R) i v ≡ words q (f R)) → Writes q t (set t i v) f
one q t i v f h = record { drawn = λ R e. ap (λ (l : List ℕ). set l i v) e ∙ h R; sized = length-set t i v }

module _ (q : ℕ) (t : List ℕ) where
  pub write_header : (f v : ℕ) → f < kind.header_words → Writes q t (set t f v) (set_header f v)
  write_header f v h = one q t f v (set_header f v) (λ R. set_header_lem q R f v h)

  pub write_item : (r f v : ℕ) → r < q → f < kind.item_words → Writes q t (set t (kind.item_at r f) v) (set_item r f v)
  write_item r f v h hf = one q t (kind.item_at r f) v (set_item r f v) (λ R. set_item_lem q R r f v h hf)

  pub write_client : (r f v : ℕ) → r < q → f < kind.client_words → Writes q t (set t (kind.client_at q r f) v) (set_client r f v)
  write_client r f v h hf = one q t (kind.client_at q r f) v (set_client r f v) (λ R. set_client_lem q R r f v h hf)

  pub write_count : (r f v : ℕ) → r < q → f < kind.count_words → Writes q t (set t (kind.count_at q r f) v) (set_count r f v)
  write_count r f v h hf = one q t (kind.count_at q r f) v (set_count r f v) (λ R. set_count_lem q R r f v h hf)

  pub write_bucket : (b v : ℕ) → b < q → Writes q t (set t (kind.bucket_at q b) v) (set_bucket b v)
  write_bucket b v h = one q t (kind.bucket_at q b) v (set_bucket b v) (λ R. set_bucket_lem q R b v h)

-- what the code read out of the table is what the regions hold

module _ (q : ℕ) {t : List ℕ} (R : Regions) where
  pub read_header : (f : ℕ) → t ≡ words q R → f < kind.header_words → get_or t f 0 ≡ R.header f
  read_header f e h = ap (λ (l : List ℕ). get_or l f 0) e ∙ get_header q R f h

  pub read_item : (r f : ℕ) → t ≡ words q R → r < q → f < kind.item_words → item_word t r f ≡ R.item r f
  read_item r f e h hf = ap (λ (l : List ℕ). item_word l r f) e ∙ get_item q R r f h hf

  pub read_client : (r f : ℕ) → t ≡ words q R → r < q → f < kind.client_words → client_word t q r f ≡ R.client r f
  read_client r f e h hf = ap (λ (l : List ℕ). client_word l q r f) e ∙ get_client q R r f h hf

  pub read_count : (r f : ℕ) → t ≡ words q R → r < q → f < kind.count_words → count_word t q r f ≡ R.count r f
  read_count r f e h hf = ap (λ (l : List ℕ). count_word l q r f) e ∙ get_count q R r f h hf

  pub read_bucket : (b : ℕ) → t ≡ words q R → b < q → bucket_word t q b ≡ R.bucket b
  read_bucket b e h = ap (λ (l : List ℕ). bucket_word l q b) e ∙ get_bucket q R b h
