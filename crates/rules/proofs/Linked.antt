-- Laws of linked rows: the ends, the columns that a list fixes, that links both ways meet no row twice, and a chain in another column.
use mathlib.Core.List.{List, [], ◌∷◌}
use mathlib.Core.Path.{◌≡◌, refl, sym, ap, ◌∙◌, subst}
use mathlib.Core.Logic.{⊎_elim, inl, inr}
use Prim.Native.Nat.{ℕ, ◌≤◌}
use Rattle.table.specs.Kind as kind
use Rattle.table.specs.Regions.{at}
use Rattle.table.proofs.Draw.{at_other}
use Rattle.rules.specs.Rows.{head_or, last_or, In, NotIn, Distinct, Below}
use Rattle.rules.specs.Linked.{Link, Links, Run, Linked, Chain}
use Rattle.rules.proofs.Rows.{not_both, notin, other, past}

pub run_head : (b o : ℕ → ℕ) (p h : ℕ) (xs : List ℕ) (n l : ℕ) → Run b o p h xs n l → h ≡ head_or n xs
run_head b o p h [] n l r = r.0
run_head b o p h (x ∷ xs) n l r = r.0

pub run_last : (b o : ℕ → ℕ) (p h : ℕ) (xs : List ℕ) (n l : ℕ) → Run b o p h xs n l → l ≡ last_or p xs
run_last b o p h [] n l r = r.1
run_last b o p h (x ∷ xs) n l r = run_last b o x (o x) xs n l r.2

-- none is a link, and so is the first row of a list, or the last, or else a link
pub none_link : (q : ℕ) → Link q kind.none
none_link q n = absurd (n refl)

pub head_link : (q d : ℕ) (xs : List ℕ) → Link q d → Below q xs → Link q (head_or d xs)
head_link q d [] l b = l
head_link q d (x ∷ xs) l b = λ _. b.0

pub last_link : (q p : ℕ) (xs : List ℕ) → Link q p → Below q xs → Link q (last_or p xs)
last_link q p [] l b = l
last_link q p (x ∷ xs) l b = last_link q x xs (λ _. b.0) b.1

-- the row before each row of a run is in it too, or is the one before them all; so links that agree both ways from an end that is none of the rows repeat none
module _ (b o : ℕ → ℕ) where
  pub run_back : (p h : ℕ) (xs : List ℕ) (n l y : ℕ) → Run b o p h xs n l → In y xs → In (b y) (p ∷ xs)
  run_back p h [] n l y r i = absurd i
  run_back p h (x ∷ xs) n l y r i = ⊎_elim (λ e. inl (ap b e ∙ r.1)) (λ j. inr (run_back x (o x) xs n l y r.2 j)) i

  pub run_distinct : (p h : ℕ) (xs : List ℕ) (n l : ℕ) → NotIn p xs → Run b o p h xs n l → Distinct xs
  run_distinct p h [] n l f r = tt
  run_distinct p h (x ∷ xs) n l f r =
      let apart : NotIn x xs = notin x xs (λ i. not_both p (x ∷ xs) (subst (λ (y : ℕ). In y (x ∷ xs)) r.1 (run_back x (o x) xs n l x r.2 i)) f) in
      (apart, run_distinct x (o x) xs n l apart r.2)

pub run_linked : (q : ℕ) (L : Links) (xs : List ℕ) → q ≤ kind.none → Run L.back L.on kind.none L.first xs kind.none L.last → Below q xs → Linked q L xs
run_linked q L xs hq r b =
    record { run = r; distinct = run_distinct L.back L.on kind.none L.first xs kind.none L.last (past q kind.none xs hq b) r; below = b }

-- rows chained one way, whose column agrees with another at them; whose column is altered elsewhere
pub chain_so : (o o' : ℕ → ℕ) (h h' : ℕ) (rs : List ℕ) → h ≡ h' → ((x : ℕ) → In x rs → o x ≡ o' x) → Chain o h rs → Chain o' h' rs
chain_so o o' h h' [] e g k = sym e ∙ k
chain_so o o' h h' (x ∷ rs) e g k = (sym e ∙ k.0, chain_so o o' (o x) (o' x) rs (g x (inl refl)) (λ y i. g y (inr i)) k.1)

pub chain_at : (o : ℕ → ℕ) (e v h : ℕ) (rs : List ℕ) → NotIn e rs → Chain o h rs → Chain (at o e v) h rs
chain_at o e v h rs n = chain_so o (at o e v) h h rs refl (λ x i. sym (at_other o e v x (λ z. other e x rs n i (sym z))))
