-- The columns of linked rows: what `after`, `before` and `after_in` draw is linked, what is linked is so drawn, and `follow` reads it back.
use mathlib.Core.List.{List, [], ◌∷◌, ◌++◌, append-nil}
use mathlib.Core.Path.{◌≡◌, refl, sym, ap, ◌∙◌, subst}
use mathlib.Core.Logic.{⊎_elim, inl, inr}
use Prim.Native.Nat.{ℕ, zero, suc, ◌+◌, ◌≤◌, ◌<◌}
use native.Mathlib.Nat.{not-suc-le-zero}
use native.Mathlib.Omega.{arith}
use lib.ListN.{length, get_or}
use borrow.Author.Tests.{eq-eqb, ne_eqb, lt-ltb, le-ltb}
use Rattle.table.specs.Kind as kind
use Rattle.rules.specs.Rows.{head_or, last_or, In, NotIn, All, Distinct, Below, Once}
use Rattle.rules.specs.Linked.{Links, Linked, Run, Chain}
use Rattle.rules.specs.Picture.{concat}
use Rattle.rules.specs.Draw.{after, before, after_in}
use Rattle.rules.specs.Sound.{follow}
use Rattle.rules.proofs.Rows.{notin, other, in_left, in_right, in_either, notin_left, notin_right, distinct_left, distinct_right, apart_right, in_below, at_most}
use Rattle.rules.proofs.Linked.{run_head, run_last}

-- a row that is not in the list

pub after_out : (d r : ℕ) (xs : List ℕ) → NotIn r xs → after d xs r ≡ d
after_out d r [] n = refl
after_out d r (x ∷ xs) n = rw (ne_eqb x r (λ e. n.0 (sym e))) (after_out d r xs n.1)

pub before_out : (d p r : ℕ) (xs : List ℕ) → NotIn r xs → before d p xs r ≡ d
before_out d p r [] n = refl
before_out d p r (x ∷ xs) n = rw (ne_eqb x r (λ e. n.0 (sym e))) (before_out d x r xs n.1)

pub after_in_out : (cs : List (List ℕ)) (r : ℕ) → NotIn r (concat cs) → after_in cs r ≡ 0
after_in_out [] r n = refl
after_in_out (c ∷ cs) r n =
    after_out (after_in cs r) r c (notin_left r c (concat cs) n) ∙ after_in_out cs r (notin_right r c (concat cs) n)

-- one way: a chain and its column

pub chain_head : (o : ℕ → ℕ) (h : ℕ) (xs : List ℕ) → Chain o h xs → h ≡ head_or kind.none xs
chain_head o h [] c = c
chain_head o h (x ∷ xs) c = c.0

pub chain_column : (o : ℕ → ℕ) (h : ℕ) (xs : List ℕ) → Chain o h xs → Distinct xs → (d r : ℕ) → In r xs → o r ≡ after d xs r
chain_column o h [] c u d r i = absurd i
chain_column o h (x ∷ xs) c u d r i =
    ⊎_elim (λ e. rw (eq-eqb x r (sym e)) (ap o e ∙ chain_head o (o x) xs c.1))
    (λ j. rw (ne_eqb x r (other x r xs u.0 j)) (chain_column o (o x) xs c.1 u.1 d r j)) i

pub column_chain : (o d : ℕ → ℕ) (xs : List ℕ) → Distinct xs → ((r : ℕ) → In r xs → o r ≡ after (d r) xs r) → Chain o (head_or kind.none xs) xs
column_chain o d [] u a = refl
column_chain o d (x ∷ xs) u a =
    let on : o x ≡ head_or kind.none xs = rw (a x (inl refl), eq-eqb x x refl) in
    (refl, rw on (column_chain o d xs u.1 (λ r i. a r (inr i) ∙ rw (ne_eqb x r (other x r xs u.0 i)))))

-- both ways: the chain, and the column back

run_chain : (b o : ℕ → ℕ) (p h : ℕ) (xs : List ℕ) (l : ℕ) → Run b o p h xs kind.none l → Chain o h xs
run_chain b o p h [] l u = u.0
run_chain b o p h (x ∷ xs) l u = (u.0, run_chain b o x (o x) xs l u.2)

run_column : (b o : ℕ → ℕ) (p h : ℕ) (xs : List ℕ) (n l : ℕ) → Run b o p h xs n l → Distinct xs → (d r : ℕ) → In r xs → b r ≡ before d p xs r
run_column b o p h [] n l u f d r i = absurd i
run_column b o p h (x ∷ xs) n l u f d r i =
    ⊎_elim (λ e. rw (eq-eqb x r (sym e)) (ap b e ∙ u.1))
    (λ j. rw (ne_eqb x r (other x r xs f.0 j)) (run_column b o x (o x) xs n l u.2 f.1 d r j)) i

chain_run : (b o : ℕ → ℕ) (p h : ℕ) (xs : List ℕ) (d : ℕ) → Chain o h xs → Distinct xs → ((r : ℕ) → In r xs → b r ≡ before d p xs r)
    → Run b o p h xs kind.none (last_or p xs)
chain_run b o p h [] d c u a = (c, refl)
chain_run b o p h (x ∷ xs) d c u a = (
  c.0,
  a x (inl refl) ∙ rw (eq-eqb x x refl),
  chain_run b o x (o x) xs d c.1 u.1 (λ r i. a r (inr i) ∙ rw (ne_eqb x r (other x r xs u.0 i))),
)

-- the ends and columns of a linked list
module _ {q : ℕ} {L : Links} {xs : List ℕ} (k : Linked q L xs) where
  pub first_is : L.first ≡ head_or kind.none xs
  first_is = run_head L.back L.on kind.none L.first xs kind.none L.last k.run

  pub last_is : L.last ≡ last_or kind.none xs
  last_is = run_last L.back L.on kind.none L.first xs kind.none L.last k.run

  pub linked_chain : Chain L.on L.first xs
  linked_chain = run_chain L.back L.on kind.none L.first xs L.last k.run

  pub on_is : (d r : ℕ) → In r xs → L.on r ≡ after d xs r
  on_is = chain_column L.on L.first xs linked_chain k.distinct

  pub back_is : (d r : ℕ) → In r xs → L.back r ≡ before d kind.none xs r
  back_is = run_column L.back L.on kind.none L.first xs kind.none L.last k.run k.distinct

-- and a list of these is linked
pub linked_by : (q : ℕ) (L : Links) (xs : List ℕ) → Distinct xs → Below q xs → Chain L.on L.first xs → L.last ≡ last_or kind.none xs
    → (d : ℕ) → ((r : ℕ) → In r xs → L.back r ≡ before d kind.none xs r) → Linked q L xs
linked_by q L xs u b c e d a =
    record { run = rw e (chain_run L.back L.on kind.none L.first xs d c u a); distinct = u; below = b }

-- chains that share one column

pub in_concat : (cs : List (List ℕ)) (b r : ℕ) → In r (get_or cs b []) → In r (concat cs)
in_concat [] b r i = absurd i
in_concat (c ∷ cs) zero r i = in_left r c (concat cs) i
in_concat (c ∷ cs) (suc b) r i = in_right r c (concat cs) (in_concat cs b r i)

-- the rows of a list are a chain in a column
abbrev pub ChainIn : (ℕ → ℕ) → List ℕ → Type 0
ChainIn o xs = Chain o (head_or kind.none xs) xs

pub chain_in : (o : ℕ → ℕ) (h : ℕ) (xs : List ℕ) → Chain o h xs → ChainIn o xs
chain_in o h xs c = subst (λ (k : ℕ). Chain o k xs) (chain_head o h xs c) c

pub chains_column : (o : ℕ → ℕ) (cs : List (List ℕ)) → Distinct (concat cs) → All (ChainIn o) cs → (r : ℕ) → In r (concat cs) → o r ≡ after_in cs r
chains_column o [] u a r i = absurd i
chains_column o (c ∷ cs) u a r i =
    ⊎_elim (chain_column o (head_or kind.none c) c a.0 (distinct_left c (concat cs) u) (after_in cs r) r)
    (λ j. chains_column o cs (distinct_right c (concat cs) u) a.1 r j ∙ sym (after_out (after_in cs r) r c (apart_right r c (concat cs) u j)))
    (in_either r c (concat cs) i)

pub column_chains : (o : ℕ → ℕ) (cs : List (List ℕ)) → Distinct (concat cs) → ((r : ℕ) → In r (concat cs) → o r ≡ after_in cs r) → All (ChainIn o) cs
column_chains o [] u a = tt
column_chains o (c ∷ cs) u a = (
  column_chain o (after_in cs) c (distinct_left c (concat cs) u) (λ r i. a r (in_left r c (concat cs) i)),
  column_chains o cs (distinct_right c (concat cs) u)
      (λ r i. a r (in_right r c (concat cs) i) ∙ after_out (after_in cs r) r c (apart_right r c (concat cs) u i)),
)

-- two of them, the rows that wait and the free ones, which are every row between them
module _ (q : ℕ) (o : ℕ → ℕ) (xs ys : List ℕ) (w : Once q (xs ++ ys)) where
  pub column_pair : ((r : ℕ) → r < q → o r ≡ after (after 0 ys r) xs r) → ChainIn o xs × ChainIn o ys
  column_pair a =
      let u = column_chains o (xs ∷ ys ∷ []) (rw append-nil w.distinct) (λ r i. a r (in_below q (xs ++ ys) w.below r (rw append-nil at i))) in
      (u.0, u.1.0)

  pub free_column : (h : ℕ) → Chain o h ys → (r : ℕ) → In r ys → o r ≡ after (after 0 ys r) xs r
  free_column h c r i =
      chain_column o h ys c (distinct_right xs ys w.distinct) 0 r i
      ∙ sym (after_out (after 0 ys r) r xs (apart_right r xs ys w.distinct i))

-- followed, a chain gives its rows: so where it starts fixes it, and no row is met twice
module _ (q : ℕ) (hq : q ≤ kind.none) (o : ℕ → ℕ) where
  follow_chain : (k h : ℕ) (xs : List ℕ) → Below q xs → length xs ≤ k → Chain o h xs → follow q o k h ≡ xs
  unfolding follow
  follow_chain zero h [] b l c = refl
  follow_chain (suc k) h [] b l c = rw (le-ltb h q (omega arith))
  follow_chain zero h (x ∷ xs) b l c = absurd (not-suc-le-zero l)
  follow_chain (suc k) h (x ∷ xs) b l c =
      rw (c.0, lt-ltb x q b.0) (ap (λ (l : List ℕ). x ∷ l) (follow_chain k (o x) xs b.1 (omega arith) c.1))

  one_chain : (h : ℕ) (xs ys : List ℕ) → Below q xs → Below q ys → Chain o h xs → Chain o h ys → xs ≡ ys
  one_chain h xs ys a b c d =
      sym (follow_chain (length xs + length ys) h xs a (omega arith) c) ∙ follow_chain (length xs + length ys) h ys b (omega arith) d

  no_longer : (h : ℕ) (xs : List ℕ) (y : ℕ) (ys : List ℕ) → Below q xs → Below q ys → Chain o h xs → Chain o y ys → In y xs → length ys ≤ length xs
  no_longer h [] y ys a b c d i = absurd i
  no_longer h (x ∷ xs) y ys a b c d i =
      ⊎_elim (λ e. omega (arith, ap length (one_chain y (x ∷ xs) ys a b (e, c.1) d)))
      (λ j. omega (arith, no_longer (o x) xs y ys a.1 b c.1 d j)) i

  pub chain_once : (h : ℕ) (xs : List ℕ) → Below q xs → Chain o h xs → Distinct xs
  chain_once h [] b c = tt
  chain_once h (x ∷ xs) b c =
      (notin x xs (λ i. omega (arith, no_longer (o x) xs x (x ∷ xs) b.1 b c.1 (refl, c.1) i)), chain_once (o x) xs b.1 c.1)

  pub followed : (h : ℕ) (xs : List ℕ) → Below q xs → Chain o h xs → follow q o q h ≡ xs
  followed h xs b c = follow_chain q h xs b (at_most q xs (chain_once h xs b c) b) c
