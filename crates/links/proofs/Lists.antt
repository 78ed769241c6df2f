-- Unlinking and inserting over any two columns: a list is a ring through none, so no neighbour is a case of its own.
use mathlib.Core.List.{List, [], ◌∷◌, ◌++◌, append-nil}
use mathlib.Core.Path.{◌≡◌, refl, sym, ap, ◌∙◌, subst}
use mathlib.Core.Logic.{⊎_elim, inl, inr}
use Prim.Native.Nat.{ℕ, ◌≤◌, ◌<◌}
use native.Mathlib.Omega.{arith}
use Rattle.table.specs.Kind as kind
use Rattle.table.specs.Regions.{at}
use Rattle.table.proofs.Draw.{at_same, at_other}
use Rattle.rules.specs.Rows.{head_or, last_or, without, In, NotIn, Distinct, Below}
use Rattle.rules.specs.Linked.{Link, Links, Run, Linked}
use Rattle.rules.proofs.Rows.{other, notin_left, notin_right, distinct_left, distinct_right, distinct_drop, distinct_put, apart_right, below_drop, below_put, in_below, notin, past, last_in, head_in, split_at}
use Rattle.rules.proofs.Linked.{run_head, run_last, run_back}
use Rattle.links.specs.Steps.{link_on, link_back, unlink, insert, ended}

-- runs whose columns agree at the rows
pub run_so : (b o b' o' : ℕ → ℕ) (p h h' : ℕ) (xs : List ℕ) (n l l' : ℕ) → h ≡ h' → l ≡ l' → ((x : ℕ) → In x xs → (b x ≡ b' x) × (o x ≡ o' x))
    → Run b o p h xs n l → Run b' o' p h' xs n l'
run_so b o b' o' p h h' [] n l l' eh el g r = (sym eh ∙ r.0, sym el ∙ r.1)
run_so b o b' o' p h h' (x ∷ xs) n l l' eh el g r =
    let a = g x (inl refl) in
    (sym eh ∙ r.0, sym a.0 ∙ r.1, run_so b o b' o' x (o x) (o' x) xs n l l' a.1 el (λ y i. g y (inr i)) r.2)

-- rings: the pointer into the run is that on from p, and the one back into it is that from n

abbrev Ring : (ℕ → ℕ) → (ℕ → ℕ) → ℕ → List ℕ → ℕ → Type 0
Ring b o p xs n = Run b o p (o p) xs n (b n)

-- the rows after p come to stand after v
lead : (b o o' : ℕ → ℕ) (p v : ℕ) (ys : List ℕ) (n : ℕ) → Distinct (n ∷ ys) → o' v ≡ head_or n ys → ((x : ℕ) → In x ys → o x ≡ o' x)
    → Ring b o p ys n → Ring (at b (head_or n ys) v) o' v ys n
lead b o o' p v [] n d e g r = (e, at_same b n v)
lead b o o' p v (y ∷ ys) n d e g r = (
  e,
  at_same b y v,
  run_so b o (at b y v) o' y (o y) (o' y) ys n (b n) (at b y v n) (g y (inl refl)) (sym (at_other b y v n d.0.0))
      (λ x i. (sym (at_other b y v x (λ z. other y x ys d.1.0 i (sym z))), g x (inr i))) r.2,
)

-- the last of the rows xs is turned to v, and what follows it is another list
trail : (b o b' : ℕ → ℕ) (p v : ℕ) (xs ys zs : List ℕ) (n : ℕ) → Distinct (p ∷ xs) → ((x : ℕ) → In x xs → b x ≡ b' x)
    → (Ring b o (last_or p xs) ys n → Ring b' (at o (last_or p xs) v) (last_or p xs) zs n)
    → Ring b o p (xs ++ ys) n → Ring b' (at o (last_or p xs) v) p (xs ++ zs) n
trail b o b' p v [] ys zs n d g t r = t r
trail b o b' p v (x ∷ xs) ys zs n d g t r = (
  at_other o (last_or x xs) v p (other p (last_or x xs) (x ∷ xs) d.0 (last_in x xs)) ∙ r.0,
  sym (g x (inl refl)) ∙ r.1,
  trail b o b' x v xs ys zs n d.1 (λ y i. g y (inr i)) t r.2,
)

-- m stands for none. The links of the two neighbours e and l are turned, e's to v and l's to w
module _ (b o : ℕ → ℕ) (m : ℕ) (xs ys : List ℕ) (d : Distinct (m ∷ xs ++ ys)) where
  apart_last : (x : ℕ) → In x ys → x ≡ last_or m xs → ⊥
  apart_last x i = other x (last_or m xs) (m ∷ xs) (apart_right x (m ∷ xs) ys d i) (last_in m xs)

  apart_head : (x : ℕ) → In x xs → x ≡ head_or m ys → ⊥
  apart_head x i e =
      other (head_or m ys) x xs (apart_right (head_or m ys) xs (m ∷ ys) (distinct_put m xs ys d.0 d.1) (head_in m ys)) i (sym e)

  turn : (v w : ℕ) (ss zs : List ℕ)
      → (Ring b o (last_or m xs) ss m → Ring (at b (head_or m ys) w) (at o (last_or m xs) v) (last_or m xs) zs m)
      → Ring b o m (xs ++ ss) m → Ring (at b (head_or m ys) w) (at o (last_or m xs) v) m (xs ++ zs) m
  turn v w ss zs =
      trail b o (at b (head_or m ys) w) m v xs ss zs m (distinct_left (m ∷ xs) ys d) (λ x i. sym (at_other b (head_or m ys) w x (apart_head x i)))

  after : (p v w : ℕ) → at o (last_or m xs) v w ≡ head_or m ys → Ring b o p ys m → Ring (at b (head_or m ys) w) (at o (last_or m xs) v) w ys m
  after p v w e =
      lead b o (at o (last_or m xs) v) p w ys m (notin_right m xs ys d.0, distinct_right xs ys d.1) e
      (λ x i. sym (at_other o (last_or m xs) v x (apart_last x i)))

unlink_ring : (b o : ℕ → ℕ) (m r : ℕ) (xs ys : List ℕ) → Distinct (m ∷ xs ++ r ∷ ys) → Ring b o m (xs ++ r ∷ ys) m
    → Ring (at b (head_or m ys) (last_or m xs)) (at o (last_or m xs) (head_or m ys)) m (xs ++ ys) m
unlink_ring b o m r xs ys d =
    let e = last_or m xs in
    let l = head_or m ys in
    let d' = distinct_drop r (m ∷ xs) ys d in
    turn b o m xs ys d' l e (r ∷ ys) ys (λ t. after b o m xs ys d' r l e (at_same o e l) t.2)

-- r is linked to its neighbours already
insert_ring : (b o : ℕ → ℕ) (m r : ℕ) (xs ys : List ℕ) → Distinct (m ∷ xs ++ ys) → NotIn r (m ∷ xs ++ ys) → b r ≡ last_or m xs → o r ≡ head_or m ys
    → Ring b o m (xs ++ ys) m → Ring (at b (head_or m ys) r) (at o (last_or m xs) r) m (xs ++ r ∷ ys) m
insert_ring b o m r xs ys d n be ol =
    let e = last_or m xs in
    let l = head_or m ys in
    let not-e : r ≡ e → ⊥ = other r e (m ∷ xs) (n.0, notin_left r xs ys n.1) (last_in m xs) in
    let not-l : r ≡ l → ⊥ = other r l (m ∷ ys) (n.0, notin_right r xs ys n.1) (head_in m ys) in
    turn b o m xs ys d r r ys (r ∷ ys)
    (λ t. (at_same o e r, at_other b l r r not-l ∙ be, after b o m xs ys d e r r (at_other o e r r not-e ∙ ol) t))

-- lists

-- a list whose columns agree with another's at its rows, and its ends
pub linked_so : {q : ℕ} {L M : Links} {rs : List ℕ} → L.first ≡ M.first → L.last ≡ M.last
    → ((x : ℕ) → In x rs → (L.back x ≡ M.back x) × (L.on x ≡ M.on x)) → Linked q L rs → Linked q M rs
linked_so {q} {L} {M} {rs} f l g k =
    record {
      run = run_so L.back L.on M.back M.on kind.none L.first M.first rs kind.none L.last M.last f l g k.run;
      distinct = k.distinct;
      below = k.below;
    }

-- a list whose columns are altered where it has no row
pub elsewhere : {q : ℕ} {L : Links} {rs : List ℕ} (a v c w : ℕ) → NotIn a rs → NotIn c rs → Linked q L rs
    → Linked q (record { back = at L.back a v; on = at L.on c w; first = L.first; last = L.last }) rs
elsewhere {L = L} {rs} a v c w na nc =
    let else : (y x : ℕ) → NotIn y rs → In x rs → x ≡ y → ⊥ = λ y x n i z. other y x rs n i (sym z) in
    linked_so refl refl (λ x i. (sym (at_other L.back a v x (else a x na i)), sym (at_other L.on c w x (else c x nc i))))

-- the neighbours of a row, where it stands
run_around : (b o : ℕ → ℕ) (p h r : ℕ) (xs ys : List ℕ) (n l : ℕ) → Run b o p h (xs ++ r ∷ ys) n l → (b r ≡ last_or p xs) × (o r ≡ head_or n ys)
run_around b o p h r [] ys n l k = (k.1, run_head b o r (o r) ys n l k.2)
run_around b o p h r (x ∷ xs) ys n l k = run_around b o x (o x) r xs ys n l k.2

pub around : {q : ℕ} {L : Links} (r : ℕ) (xs ys : List ℕ) → Linked q L (xs ++ r ∷ ys) → (L.back r ≡ last_or kind.none xs) × (L.on r ≡ head_or kind.none ys)
around {L = L} r xs ys k = run_around L.back L.on kind.none L.first r xs ys kind.none L.last k.run

-- where two parts of a ring meet
ring_meet : (b o : ℕ → ℕ) (p : ℕ) (xs ys : List ℕ) (n : ℕ) → Ring b o p (xs ++ ys) n → (o (last_or p xs) ≡ head_or n ys) × (b (head_or n ys) ≡ last_or p xs)
ring_meet b o p [] [] n r = r
ring_meet b o p [] (y ∷ ys) n r = (r.0, r.1)
ring_meet b o p (x ∷ xs) ys n r = ring_meet b o x xs ys n r.2

-- each row is the one on from the one before it, and back from the one after
ring_there : (b o : ℕ → ℕ) (p : ℕ) (xs : List ℕ) (n r : ℕ) → Ring b o p xs n → In r xs → (o (b r) ≡ r) × (b (o r) ≡ r)
ring_there b o p [] n r k i = absurd i
ring_there b o p (x ∷ xs) n r k i =
    let (on, back) = ring_meet b o x [] xs n k.2 in
    ⊎_elim (λ e. rw e (ap o k.1 ∙ k.0, ap b on ∙ back)) (ring_there b o x xs n r k.2) i

module _ (q : ℕ) (hq : q ≤ kind.largest) where
  row : (rs : List ℕ) → Below q rs → (x : ℕ) → In x rs → x ≡ kind.none → ⊥
  row rs b x i e = omega (arith, in_below q rs b x i)

  ring : (L : Links) (rs : List ℕ) → Linked q L rs → Ring (at L.back kind.none L.last) (at L.on kind.none L.first) kind.none rs kind.none
  ring L rs k =
      run_so L.back L.on _ _ kind.none L.first L.first rs kind.none L.last L.last refl refl
      (λ x i. let n = row rs k.below x i in (sym (at_other L.back kind.none L.last x n), sym (at_other L.on kind.none L.first x n)))
      k.run

  -- the link on from the last of the first part, which from none is the first row; and the link back likewise
  pub meet : (L : Links) (xs ys : List ℕ) → Linked q L (xs ++ ys)
      → (at L.on kind.none L.first (last_or kind.none xs) ≡ head_or kind.none ys) × (at L.back kind.none L.last (head_or kind.none ys) ≡ last_or kind.none xs)
  meet L xs ys k = ring_meet _ _ kind.none xs ys kind.none (ring L (xs ++ ys) k)

  pub there_and_back : (L : Links) (rs : List ℕ) (r : ℕ) → Linked q L rs → In r rs
      → (at L.on kind.none L.first (L.back r) ≡ r) × (at L.back kind.none L.last (L.on r) ≡ r)
  there_and_back L rs r k i =
      let n = row rs k.below r i in
      rw (at_other L.back kind.none L.last r n, at_other L.on kind.none L.first r n) at (ring_there _ _ kind.none rs kind.none r (ring L rs k) i)

  not_row : (rs : List ℕ) → Below q rs → NotIn kind.none rs
  not_row rs b = past q kind.none rs (omega arith) b

  -- two links turned, in the ring and in the list
  unring : (L : Links) (e v l w : ℕ) (rs : List ℕ) → Below q rs
      → Ring (at (at L.back kind.none L.last) l w) (at (at L.on kind.none L.first) e v) kind.none rs kind.none
      → Run (at L.back l w) (at L.on e v) kind.none (link_on e v L).first rs kind.none (link_back l w L).last
  unring L e v l w rs b r =
      run_so _ _ (at L.back l w) (at L.on e v) kind.none _ _ rs kind.none _ _ refl refl
      (λ x i. let n = row rs b x i in (rw (at_other L.back kind.none L.last x n), rw (at_other L.on kind.none L.first x n))) r

  pub unlink_linked : (L : Links) (r : ℕ) (xs ys : List ℕ) → Linked q L (xs ++ r ∷ ys) → Linked q (unlink r L) (xs ++ ys)
  unlink_linked L r xs ys k =
      let prev = last_or kind.none xs in
      let next = head_or kind.none ys in
      let near = around r xs ys k in
      let b = below_drop q r xs ys k.below in
      record {
        run = rw (near.0, near.1)
            (unring L prev next next prev (xs ++ ys) b
            (unlink_ring _ _ kind.none r xs ys (not_row (xs ++ r ∷ ys) k.below, k.distinct) (ring L (xs ++ r ∷ ys) k)));
        distinct = distinct_drop r xs ys k.distinct;
        below = b;
      }

  pub unlink_in_lem : (L : Links) (r : ℕ) (rs : List ℕ) → In r rs → Linked q L rs → Linked q (unlink r L) (without r rs)
  unlink_in_lem L r rs i k =
      let s = split_at r rs i in
      rw s.rest (unlink_linked L r s.left s.right (rw s.is at k))

  pub insert_linked : (L : Links) (r e l : ℕ) (xs ys : List ℕ) → e ≡ last_or kind.none xs → l ≡ head_or kind.none ys → NotIn r (xs ++ ys) → r < q
      → Linked q L (xs ++ ys) → Linked q (insert r e l L) (xs ++ r ∷ ys)
  insert_linked L r e l xs ys he hl n hr k =
      let prev = last_or kind.none xs in
      let next = head_or kind.none ys in
      let L' : Links = record { back = at L.back r prev; on = at L.on r next; first = L.first; last = L.last } in
      let b = below_put q r xs ys hr k.below in
      let row-r : r ≡ kind.none → ⊥ = λ z. omega arith in
      record {
        run = rw (he, hl)
            (unring L' prev r next r (xs ++ r ∷ ys) b
            (insert_ring _ _ kind.none r xs ys (not_row (xs ++ ys) k.below, k.distinct) (row-r, n)
            (at_other L'.back kind.none L.last r row-r ∙ at_same L.back r prev) (at_other L'.on kind.none L.first r row-r ∙ at_same L.on r next)
            (ring L' (xs ++ ys) (elsewhere r prev r next n n k))));
        distinct = distinct_put r xs ys n k.distinct;
        below = b;
      }

  -- after the last, before the first, and alone, where the ends may have been anything
  pub insert_last : (L : Links) (r : ℕ) (rs : List ℕ) → NotIn r rs → r < q → Linked q L rs → Linked q (insert r L.last kind.none L) (rs ++ r ∷ [])
  insert_last L r rs n hr k =
      insert_linked L r L.last kind.none rs [] (run_last L.back L.on kind.none L.first rs kind.none L.last k.run) refl
      (rw append-nil n) hr (rw append-nil k)

-- the neighbours of a row are rows of its list, or none

run_on : (b o : ℕ → ℕ) (p h : ℕ) (xs : List ℕ) (n l r : ℕ) → Run b o p h xs n l → In r xs → In (o r) (n ∷ xs)
run_on b o p h [] n l r k i = absurd i
run_on b o p h (x ∷ xs) n l r k i =
    let head : r ≡ x → o r ≡ head_or n xs = λ e. ap o e ∙ run_head b o x (o x) xs n l k.2 in
    let next : In (o r) (n ∷ xs) = ⊎_elim (λ e. subst (λ (y : ℕ). In y (n ∷ xs)) (sym (head e)) (head_in n xs)) (λ j. run_on b o x (o x) xs n l r k.2 j) i in
    ⊎_elim (λ e. inl e) (λ j. inr (inr j)) next

module _ {q : ℕ} {L : Links} {rs : List ℕ} (k : Linked q L rs) where
  pub neighbours : (r : ℕ) → In r rs → In (L.back r) (kind.none ∷ rs) × In (L.on r) (kind.none ∷ rs)
  neighbours r i = (
    run_back L.back L.on kind.none L.first rs kind.none L.last r k.run i,
    run_on L.back L.on kind.none L.first rs kind.none L.last r k.run i,
  )

  pub ends : In L.first (kind.none ∷ rs) × In L.last (kind.none ∷ rs)
  ends = (
    subst (λ (y : ℕ). In y (kind.none ∷ rs)) (sym (run_head L.back L.on kind.none L.first rs kind.none L.last k.run)) (head_in kind.none rs),
    subst (λ (y : ℕ). In y (kind.none ∷ rs)) (sym (run_last L.back L.on kind.none L.first rs kind.none L.last k.run)) (last_in kind.none rs),
  )

  -- and so can be followed
  link : (x : ℕ) → In x (kind.none ∷ rs) → Link q x
  link x i n = ⊎_elim (λ e. absurd (n e)) (λ j. in_below q rs k.below x j) i

  pub neighbour_links : (r : ℕ) → In r rs → Link q (L.back r) × Link q (L.on r)
  neighbour_links r i = (link (L.back r) (neighbours r i).0, link (L.on r) (neighbours r i).1)

  pub end_links : Link q L.first × Link q L.last
  end_links = (link L.first ends.0, link L.last ends.1)

-- another list over the same columns, with no row in common

module _ (q : ℕ) (hq : q ≤ kind.largest) (rs ss : List ℕ) (apart : (x : ℕ) → In x ss → In x rs → ⊥) where
  stranger : (y : ℕ) → Below q ss → In y (kind.none ∷ rs) → NotIn y ss
  stranger y b i = ⊎_elim (λ e. rw e (not_row q hq ss b)) (λ j. notin y ss (λ s. apart y s j)) i

  pub unlink_apart : (L : Links) (r f l : ℕ) → In r rs → Linked q L rs → Linked q (ended L f l) ss → Linked q (ended (unlink r L) f l) ss
  unlink_apart L r f l i k m =
      let near = neighbours k r i in
      elsewhere (L.on r) (L.back r) (L.back r) (L.on r) (stranger (L.on r) m.below near.1) (stranger (L.back r) m.below near.0) m

  pub insert_apart : (L : Links) (r e n f l : ℕ) → In e (kind.none ∷ rs) → In n (kind.none ∷ rs) → NotIn r ss → Linked q (ended L f l) ss
      → Linked q (ended (insert r e n L) f l) ss
  insert_apart L r e n f l ie il a m =
      elsewhere n r e r (stranger n m.below il) (stranger e m.below ie) (elsewhere r e r n a a m)
