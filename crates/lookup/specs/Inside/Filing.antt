-- What follows where clients are filed, and what a row that enters or leaves makes of it.
use Rattle.std.specs.Prelude.{List, [], ◌∷◌, map, Bool, true, false, cond, ◌≡◌, refl, ℕ, ◌≤◌, ◌<◌, eqb}
use Rattle.std.proofs.Common.{sym, ap, ◌∙◌, ⊎_elim, inl, inr, arith, eqb-true, eq-eqb, ne_eqb}
use Rattle.std.proofs.Math.Decide.{ℕ_discrete}
use Rattle.std.proofs.lemmas.Bool.{eqb-false}
use Rattle.table.specs.Kind as kind
use Rattle.table.specs.Regions.{Regions, at}
use Rattle.table.specs.Owners.{LookupWords, lookup_words, order_words}
use Rattle.table.proofs.Draw.{at_same, at_other}
use Rattle.rules.specs.Rows.{In, NotIn, Distinct, Below, without}
use Rattle.rules.specs.Linked.{Chain}
use Rattle.rules.specs.Spread.{bucket}
use Rattle.rules.specs.Draw.{before}
use Rattle.rules.specs.Sound.{follow}
use Rattle.rules.proofs.Put.{put_map, put_in, take_in, put_there, put_fresh, take_distinct, without_put}
use Rattle.rules.proofs.Look.{find}
use Rattle.rules.proofs.Rows.{not_both, notin, other, in_or_not, below_in, past, in_without, notin_without, without_in, without_absent, gone, in_all, map_so, Within}
use Rattle.rules.proofs.Linked.{chain_so, chain_at}
use Rattle.rules.proofs.Columns.{chain_once, followed}
use Rattle.rules.proofs.Clients.{bucket_below}
use Rattle.lookup.specs.Inside.Filed.{Filed, Same, enter_row, leave_at, leave_row}
use Rattle.lookup.specs.Inside.Buckets.{rows_of, rows_place, rows_apart}

-- ids of their own: no row has x, a row has its id, and two rows of one id are one
module _ (id : ℕ → ℕ) where
  pub id_out : (x : ℕ) (rs : List ℕ) → ((s : ℕ) → In s rs → id s ≡ x → ⊥) → NotIn x (map id rs)
  id_out x rs h = notin x (map id rs) (λ i. let f = find id x rs i in h f.one (put_in f.one f.put (inl refl)) f.is)

  pub id_in_lem : (r : ℕ) (rs : List ℕ) → In r rs → In (id r) (map id rs)
  id_in_lem r rs i = put_there id (without_put r rs i)

  pub ids_by : (rs : List ℕ) → Distinct rs → ((r s : ℕ) → In r rs → In s rs → id r ≡ id s → r ≡ s) → Distinct (map id rs)
  ids_by [] d h = tt
  ids_by (r ∷ rs) d h =
      (id_out (id r) rs (λ s i e. other r s rs d.0 i (h r s (inl refl) (inr i) (sym e))), ids_by rs d.1 (λ x y i j. h x y (inr i) (inr j)))

  pub ids_tell : (rs : List ℕ) → Distinct (map id rs) → (r s : ℕ) → In r rs → In s rs → id r ≡ id s → r ≡ s
  ids_tell rs d r s i j e =
      let p = without_put r rs i in
      ⊎_elim (λ z. sym z) (λ k. absurd (not_both (id s) (map id (without r rs)) (id_in_lem s (without r rs) k) (rw e at (put_fresh id p d)))) (take_in s p j)

-- only the words of rows that there are matter
pub filed_same : {q : ℕ} {L M : LookupWords} {id : ℕ → ℕ} {cs : List ℕ} {C : ℕ → List ℕ} → Same q L M → Filed q L id cs C → Filed q M id cs C
filed_same {L = L} {M} {C = C} s F =
    record {
      chained = λ b h. chain_so L.next M.next (L.first b) (M.first b) (C b) (s.first b h) (λ r i. s.next r (F.below r (F.only b r h i).0)) (F.chained b h);
      stands = F.stands;
      only = F.only;
      ids = F.ids;
      below = F.below;
      unchained = λ r l n. sym (s.next r l) ∙ F.unchained r l n;
    }

module _ {q : ℕ} {L : LookupWords} {id : ℕ → ℕ} {cs : List ℕ} {C : ℕ → List ℕ} (F : Filed q L id cs C) where
  -- and of the ids those of the clients
  pub filed_id : (r v : ℕ) → NotIn r cs → Filed q L (at id r v) cs C
  filed_id r v n =
      let kept : (s : ℕ) → In s cs → at id r v s ≡ id s = λ s i. at_other id r v s (λ e. other r s cs n i (sym e)) in
      record {
        chained = F.chained;
        stands = λ s i. rw (kept s i) (F.stands s i);
        only = λ b s h i. let o = F.only b s h i in (o.0, rw (kept s o.0) o.1);
        ids = rw (map_so (at id r v) id cs (in_all _ cs kept)) F.ids;
        below = F.below;
        unchained = F.unchained;
      }

  pub filed_nobody : Within (rows_of q C) cs
  filed_nobody r i = let p = rows_place q C r i in (F.only p.bucket r p.low p.there).0

  pub filed_home : (r : ℕ) → In r cs → bucket q (id r) < q
  filed_home r i = bucket_below q (id r) (omega (arith, F.below r i))

  -- one chain
  module _ (hq : q ≤ kind.none) (b : ℕ) (h : b < q) where
    pub chain_below : Below q (C b)
    chain_below = below_in q (C b) (λ r i. F.below r (F.only b r h i).0)

    pub chain_is : follow q L.next q (L.first b) ≡ C b
    chain_is = followed q hq L.next (L.first b) (C b) chain_below (F.chained b h)

    chain_past : NotIn kind.none (C b)
    chain_past = past q kind.none (C b) hq chain_below

    pub chain_distinct : Distinct (C b)
    chain_distinct = chain_once q hq L.next (L.first b) (C b) chain_below (F.chained b h)

  pub filed_apart : q ≤ kind.none → Distinct (rows_of q C)
  filed_apart hq = rows_apart q C (chain_distinct hq) (λ r b d h g i j. sym (F.only b r h i).1 ∙ (F.only d r g j).1)

-- enter

module _ {q : ℕ} (R : Regions) {cs : List ℕ} {C : ℕ → List ℕ} (F : Filed q (lookup_words R) (order_words R).id cs C) (r : ℕ) (low : r < q) (new : NotIn r cs) where
  abbrev home : ℕ
  home = bucket q ((order_words R).id r)

  enter_chain : (j : ℕ) → j < q → Chain (at (lookup_words R).next r (R.bucket home)) (at R.bucket home r j) (cond (eqb j home) (r ∷ C j) (C j))
  enter_chain j h =
      let old : (v : ℕ) → Chain (at (lookup_words R).next r v) (R.bucket j) (C j) =
      λ v. chain_at (lookup_words R).next r v (R.bucket j) (C j) (notin r (C j) (λ i. not_both r cs (F.only j r h i).0 new)) (F.chained j h) in
      elim (ℕ_discrete j home) [
        | yes e ↦ rw (eq-eqb j home e) (refl, rw (at_same (lookup_words R).next r (R.bucket home), ← e) (old (R.bucket home)))
        | no n ↦ rw (ne_eqb j home n) (old (R.bucket home))
      ]

  pub enter_filed : ((s : ℕ) → In s cs → (order_words R).id s ≡ (order_words R).id r → ⊥)
      → Filed q (lookup_words (enter_row q r R)) (order_words R).id (r ∷ cs) (λ j. cond (eqb j home) (r ∷ C j) (C j))
  enter_filed own =
      let id : ℕ → ℕ = (order_words R).id in
      record {
        chained = enter_chain;
        stands = λ x i.
            elim (ℕ_discrete (bucket q (id x)) home) [
              | yes e ↦ rw (eq-eqb (bucket q (id x)) home e) (⊎_elim (λ z. inl z) (λ k. inr (F.stands x k)) i)
              | no n ↦ rw (ne_eqb (bucket q (id x)) home n) (⊎_elim (λ z. absurd (n (ap (λ (y : ℕ). bucket q (id y)) z))) (F.stands x) i)
            ];
        only = λ j x h i.
            let old : In x (C j) → In x (r ∷ cs) × (bucket q (id x) ≡ j) = λ k. let o = F.only j x h k in (inr o.0, o.1) in
            elim (ℕ_discrete j home) [
              | yes e ↦ ⊎_elim (λ z. (inl z, ap (λ (y : ℕ). bucket q (id y)) z ∙ sym e)) old (rw (eq-eqb j home e) at i)
              | no n ↦ old (rw (ne_eqb j home n) at i)
            ];
        ids = (id_out id (id r) cs own, F.ids);
        below = λ x i. ⊎_elim (λ e. rw e low) (F.below x) i;
        unchained = λ x l n. at_other (lookup_words R).next r (R.bucket home) x n.0 ∙ F.unchained x l n.1;
      }

-- leave

before_in : (d p r : ℕ) (xs : List ℕ) → In r xs → In (before d p xs r) (p ∷ xs)
before_in d p r [] i = absurd i
before_in d p r (x ∷ xs) i = go (eqb x r) refl (before_in d x r xs)
  where
    go : (b : Bool) → eqb x r ≡ b → (In r xs → In (before d x xs r) (x ∷ xs)) → In (cond b p (before d x xs r)) (p ∷ x ∷ xs)
    go true e f = inl refl
    go false e f = inr (f (⊎_elim (λ z. absurd (eqb-false x r e (sym z))) (λ j. j) i))

-- the pointer into r turned past it, p being what stands before the rows
unhooked : (o : ℕ → ℕ) (d r p h : ℕ) (xs : List ℕ) → In r xs → NotIn p xs → Distinct xs → Chain o h xs
    → Chain (at o (before d p xs r) (o r)) (cond (eqb p (before d p xs r)) (o r) h) (without r xs)
unhooked o d r p h [] i n u c = absurd i
unhooked o d r p h (x ∷ xs) i n u c = go (eqb x r) refl (λ j. unhooked o d r x (o x) xs j u.0 u.1 c.1)
  where
    go : (b : Bool) → eqb x r ≡ b → (In r xs → Chain (at o (before d x xs r) (o r)) (cond (eqb x (before d x xs r)) (o r) (o x)) (without r xs))
        → Chain (at o (cond b p (before d x xs r)) (o r)) (cond (eqb p (cond b p (before d x xs r))) (o r) h) (cond b xs (x ∷ without r xs))
    go true e f = rw (eq-eqb p p refl, ← eqb-true x r e) (chain_at o p (o x) (o x) xs n.1 c.1)
    go false e f =
        let j : In r xs = ⊎_elim (λ z. absurd (eqb-false x r e (sym z))) (λ k. k) i in
        (rw (ne_eqb p (before d x xs r) (λ z. other p (before d x xs r) (x ∷ xs) n (before_in d x r xs j) z)) c.0, f j)

taken_out : (r : ℕ) (xs : List ℕ) → Distinct xs → NotIn r (without r xs)
taken_out r xs d = ⊎_elim (λ i. gone r xs i d) (λ n. notin_without r r xs n) (in_or_not r xs)

module _ {q : ℕ} (hq : q ≤ kind.none) (R : Regions) {cs : List ℕ} {C : ℕ → List ℕ} (F : Filed q (lookup_words R) (order_words R).id cs C) (r : ℕ) (here : In r cs) where
  abbrev mine : ℕ
  mine = bucket q ((order_words R).id r)

  low : mine < q
  low = filed_home F r here

  stood : In r (C mine)
  stood = F.stands r here

  -- the row before it, or none, and where that is: in no other chain
  abbrev last : ℕ
  last = before 0 kind.none (C mine) r

  near : In last (kind.none ∷ C mine)
  near = before_in 0 kind.none r (C mine) stood

  elsewhere : (j x : ℕ) → j < q → (j ≡ mine → ⊥) → In x (kind.none ∷ C mine) → NotIn x (C j)
  elsewhere j x h n i = ⊎_elim (λ z. rw z (chain_past F hq j h)) (λ k. notin x (C j) (λ m. n (sym (F.only j x h m).1 ∙ (F.only mine x low k).1))) i

  leave_chain : (j : ℕ) → j < q → Chain (lookup_words (leave_at mine last r R)).next ((leave_at mine last r R).bucket j) (without r (C j))
  leave_chain j h =
      let o : ℕ → ℕ = at (lookup_words R).next last (R.client r kind.next_in_bucket) in
      elim (ℕ_discrete j mine) [
        | yes e ↦
            rw (eq-eqb j mine e, e)
            (chain_at o r 0 _ (without r (C mine)) (taken_out r (C mine) (chain_distinct F hq mine low))
            (unhooked (lookup_words R).next 0 r kind.none (R.bucket mine) (C mine) stood (chain_past F hq mine low) (chain_distinct F hq mine low) (F.chained mine low)))
        | no n ↦
            let out : NotIn r (C j) = elsewhere j r h n (inr stood) in
            rw (ne_eqb j mine n, without_absent r (C j) out)
            (chain_at o r 0 (R.bucket j) (C j) out (chain_at (lookup_words R).next last _ (R.bucket j) (C j) (elsewhere j last h n near) (F.chained j h)))
      ]

  pub leave_filed : Filed q (lookup_words (leave_row q r R)) (order_words R).id (without r cs) (λ j. without r (C j))
  leave_filed =
      let id : ℕ → ℕ = (order_words R).id in
      let ids = take_distinct (put_map id (without_put r cs here)) F.ids in
      let was : Within (without r cs) cs = λ x. in_without r x cs in
      rw (chain_is F hq mine low)
      (record {
        chained = leave_chain;
        stands = λ x i.
            without_in r x (C (bucket q (id x))) (λ e. not_both (id r) (map id (without r cs)) (rw (ap id e) at (id_in_lem id x (without r cs) i)) ids.0) (F.stands x (was x i));
        only = λ j x h i.
            let o = F.only j x h (in_without r x (C j) i) in
            (without_in r x cs (λ e. other r x (without r (C j)) (taken_out r (C j) (chain_distinct F hq j h)) i (sym e)) o.0, o.1);
        ids = ids.1;
        below = λ x i. F.below x (was x i);
        unchained = λ x l n.
            elim (ℕ_discrete x r) [
              | yes e ↦ rw (eq-eqb x r e)
              | no m ↦
                  let out : NotIn x cs = notin x cs (λ i. not_both x (without r cs) (without_in r x cs m i) n) in
                  let not_last : x ≡ last → ⊥ = λ z. ⊎_elim (λ w. omega (arith, z, w)) (λ k. not_both x cs (rw z (F.only mine last low k).0) out) near in
                  rw (ne_eqb x r m, ne_eqb x last not_last) (F.unchained x l out)
            ];
      })
