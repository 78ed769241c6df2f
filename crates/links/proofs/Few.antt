-- How many words an unlinking, an insertion, a row taken and a row freed alter at most, whatever the regions hold.
use mathlib.Core.Bool.{Bool, true, false, cond}
use mathlib.Core.List.{List}
use mathlib.Core.Path.{◌≡◌, refl, sym, ap, subst}
use Prim.Native.Nat.{ℕ, zero, suc, ◌≤◌, ◌<◌}
use native.Mathlib.Decide.{dec_lt}
use native.Mathlib.Omega.{arith}
use lib.Dec.{eqb, lit<}
use borrow.Author.Tests.{eqb-true}
use Rattle.table.specs.Kind as kind
use Rattle.table.specs.Regions.{Regions, words, altered}
use Rattle.table.proofs.Write.{altered_same, altered_set}
use Rattle.table.proofs.Few.{Few, few_then, few_header}
use Rattle.links.specs.Strands.{Region, items, put, Strand, link_to, turn_in, unlink_in, insert_in}
use Rattle.links.specs.Pools.{Pool, free_items, blank, take_from, free_into}
use Rattle.links.proofs.Strands.{Stands, past, stays, item_stands, Lens}
use Rattle.links.proofs.Pools.{wipe, wipe_blank}

module _ (q : ℕ) where
  -- a drawing that is the same
  pub few_so : (R S T : Regions) {k : ℕ} → words q S ≡ words q T → Few q k R S → Few q k R T
  few_so R S T {k} e = subst (λ (l : List ℕ). altered (words q R) l ≤ k) e

  few_from : (R S T : Regions) {k : ℕ} → words q R ≡ words q S → Few q k R T → Few q k S T
  few_from R S T {k} e = subst (λ (l : List ℕ). altered l (words q T) ≤ k) e

module _ {q : ℕ} {g : Region} (K : Stands q g) where
  -- one word, whether its row is drawn or not
  few_put : (R : Regions) (r f v : ℕ) → f < g.width → Few q 1 R (put g r f v R)
  few_put R r f v h =
      elim (dec_lt r (g.number q)) [
        | yes l ↦ subst (λ (t : List ℕ). altered (words q R) t ≤ 1) (K.write R r f v l h) (altered_set (words q R) _ v)
        | no n ↦ few_so q R R (put g r f v R) (sym (past K R r f v (omega (arith, n)))) (omega (arith, altered_same (words q R)))
      ]

  few_wipe : (R : Regions) (r c v n : ℕ) → n ≤ g.width → Few q n R (g.with (wipe (g.word R) r c v n) R)
  few_wipe R r c v zero h = few_so q R R (g.with (g.word R) R) (ap (words q) (sym (K.whole R))) (omega (arith, altered_same (words q R)))
  few_wipe R r c v (suc n) h =
      let A : Regions = g.with (wipe (g.word R) r c v n) R in
      few_so q R _ (g.with (wipe (g.word R) r c v (suc n)) R) (ap (words q) (K.again R (wipe (g.word R) r c v n) r n _))
      (omega (arith, few_then q R A (put g r n (cond (eqb n c) v 0) A) (few_wipe R r c v n (omega arith)) (few_put A r n (cond (eqb n c) v 0) (omega arith))))

  few_blank : (R : Regions) (r c v : ℕ) → Few q g.width R (g.with (blank (g.word R) r c v) R)
  few_blank R r c v =
      few_so q R _ (g.with (blank (g.word R) r c v) R) (K.agree R _ _ (λ i j hi hj. wipe_blank (g.word R) r c v g.width i j hj))
      (few_wipe R r c v g.width (omega arith))

module _ {q : ℕ} {s : Strand} (K : Lens q s) where
  -- a link is one word: where e is none, the row past the rows is not drawn, and else the end stays
  few_link : (R : Regions) (f a e v : ℕ) → f < s.rows.width → a < s.ends.width → Few q 1 R (link_to s f a e v R)
  few_link R f a e v hf ha = go (eqb kind.none e) refl
    where
      go : (b : Bool) → eqb kind.none e ≡ b
          → Few q 1 R (put s.rows e f v (put s.ends s.holder a (cond b v (s.ends.word R s.holder a)) R))
      go true h =
          let A : Regions = put s.ends s.holder a v R in
          few_so q R A (put s.rows e f v A) (sym (past K.rows A e f v (omega (arith, K.small, eqb-true kind.none e h)))) (few_put K.ends R s.holder a v ha)
      go false h =
          let A : Regions = put s.ends s.holder a (s.ends.word R s.holder a) R in
          few_from q A R (put s.rows e f v A) (stays K.ends R s.holder a) (few_put K.rows A e f v hf)

  few_turn : (R : Regions) (e v l w : ℕ) → Few q 2 R (turn_in s e v l w R)
  few_turn R e v l w =
      few_then q R (link_to s s.on s.first e v R) (turn_in s e v l w R) (few_link R s.on s.first e v K.on K.first) (few_link _ s.back s.last l w K.back K.last)

  pub few_unlink : (r : ℕ) (R : Regions) → Few q 2 R (unlink_in s r R)
  few_unlink r R = few_turn R _ _ _ _

  pub few_insert : (r e l : ℕ) (R : Regions) → Few q 4 R (insert_in s r e l R)
  few_insert r e l R =
      let A : Regions = put s.rows r s.back e R in
      let B : Regions = put s.rows r s.on l A in
      few_then q R B (insert_in s r e l R) (few_then q R A B (few_put K.rows R r s.back e K.back) (few_put K.rows A r s.on l K.on)) (few_turn B e r l r)

module _ (q : ℕ) where
  pub few_take : (P : Pool) (R : Regions) → P.head < kind.header_words → Few q 1 R (take_from P R)
  few_take P R h = few_header q R 0 P.head _ h

  pub few_free : (r : ℕ) (R : Regions) → Few q 7 R (free_into free_items r R)
  few_free r R =
      let A : Regions = items.with (blank R.item r kind.later (R.header kind.free_item_at)) R in
      few_then q R A (free_into free_items r R) (few_blank (item_stands q) R r kind.later (R.header kind.free_item_at)) (few_header q A 0 kind.free_item_at r (lit< tt))
