-- The order of clients by groups, in the regions: a row taken out of its group, a row put at the lighter end of one, and where they stand.
use mathlib.Core.List.{List, ◌∷◌, ◌++◌, append_assoc}
use mathlib.Core.Path.{◌≡◌, refl, sym, ap, ◌∙◌, subst}
use mathlib.Core.Logic.{⊎_elim, inl, inr}
use Prim.Native.Nat.{ℕ, suc, ◌-◌, ◌≤◌, ◌<◌}
use native.Mathlib.Omega.{arith}
use borrow.Author.Tests.{eq-eqb, ne_eqb}
use Rattle.table.specs.Kind as kind
use Rattle.table.specs.Regions.{Regions, at}
use Rattle.table.specs.Owners.{OrderWords, order_words}
use Rattle.table.proofs.Draw.{cond_same}
use Rattle.rules.specs.Rows.{head_or, last_or, without, In, NotIn, Distinct, Below}
use Rattle.rules.specs.Linked.{Links, Linked, order}
use Rattle.rules.proofs.Rows.{other, in_left, in_right, distinct_left, distinct_right, below_left, below_right, last_in, head_in, head_some, without_length, Split, split_at}
use Rattle.links.proofs.Lists.{around, unlink_linked, insert_linked, neighbours}
use Rattle.order.specs.Moves.{take_out, after, put_in, raise_after, lower_before, lower_after}
use Rattle.order.proofs.Ends.{light_end_lem, heavy_end_lem, last_but, last_there, head_back, after_last, or_last, or_head}
use Rattle.order.proofs.Joined.{joined, but, above, parts, parts_but, below_but, upto_suc, of_but, in_joined}
use Rattle.order.proofs.Sorted.{Counted, counted_out, counted_put, whole, left_out}

-- q groups g of rows with the counts c: what the links, the column of counts and those of the ends hold
pub record Groups (q : ℕ) (L : Links) (count light heavy c : ℕ → ℕ) (g : ℕ → List ℕ) : Type 0 where
  pub linked : Linked q L (joined g 0 q)
  pub counted : Counted count q g
  pub sorted : Counted c q g
  pub light_end : (k : ℕ) → k < q → light k ≡ head_or kind.none (g k)
  pub heavy_end : (k : ℕ) → k < q → heavy k ≡ last_or kind.none (g k)

-- the words of R do: of a step on other words, by computing, too
abbrev pub Grouped : ℕ → Regions → (ℕ → ℕ) → (ℕ → List ℕ) → Type 0
Grouped q R c g = let O : OrderWords = order_words R in Groups q (order O) O.count O.light_end O.heavy_end c g

module _ (q : ℕ) (hq : q ≤ kind.largest) (R : Regions) (c : ℕ → ℕ) (g : ℕ → List ℕ) (o : Grouped q R c g) (r i : ℕ) (hi : i < q) where
  -- r in group i: the rows of its group before it and after it, and all that are lighter and heavier
  module _ (m : In r (g i)) where
    abbrev s : Split r (g i)
    s = split_at r (g i) m

    abbrev less : List ℕ
    less = joined g 0 i ++ s.left

    abbrev more : List ℕ
    more = s.right ++ above g i q

    count_row : R.client r kind.count - 1 ≡ i
    count_row = omega (arith, o.counted i r hi m)

    distinct : Distinct (s.left ++ r ∷ s.right)
    distinct =
        subst Distinct s.is
        (distinct_left (g i) _ (distinct_right (joined g 0 i) (g i ++ above g i q) (subst Distinct (parts g i q hi) o.linked.distinct)))

    linked : Linked q (order (order_words R)) (less ++ r ∷ more)
    linked = subst (Linked q (order (order_words R))) (whole q g r i hi s) o.linked

    near : (R.client r kind.lighter ≡ last_or kind.none less) × (R.client r kind.heavier ≡ head_or kind.none more)
    near = around r less more linked

    light_of : R.count i kind.light_end ≡ head_or kind.none (s.left ++ r ∷ s.right)
    light_of = o.light_end i hi ∙ ap (head_or kind.none) s.is

    heavy_of : R.count i kind.heavy_end ≡ last_or kind.none (s.left ++ r ∷ s.right)
    heavy_of = o.heavy_end i hi ∙ ap (last_or kind.none) s.is

    pub taken_grouped : Grouped q (take_out r R) c (but g i (without r (g i)))
    taken_grouped =
        record {
          linked = rw (left_out q g r i hi s) (unlink_linked q hq (order (order_words R)) r less more linked);
          counted = counted_out (λ x. R.client x kind.count) q g o.counted r i hi;
          sorted = counted_out c q g o.sorted r i hi;
          light_end = λ k h. rw count_row
              (of_but (λ v l. v ≡ head_or kind.none l) k i _ _ (without r (g i)) (g k)
              (λ e. rw (light_of, heavy_of, s.rest) (light_end_lem r (R.client r kind.heavier) s.left s.right (above g i q) distinct near.1)) (o.light_end k h));
          heavy_end = λ k h. rw count_row
              (of_but (λ v l. v ≡ last_or kind.none l) k i _ _ (without r (g i)) (g k)
              (λ e. rw (light_of, heavy_of, s.rest) (heavy_end_lem r (R.client r kind.lighter) (joined g 0 i) s.left s.right distinct near.0)) (o.heavy_end k h));
        }

    -- a row that is not in the list keeps its words
    pub taken_aside : (x f : ℕ) → NotIn x (kind.none ∷ joined g 0 q) → (take_out r R).client x f ≡ R.client x f
    taken_aside x f n =
        let near = neighbours o.linked r (in_joined g i q r hi m) in
        let away : (y : ℕ) → In y (kind.none ∷ joined g 0 q) → x ≡ y → ⊥ = λ y j. other x y (kind.none ∷ joined g 0 q) n j in
        simp (ne_eqb x (R.client r kind.lighter) (away _ near.0), ne_eqb x (R.client r kind.heavier) (away _ near.1), cond_same)

    -- raised, it comes to stand after all no heavier, itself left out
    pub raise_after_lem : raise_after r R ≡ last_or kind.none (joined (but g i (without r (g i))) 0 (suc i))
    raise_after_lem =
        let here : but g i (without r (g i)) i ≡ s.left ++ s.right = rw (eq-eqb i i refl) s.rest in
        rw (count_row, heavy_of, upto_suc (but g i (without r (g i))) i, below_but g i i (without r (g i)) (omega arith), here)
        (last_but r (R.client r kind.lighter) (joined g 0 i) s.left s.right distinct near.0)

    -- the heavier end of its group is one of the rows
    pub heavy_there : In (R.count i kind.heavy_end) (joined g 0 q)
    heavy_there = rw (o.heavy_end i hi) (in_joined g i q (last_or kind.none (g i)) hi (last_there r (g i) m))

    -- k is the group below: the rows from it on
    module _ (k : ℕ) (e : suc k ≡ i) where
      abbrev onward : List ℕ
      onward = g k ++ (g i ++ above g i q)

      onward_is : joined g 0 q ≡ joined g 0 k ++ onward
      onward_is = parts g i q hi ∙ rw (← e, upto_suc g k) (append_assoc (joined g 0 k) (g k) _)

      all : Linked q (order (order_words R)) (joined g 0 k ++ onward)
      all = subst (Linked q (order (order_words R))) onward_is o.linked

      below : Below q onward
      below = below_right q (joined g 0 k) onward all.below

      there : In r onward
      there = in_right r (g k) (g i ++ above g i q) (in_left r (g i) (above g i q) m)

      lower_before_lem : lower_before r R ≡ head_or kind.none onward
      lower_before_lem =
          let next : R.client r kind.count - 2 ≡ k = omega (arith, o.counted i r hi m) in
          rw (count_row, next, o.light_end i hi, o.light_end k (omega arith))
          (or_head q hq r (g k) (g i) (above g i q) (below_left q (g k) (g i ++ above g i q) below) m)

      pub lower_there : In (lower_before r R) (joined g 0 q)
      lower_there = rw (lower_before_lem, onward_is) (in_right _ (joined g 0 k) onward (head_some kind.none onward (omega (arith, without_length r onward there))))

      -- lowered to that group, it comes to stand after all lighter
      pub lower_after_lem : lower_after r R ≡ last_or kind.none (joined (but g i (without r (g i))) 0 k)
      lower_after_lem =
          rw (below_but g i k (without r (g i)) (omega arith))
          (ap (λ (x : ℕ). R.client x kind.lighter) lower_before_lem ∙ head_back (order (order_words R)) r (joined g 0 k) onward all there)

  -- r put in group i, after all lighter
  module _ (n e : ℕ) (he : e ≡ last_or kind.none (joined g 0 i)) where
    abbrev onto : List ℕ
    onto = g i ++ above g i q

    cut : Linked q (order (order_words R)) (joined g 0 i ++ onto)
    cut = subst (Linked q (order (order_words R))) (parts g i q hi) o.linked

    placed_after : after e R ≡ head_or kind.none onto
    placed_after = after_last q hq R e (joined g 0 i) onto cut he

    pub placed_grouped : n ≡ suc i → r < q → NotIn r (joined g 0 q) → Grouped q (put_in r n e R) (at c r n) (but g i (r ∷ g i))
    placed_grouped hn hr out =
        let row : n - 1 ≡ i = omega arith in
        record {
          linked = rw (parts_but g i q (r ∷ g i) hi)
              (insert_linked q hq (order (order_words R)) r e (after e R) (joined g 0 i) onto he placed_after (subst (NotIn r) (parts g i q hi) out) hr cut);
          counted = counted_put (λ x. R.client x kind.count) q g r i n hi hn out o.counted;
          sorted = counted_put c q g r i n hi hn out o.sorted;
          light_end = λ k h. rw row (of_but (λ v l. v ≡ head_or kind.none l) k i _ _ (r ∷ g i) (g k) (λ z. refl) (o.light_end k h));
          heavy_end = λ k h. rw row (of_but (λ v l. v ≡ last_or kind.none l) k i _ _ (r ∷ g i) (g k)
              (λ z. rw (o.heavy_end i hi) (or_last q hq r (g i) (below_left q (g i) (above g i q) (below_right q (joined g 0 i) onto cut.below)))) (o.heavy_end k h));
        }

    pub placed_aside : (x f : ℕ) → (x ≡ r → ⊥) → NotIn x (kind.none ∷ joined g 0 q) → (put_in r n e R).client x f ≡ R.client x f
    placed_aside x f a b =
        let near-e : In e (kind.none ∷ joined g 0 q) =
        subst (λ (y : ℕ). In y (kind.none ∷ joined g 0 q)) (sym he) (rw (parts g i q hi) (⊎_elim (λ z. inl z) (λ j. inr (in_left _ (joined g 0 i) onto j)) (last_in kind.none (joined g 0 i)))) in
        let near-l : In (after e R) (kind.none ∷ joined g 0 q) =
        subst (λ (y : ℕ). In y (kind.none ∷ joined g 0 q)) (sym placed_after) (rw (parts g i q hi) (⊎_elim (λ z. inl z) (λ j. inr (in_right _ (joined g 0 i) onto j)) (head_in kind.none onto))) in
        let away : (y : ℕ) → In y (kind.none ∷ joined g 0 q) → x ≡ y → ⊥ = λ y j. other x y (kind.none ∷ joined g 0 q) b j in
        simp (ne_eqb x r a, ne_eqb x e (away e near-e), ne_eqb x (after e R) (away (after e R) near-l), cond_same)
