-- The order of clients by the list and by its groups: from one to the other, and a client taken out.
use mathlib.Core.List.{List, ◌∷◌, ◌++◌, map}
use mathlib.Core.Path.{◌≡◌, refl, sym, ap, ◌∙◌, subst}
use Prim.Native.Nat.{ℕ, suc, ◌≤◌, ◌<◌}
use native.Mathlib.Omega.{arith}
use lib.ListN.{length}
use Rattle.table.specs.Kind as kind
use Rattle.table.specs.Regions.{Regions}
use Rattle.table.specs.Owners.{OrderWords, order_words}
use Rattle.rules.specs.Rows.{head_or, last_or, without, In, NotIn, Once, Rising}
use Rattle.rules.specs.Linked.{Linked, Chain, order}
use Rattle.rules.specs.Draw.{group}
use Rattle.rules.specs.Parts.{Ordered}
use Rattle.rules.proofs.Rows.{other, in_right, notin_left, apart_right, in_below, last_in, gone, split_at}
use Rattle.rules.proofs.Linked.{chain_so}
use Rattle.order.specs.Moves.{take_out, raise_after, lower_before, lower_after}
use Rattle.order.proofs.Joined.{joined, but, parts, among}
use Rattle.order.proofs.Sorted.{groups, group_in, joined_groups, group_joined, rising_joined, without_joined}
use Rattle.order.proofs.Grouped.{Grouped, taken_grouped, taken_aside, raise_after_lem, heavy_there, lower_there, lower_after_lem}

-- the free rows: chained from h on, with zeros in this layer's other words
pub record Spare (O : OrderWords) (h : ℕ) (free : List ℕ) : Type 0 where
  pub chain : Chain O.heavier h free
  pub idle : (r : ℕ) → In r free → (O.id r ≡ 0) × (O.count r ≡ 0) × (O.lighter r ≡ 0)

-- rows whose words stay
pub spare_so : (R S : Regions) {h : ℕ} {free : List ℕ} → ((x f : ℕ) → In x free → R.client x f ≡ S.client x f) → Spare (order_words R) h free → Spare (order_words S) h free
spare_so R S {h} {free} e s =
    record {
      chain = chain_so _ _ h h free refl (λ x i. e x kind.heavier i) s.chain;
      idle = λ x i.
          let (id, count, lighter) = s.idle x i in
          (sym (e x kind.id i) ∙ id, sym (e x kind.count i) ∙ count, sym (e x kind.lighter i) ∙ lighter);
    }

-- by the list and by its groups

pub from_groups : {q : ℕ} (R : Regions) {n : ℕ → ℕ} {g : ℕ → List ℕ} {free : List ℕ} (rows : List ℕ) → Grouped q R n g → joined g 0 q ≡ rows
    → R.header kind.clients_at ≡ length rows → Once q (rows ++ free) → Spare (order_words R) (R.header kind.free_client_at) free → Ordered q (order_words R) rows n free
from_groups {q} R {n} {g} rows o is number each spare =
    let same : (k : ℕ) → k < q → g k ≡ group n (suc k) rows = λ k h. sym (ap (group n (suc k)) (sym is) ∙ group_joined n q g o.sorted k h) in
    record {
      number = number;
      linked = subst (Linked q (order (order_words R))) is o.linked;
      counted = λ r i. let a = among g 0 q r (rw is i) in o.counted a.group r (omega (arith, a.most)) a.there ∙ sym (o.sorted a.group r (omega (arith, a.most)) a.there);
      rising = subst (λ (l : List ℕ). Rising 1 (map n l)) is (rising_joined n q g o.sorted q 0 1 (omega arith) (omega arith));
      most = λ r i. let a = among g 0 q r (rw is i) in omega (arith, a.most, o.sorted a.group r (omega (arith, a.most)) a.there);
      light_end = λ k h. o.light_end k h ∙ ap (head_or kind.none) (same k h);
      heavy_end = λ k h. o.heavy_end k h ∙ ap (last_or kind.none) (same k h);
      each = each;
      chain = spare.chain;
      idle = spare.idle;
    }

module _ {q : ℕ} (R : Regions) {rows : List ℕ} {n : ℕ → ℕ} {free : List ℕ} (o : Ordered q (order_words R) rows n free) where
  pub in_order : joined (groups n rows) 0 q ≡ rows
  in_order = joined_groups n q 1 rows (omega arith) o.rising o.most

  pub to_groups : Grouped q R n (groups n rows)
  to_groups =
      record {
        linked = rw in_order o.linked;
        counted = λ k x h i. let w = group_in n (suc k) x rows i in o.counted x w.0 ∙ w.1;
        sorted = λ k x h i. (group_in n (suc k) x rows i).1;
        light_end = o.light_end;
        heavy_end = o.heavy_end;
      }

-- r, one of the clients, is taken out of its group: what is known then
pub record Out (q : ℕ) (R : Regions) (rows : List ℕ) (n : ℕ → ℕ) (r : ℕ) : Type 0 where
  pub group : ℕ
  pub others : ℕ → List ℕ
  pub row : r < q
  pub within : group < q
  pub counted : R.client r kind.count ≡ suc group
  pub sorted : n r ≡ suc group
  pub taken : Grouped q (take_out r R) n others
  pub rest : joined others 0 q ≡ without r rows
  pub gone : NotIn r (joined others 0 q)
  pub aside : (x f : ℕ) → NotIn x (kind.none ∷ rows) → (take_out r R).client x f ≡ R.client x f
  pub heavy : In (R.count group kind.heavy_end) rows
  pub raise : raise_after r R ≡ last_or kind.none (joined others 0 (suc group))
  pub lower : (k : ℕ) → suc k ≡ group → lower_after r R ≡ last_or kind.none (joined others 0 k)
  pub lower_row : (k : ℕ) → suc k ≡ group → In (lower_before r R) rows

pub taken_out : {q : ℕ} (R : Regions) {rows : List ℕ} {n : ℕ → ℕ} {free : List ℕ} → q ≤ kind.largest → Ordered q (order_words R) rows n free → (r : ℕ) → In r rows → Out q R rows n r
taken_out {q} R {rows} {n} hq o r there =
    let g = groups n rows in
    let G = to_groups R o in
    let is = in_order R o in
    let a = among g 0 q r (rw is there) in
    let i = a.group in
    let h : i < q = omega (arith, a.most) in
    let d = o.linked.distinct in
    let rest = sym (without_joined q g r i h (split_at r (g i) a.there) (rw is d)) ∙ ap (without r) is in
    record {
      group = i;
      others = but g i (without r (g i));
      row = in_below q rows o.linked.below r there;
      within = h;
      counted = G.counted i r h a.there;
      sorted = G.sorted i r h a.there;
      taken = taken_grouped q hq R n g G r i h a.there;
      rest = rest;
      gone = rw rest (gone r rows there d);
      aside = λ x f n. taken_aside q hq R _ g G r i h a.there x f (rw is n);
      heavy = rw is at (heavy_there q hq R n g G r i h a.there);
      raise = raise_after_lem q hq R n g G r i h a.there;
      lower = lower_after_lem q hq R n g G r i h a.there;
      lower_row = λ k e. rw is at (lower_there q hq R n g G r i h a.there k e);
    }

-- lowered, r does not come to stand after itself
pub lower_apart : {q : ℕ} {R : Regions} {rows : List ℕ} {n : ℕ → ℕ} {r : ℕ} → q ≤ kind.largest → (o : Out q R rows n r) (k : ℕ) → suc k ≡ o.group → lower_after r R ≡ r → ⊥
lower_apart {q} {r = r} hq o k e z =
    let less = joined o.others 0 k in
    other r (last_or kind.none less) (kind.none ∷ less) (λ u. omega (arith, o.row), notin_left r less _ (rw (parts o.others k q (omega (arith, o.within))) at o.gone))
    (last_in kind.none less) (sym z ∙ o.lower k e)

-- a free row is not in the list
pub free_aside : {q : ℕ} {O : OrderWords} {rows : List ℕ} {n : ℕ → ℕ} {free : List ℕ} → q ≤ kind.largest → Ordered q O rows n free → (x : ℕ) → In x free → NotIn x (kind.none ∷ rows)
free_aside {q} {rows = rows} {free = free} hq o x i =
    (λ e. omega (arith, in_below q (rows ++ free) o.each.below x (in_right x rows free i)), apart_right x rows free o.each.distinct i)
