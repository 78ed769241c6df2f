-- A join: the waiting items with one more at the end, and the free rows without the first.
use mathlib.Core.List.{List, [], ◌∷◌, ◌++◌, map, append_assoc}
use mathlib.Core.Path.{◌≡◌, refl, sym, subst}
use mathlib.Core.Logic.{inl, inr}
use Prim.Native.Nat.{ℕ, ◌≤◌, ◌<◌}
use native.Mathlib.Decide.{ℕ_discrete}
use native.Mathlib.Nat.{not-suc-le-zero}
use native.Mathlib.Omega.{arith}
use lib.ListN.{length, length-append}
use borrow.Author.Tests.{eq-eqb, ne_eqb}
use Rattle.table.specs.Kind as kind
use Rattle.table.specs.Regions.{Regions}
use Rattle.table.specs.Owners.{WindowWords, window_words}
use Rattle.table.proofs.Draw.{cond_same}
use Rattle.rules.specs.Rows.{head_or, last_or, rest, In, NotIn}
use Rattle.rules.specs.Linked as linked
use Rattle.rules.specs.Linked.{Linked}
use Rattle.rules.specs.Picture.{Item, item, item_row, own_rows}
use Rattle.rules.specs.Parts.{Own, Queued}
use Rattle.rules.proofs.Put.{put_last}
use Rattle.rules.proofs.Rows.{other, apart_right, distinct_right, below_right, last_in, all_snoc, map_snoc}
use Rattle.rules.proofs.Linked.{chain_so}
use Rattle.rules.proofs.Columns.{last_is}
use Rattle.rules.proofs.Look.{own_kept, own_out}
use Rattle.links.specs.Steps.{ended}
use Rattle.links.proofs.Lists.{insert_last, insert_apart}
use Rattle.window.specs.Steps.{joined}
use Rattle.window.proofs.Items.{own_snoc}
use Rattle.window.proofs.Ends.{own_ends, first_snoc, last_snoc}
use Rattle.window.proofs.Apart.{free_apart, free_own, owners_apart, blank_so, all_new}

module _ (q : ℕ) (hq : q ≤ kind.largest) (R : Regions) (w : List Item) (free : List ℕ) (c ticket e : ℕ) (hc : c < q) (he : e ≡ last_or kind.none (own_rows c w))
    (k : Queued q (window_words R) w (R.header kind.free_item_at ∷ free)) where
  -- the row that is taken, the item in it, and the table then
  abbrev r : ℕ
  r = R.header kind.free_item_at

  abbrev new : Item
  new = item r c ticket

  abbrev S : Regions
  S = joined c ticket e R

  abbrev W : WindowWords
  W = window_words R

  abbrev X : WindowWords
  X = window_words S

  row : r < q
  row = (below_right q (map item_row w) (r ∷ free) k.each.below).0

  fresh : NotIn r (map item_row w)
  fresh = apart_right r (map item_row w) (r ∷ free) k.each.distinct (inl refl)

  in_window : Linked q (linked.window X) (map item_row w ++ r ∷ [])
  in_window = insert_last q hq (linked.window W) r (map item_row w) fresh row k.window

  -- the newest of the client before, a row of its own or none
  before : In e (kind.none ∷ own_rows c w)
  before = subst (λ (y : ℕ). In y (kind.none ∷ own_rows c w)) (sym he) (last_in kind.none (own_rows c w))

  -- the free rows that are left are as they were
  free_kept : (x f : ℕ) → In x free → R.item x f ≡ S.item x f
  free_kept x f i =
      let not-r : x ≡ r → ⊥ = λ z. other r x free (distinct_right (map item_row w) (r ∷ free) k.each.distinct).0 i (sym z) in
      let last : In (R.header kind.back_at) (kind.none ∷ map item_row w) =
      subst (λ (y : ℕ). In y (kind.none ∷ map item_row w)) (sym (last_is k.window)) (last_in kind.none (map item_row w)) in
      simp (
        ne_eqb x r not-r,
        ne_eqb x (R.header kind.back_at) (free_apart hq k x _ (inr i) last),
        ne_eqb x e (free_own hq k c x e (inr i) before),
        ne_eqb x kind.none (free_apart hq k x _ (inr i) (inl refl)),
        cond_same,
      )

  -- the client's own list, and everybody else's
  mine : Own q X c (own_rows c w ++ r ∷ [])
  mine =
      let xs = own_rows c w in
      let u = k.own c hc in
      let L = ended (linked.own c W) (head_or kind.none xs) (last_or kind.none xs) in
      record {
        linked = rw he (own_ends (insert_last q hq L r xs (own_out c r w fresh) row u.linked));
        oldest = simp (eq-eqb c c refl) (first_snoc q hq e r (R.client c kind.oldest) xs u.linked.below he u.oldest);
        newest = simp (eq-eqb c c refl) (sym (last_snoc 0 r xs));
      }

  others : (d : ℕ) → d < q → (c ≡ d → ⊥) → Own q X d (own_rows d w)
  others d hd n =
      let xs = own_rows d w in
      let u = k.own d hd in
      record {
        linked = insert_apart q hq (own_rows c w) xs (owners_apart hq k c d n) (linked.own d W) r e kind.none _ _ before (inl refl) (own_out d r w fresh) u.linked;
        oldest = simp (ne_eqb d c (λ z. n (sym z))) u.oldest;
        newest = simp (ne_eqb d c (λ z. n (sym z))) u.newest;
      }

  taken : Queued q X (w ++ new ∷ []) free
  taken =
      record {
        waiting = omega (arith, k.waiting, length-append w (new ∷ []));
        window = rw (map_snoc item_row w new) in_window;
        owner = all_new W.owner (λ i. i.client) w new fresh k.owner;
        ticket = all_new W.ticket (λ i. i.ticket) w new fresh k.ticket;
        owners = all_snoc _ w new k.owners hc;
        own = λ d hd.
            elim (ℕ_discrete c d) [
              | yes z ↦ rw (own_snoc d w new z) (subst (λ (y : ℕ). Own q X y (own_rows y w ++ r ∷ [])) z mine)
              | no n ↦ rw (own_kept d (put_last new w) n) (others d hd n)
            ];
        each = rw (map_snoc item_row w new, append_assoc) k.each;
        chain = chain_so W.later X.later (W.later r) (W.later r) free refl (λ x i. free_kept x kind.later i) k.chain.1;
        idle = λ x i. blank_so R S x (λ f. free_kept x f i) (k.idle x (inr i));
      }

pub joined_queued : {q : ℕ} {w : List Item} {free : List ℕ} (R : Regions) → q ≤ kind.largest → (c ticket e : ℕ) → c < q
    → e ≡ last_or kind.none (own_rows c w) → 1 ≤ length free → Queued q (window_words R) w free
    → Queued q (window_words (joined c ticket e R)) (w ++ item (head_or kind.none free) c ticket ∷ []) (rest free)
joined_queued {free = []} R hq c ticket e hc he h k = absurd (not-suc-le-zero h)
joined_queued {q} {w} {free = x ∷ free} R hq c ticket e hc he h k =
    let z = k.chain.0 in
    subst (λ (y : ℕ). Queued q (window_words (joined c ticket e R)) (w ++ item y c ticket ∷ []) free) z
    (taken q hq R w free c ticket e hc he (subst (λ (y : ℕ). Queued q (window_words R) w (y ∷ free)) (sym z) k))
