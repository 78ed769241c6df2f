-- A leave: the waiting items without one, whose row is the first free one.
use mathlib.Core.List.{List, ◌∷◌, map}
use mathlib.Core.Path.{◌≡◌, refl, sym, ap, ◌∙◌, subst}
use mathlib.Core.Logic.{⊎_elim, inl, inr}
use Prim.Native.Nat.{ℕ, suc, ◌≤◌, ◌<◌}
use native.Mathlib.Decide.{ℕ_discrete}
use native.Mathlib.Omega.{arith}
use lib.Dec.{eqb}
use lib.ListN.{length}
use borrow.Author.Tests.{eq-eqb, ne_eqb}
use Rattle.table.specs.Kind as kind
use Rattle.table.specs.Regions.{Regions}
use Rattle.table.specs.Owners.{WindowWords, window_words}
use Rattle.table.proofs.Draw.{cond_same}
use Rattle.rules.specs.Rows.{In, NotIn}
use Rattle.rules.specs.Linked as linked
use Rattle.rules.specs.Linked.{Links, Linked}
use Rattle.rules.specs.Picture.{Item, item_row, own_rows}
use Rattle.rules.specs.Steps.{without_item}
use Rattle.rules.specs.Parts.{Own, Queued}
use Rattle.rules.proofs.Put.{Put, here, put_map, put_first, put_second, put_length, put_in, put_there, put_fresh, put_once, take_all, take_distinct}
use Rattle.rules.proofs.Linked.{chain_so}
use Rattle.rules.proofs.Columns.{first_is, last_is}
use Rattle.rules.proofs.Look.{find, own_put, own_kept, own_out}
use Rattle.links.specs.Steps.{unlink}
use Rattle.links.proofs.Lists.{elsewhere, unlink_in_lem, unlink_apart, neighbours}
use Rattle.window.specs.Steps.{alone, left}
use Rattle.window.proofs.Items.{put_without, item_out}
use Rattle.window.proofs.Ends.{own_ends, alone_is, left_first, left_last}
use Rattle.window.proofs.Owner.{own_list}
use Rattle.window.proofs.Apart.{free_apart, free_own, owners_apart, Blank, blank_so, all_at}

-- a row goes out of a linked list
unlink_put : (q : ℕ) → q ≤ kind.largest → (L : Links) {r : ℕ} {xs ys : List ℕ} → Put r xs ys → Linked q L ys → Linked q (unlink r L) xs
unlink_put q hq L {r} {xs} {ys} p k = subst (Linked q (unlink r L)) (put_without p k.distinct) (unlink_in_lem q hq L r ys (put_in r p (inl refl)) k)

module _ (q : ℕ) (hq : q ≤ kind.largest) (R : Regions) (i : Item) (v w : List Item) (free : List ℕ) (p : Put i v w) (k : Queued q (window_words R) w free) where
  abbrev r : ℕ
  r = i.row

  -- the client's row, as the item's word says it
  abbrev c : ℕ
  c = R.item r kind.owner

  -- the words now, and the table then
  abbrev W : WindowWords
  W = window_words R

  abbrev S : Regions
  S = left r R

  abbrev X : WindowWords
  X = window_words S

  owner_is : c ≡ i.client
  owner_is = (take_all (λ j. W.owner j.row ≡ j.client) p k.owner).0

  own_rows_lem : Put r (own_rows c v) (own_rows c w)
  own_rows_lem = own_put c p (sym owner_is)

  -- in its lists before, in the window no more
  there : In r (map item_row w)
  there = put_there item_row p

  own_in : In r (own_rows c w)
  own_in = put_in r own_rows_lem (inl refl)

  gone : NotIn r (map item_row v)
  gone = put_fresh item_row p k.window.distinct

  -- the free rows are as they were
  free_kept : (x f : ℕ) → In x free → R.item x f ≡ S.item x f
  free_kept x f j =
      let near = neighbours k.window r there in
      let own-near = neighbours (own_list k c r own_in) r own_in in
      simp (
        ne_eqb x r (free_apart hq k x r j (inr there)),
        ne_eqb x (R.item r kind.earlier) (free_apart hq k x _ j near.0),
        ne_eqb x (R.item r kind.later) (free_apart hq k x _ j near.1),
        ne_eqb x (R.item r kind.own_earlier) (free_own hq k c x _ j own-near.0),
        ne_eqb x (R.item r kind.own_later) (free_own hq k c x _ j own-near.1),
        cond_same,
      )

  -- and the row is one of them
  freed : Blank X r
  freed = simp (eq-eqb r r refl) (refl, refl, refl, refl, refl)

  -- the client's own list, and everybody else's
  mine : Own q X c (own_rows c v)
  mine =
      let xs = own_rows c v in
      let u = own_list k c r own_in in
      let out = (take_distinct own_rows_lem u.distinct).0 in
      let cut = unlink_put q hq (linked.own c W) own_rows_lem u in
      let only : alone (W.own_earlier r) (W.own_later r) ≡ eqb (suc (length xs)) 1 = alone_is q hq r own_in u ∙ ap (λ (n : ℕ). eqb n 1) (put_length own_rows_lem) in
      record {
        linked = elsewhere r 0 r 0 out out (own_ends cut);
        oldest = simp (eq-eqb c c refl) (rw (only, first_is cut) (left_first xs));
        newest = simp (eq-eqb c c refl) (rw (only, last_is cut) (left_last xs));
      }

  others : (d : ℕ) → d < q → (c ≡ d → ⊥) → Own q X d (own_rows d w)
  others d hd n =
      let xs = own_rows d w in
      let u = k.own d hd in
      let stranger : NotIn r xs = rw (own_kept d p (λ z. n (owner_is ∙ z))) (own_out d r v gone) in
      record {
        linked = elsewhere r 0 r 0 stranger stranger (unlink_apart q hq (own_rows c w) xs (owners_apart hq k c d n) (linked.own c W) r _ _ own_in (own_list k c r own_in) u.linked);
        oldest = simp (ne_eqb d c (λ z. n (sym z))) u.oldest;
        newest = simp (ne_eqb d c (λ z. n (sym z))) u.newest;
      }

  left_put : Queued q X v (r ∷ free)
  left_put =
      record {
        waiting = omega (arith, k.waiting, put_length p);
        window = elsewhere r 0 r W.free_item gone gone (unlink_put q hq (linked.window W) (put_map item_row p) k.window);
        owner = all_at W.owner (λ j. j.client) r 0 v gone (take_all _ p k.owner).1;
        ticket = all_at W.ticket (λ j. j.ticket) r 0 v gone (take_all _ p k.ticket).1;
        owners = (take_all _ p k.owners).1;
        own = λ d hd.
            elim (ℕ_discrete c d) [
              | yes z ↦ subst (λ (y : ℕ). Own q X y (own_rows y v)) z mine
              | no n ↦ rw (sym (own_kept d p (λ z. n (owner_is ∙ z)))) (others d hd n)
            ];
        each = put_once q (put_first free (put_map item_row p)) (put_second (map item_row v) here) k.each;
        chain = (refl, chain_so W.later X.later W.free_item (X.later r) free (simp (eq-eqb r r refl)) (λ x j. free_kept x kind.later j) k.chain);
        idle = λ x. ⊎_elim (λ e. rw e freed) (λ j. blank_so R S x (λ f. free_kept x f j) (k.idle x j));
      }

pub left_queued : {q : ℕ} {w : List Item} {free : List ℕ} (R : Regions) → q ≤ kind.largest → (r : ℕ) → In r (map item_row w) → Queued q (window_words R) w free
    → Queued q (window_words (left r R)) (without_item r w) (r ∷ free)
left_queued {q} {w} {free} R hq r h k =
    let f = find item_row r w h in
    subst (λ (y : ℕ). Queued q (window_words (left y R)) (without_item y w) (y ∷ free)) f.is
    (rw (item_out f.put k.window.distinct) (left_put q hq R f.one f.others w free f.put k))
