-- A client moves in the list: where it stood it comes in again with no word altered, so the functions that leave it there, and those that move it, take the same step.
use mathlib.Core.List.{List}
use mathlib.Core.Path.{◌≡◌, refl, sym, ap, ap₂, ◌∙◌, subst}
use Prim.Native.Nat.{ℕ, ◌≤◌, ◌<◌}
use native.Mathlib.Decide.{ℕ_discrete}
use native.Mathlib.Omega.{arith}
use lib.Dec.{lit<}
use borrow.Author.Tests.{eq-eqb, ne_eqb}
use Rattle.table.specs.Kind as kind
use Rattle.table.specs.Regions.{Regions, words, client_word, Writes}
use Rattle.table.specs.Owners.{order_words}
use Rattle.table.proofs.Whole.{words_agree}
use Rattle.table.proofs.Write.{nothing, then, so_read, read_client}
use Rattle.rules.specs.Rows.{without, In}
use Rattle.rules.specs.Linked.{Link, Linked, order}
use Rattle.rules.proofs.Rows.{in_below, without_in}
use Rattle.links.specs.Strands.{the_order, unlink_in, insert_in}
use Rattle.links.proofs.Lists.{linked_so, unlink_in_lem, neighbour_links, there_and_back}
use Rattle.links.proofs.Strands.{order_lens, so_drawn}
use Rattle.links.proofs.Stays.{linked_in_place}
use Rattle.order.specs.Moves.{after, move_to, move_after, move_before}
use Rattle.order.specs.Asks.{Drawn, Strung}

-- once r is out, the row after the one before it is the one that was after it
after_out : (r : ℕ) (R : Regions) → after (R.client r kind.lighter) (unlink_in the_order r R) ≡ R.client r kind.heavier
after_out r R =
    let e = R.client r kind.lighter in
    elim (ℕ_discrete e kind.none) [
      | yes z ↦ rw (eq-eqb e kind.none z, eq-eqb kind.none e (sym z))
      | no n ↦ rw (ne_eqb e kind.none n, eq-eqb e e refl)
    ]

-- the row r, and e, which may be r
module _ {q : ℕ} (hq : q ≤ kind.largest) {t : List ℕ} {r e : ℕ} (D : Drawn q t (Strung q r e)) where
  abbrev rows : List ℕ
  rows = D.holds.rows

  row : (x : ℕ) → In x rows → x < q
  row = in_below q rows D.holds.linked.below

  pub unlink_asks : (r < q) × (Link q (client_word t q r kind.lighter) × Link q (client_word t q r kind.heavier))
  unlink_asks =
      let hr = row r D.holds.there in
      rw (read_client q D.regs r kind.lighter D.drawn hr (lit< tt), read_client q D.regs r kind.heavier D.drawn hr (lit< tt))
      (hr, neighbour_links D.holds.linked r D.holds.there)

  -- whatever regions the table is drawn from
  module _ (R : Regions) (d : t ≡ words q R) where
    linked : Linked q (order (order_words R)) rows
    linked =
        let a = words_agree (sym D.drawn ∙ d) in
        linked_so (a.header kind.lightest_at (lit< tt)) (a.header kind.heaviest_at (lit< tt))
        (λ x i. (a.client x kind.lighter (row x i) (lit< tt), a.client x kind.heavier (row x i) (lit< tt))) D.holds.linked

    in_place : words q R ≡ words q (move_to r (R.client r kind.lighter) R)
    in_place =
        sym
        (ap (λ (l : ℕ). words q (insert_in the_order r (R.client r kind.lighter) l (unlink_in the_order r R))) (after_out r R)
        ∙ linked_in_place (order_lens q hq) (lit< tt) R rows r linked D.holds.there)

    -- e, where it is another row, once r is out
    module _ (n : e ≡ r → ⊥) where
      abbrev U : Regions
      U = unlink_in the_order r R

      others : Linked q (order (order_words U)) (without r rows)
      others = unlink_in_lem q hq (order (order_words R)) r rows D.holds.there linked

      still : In e (without r rows)
      still = without_in r e rows n D.holds.other

      out_links : Link q (U.client e kind.lighter) × Link q (U.client e kind.heavier)
      out_links = neighbour_links others e still

      -- the row before it is the one that was, if that is not r, and the row after that one is it
      back_stays : (R.client e kind.lighter ≡ r → ⊥) → U.client e kind.lighter ≡ R.client e kind.lighter
      back_stays a =
          let some : e ≡ kind.none → ⊥ = λ z. omega (arith, row e D.holds.other) in
          let next : e ≡ R.client r kind.heavier → ⊥ = λ z. a (rw (← z, ne_eqb e kind.none some) at (there_and_back q hq (order (order_words R)) rows r linked D.holds.there).1) in
          rw (ne_eqb e (R.client r kind.heavier) next)

      back_on : after (U.client e kind.lighter) U ≡ e
      back_on = (there_and_back q hq (order (order_words U)) (without r rows) e others still).0

  -- r stays
  pub stays_after : e ≡ r → Writes q t t (move_after r e)
  stays_after z = so_drawn (nothing q t) (λ R d. rw (eq-eqb e r z) (in_place R d))

  pub stays_before : e ≡ r → Writes q t t (move_before r e)
  stays_before z = so_drawn (nothing q t) (λ R d. subst (λ (l : ℕ). words q R ≡ words q (move_before r l R)) (sym z) (in_place R d))

  -- r goes out, and comes in next to e
  module _ (n : e ≡ r → ⊥) {a : List ℕ} (w : Writes q t a (unlink_in the_order r)) where
    pub insert_asks : (r < q) × ((e < q) × (Link q (client_word a q e kind.lighter) × Link q (client_word a q e kind.heavier)))
    insert_asks =
        let he = row e D.holds.other in
        let U = unlink_in the_order r D.regs in
        let d = w.drawn D.regs D.drawn in
        rw (read_client q U e kind.lighter d he (lit< tt), read_client q U e kind.heavier d he (lit< tt))
        (row r D.holds.there, (he, out_links D.regs D.drawn n))

    pub goes_after : {b : List ℕ} → Writes q a b (λ R. insert_in the_order r e (R.client e kind.heavier) R) → Writes q t b (move_after r e)
    goes_after z = so_read (then w z) (λ R d. rw (ne_eqb e r n, ne_eqb e kind.none (λ u. omega (arith, row e D.holds.other))))

    pub goes_before : {b : List ℕ} → (client_word t q e kind.lighter ≡ r → ⊥) → Writes q a b (λ R. insert_in the_order r (R.client e kind.lighter) e R) → Writes q t b (move_before r e)
    goes_before apart z =
        so_read (then w z)
        (λ R d.
        let U : Regions = unlink_in the_order r R in
        let stays = back_stays R d n (λ u. apart (read_client q R e kind.lighter d (row e D.holds.other) (lit< tt) ∙ u)) in
        ap₂ (λ (x y : ℕ). insert_in the_order r x y U) stays (sym (back_on R d n) ∙ ap (λ (x : ℕ). after x U) stays))
