-- A client whose count has been read: what raise, lower and remove ask, and that the writes of raise and lower are the steps.
use mathlib.Core.List.{List}
use mathlib.Core.Path.{◌≡◌, sym, ap, ap₂, ◌∙◌, subst}
use Prim.Native.Nat.{ℕ, suc, ◌+◌, ◌-◌, ◌≤◌, ◌<◌}
use native.Mathlib.Omega.{arith}
use lib.Dec.{lit<}
use Rattle.table.specs.Kind as kind
use Rattle.table.specs.Regions.{Regions, words, client_word, count_word, Writes, set_client}
use Rattle.table.proofs.Write.{then, so_read, read_client, read_count}
use Rattle.rules.specs.Rows.{In}
use Rattle.rules.proofs.Rows.{in_below}
use Rattle.order.specs.Moves.{or_else, leave_group, enter_group, move_after, move_before, raised, lower_before, lowered}
use Rattle.order.specs.Asks.{Drawn, Listed, Strung}
use Rattle.order.proofs.Bridge.{Out, taken_out, lower_apart}

module _ {q : ℕ} {t : List ℕ} {r : ℕ} {F : ℕ → Type 0} (hq : q ≤ kind.largest) (D : Drawn q t (Listed q r F)) where
  abbrev S : Regions
  S = D.regs

  out : Out q S D.holds.rows D.holds.count r
  out = taken_out S hq D.holds.ordered r D.holds.there

  pub client_row_lem : r < q
  client_row_lem = out.row

  -- once the group of count row k is left, r and another client e are still in the list
  pub strung : (k : ℕ) {a : List ℕ} → Writes q t a (leave_group r k) → (e : ℕ) → In e D.holds.rows → Drawn q a (Strung q r e)
  strung k w e i =
      record {
        regs = leave_group r k S;
        drawn = w.drawn S D.drawn;
        holds = record { rows = D.holds.rows; linked = D.holds.ordered.linked; there = D.holds.there; other = i };
      }

  module _ {x : ℕ} (hx : x ≡ client_word t q r kind.count) where
    count_of : (R : Regions) → t ≡ words q R → x ≡ R.client r kind.count
    count_of R d = hx ∙ read_client q R r kind.count d client_row_lem (lit< tt)

    count_is : x ≡ suc out.group
    count_is = count_of S D.drawn ∙ out.counted

    pub count_in : (1 ≤ x) × (x ≤ q)
    count_in = (omega (arith, count_is), omega (arith, count_is, out.within))

    -- what is known of the count
    pub count_known : F x
    count_known = subst F (out.sorted ∙ sym count_is) D.holds.counts

    -- raised
    module _ {e : ℕ} (he : e ≡ count_word t q (x - 1) kind.heavy_end) {a : List ℕ} (w : Writes q t a (leave_group r (x - 1))) where
      end_of : (R : Regions) → t ≡ words q R → e ≡ R.count (x - 1) kind.heavy_end
      end_of R d = he ∙ read_count q R (x - 1) kind.heavy_end d (omega (arith, count_in)) (lit< tt)

      pub raise_asks : Drawn q a (Strung q r e)
      raise_asks =
          let row : x - 1 ≡ out.group = omega (arith, count_is) in
          strung (x - 1) w e (rw (end_of S D.drawn, row) out.heavy)

      pub raise_writes : {b c d : List ℕ} → Writes q a b (move_after r e) → Writes q b c (set_client r kind.count (x + 1)) → Writes q c d (enter_group r (x - 1 + 1)) → Writes q t d (raised r)
      raise_writes y z v =
          so_read (then (then (then w y) z) v)
          (λ R d.
          let n = R.client r kind.count in
          let is = count_of R d in
          let row : x - 1 + 1 ≡ n + 1 - 1 = omega (arith, is, count_in) in
          ap₂ (λ (k f : ℕ). enter_group r k (set_client r kind.count (x + 1) (move_after r f (leave_group r (x - 1) R)))) row (end_of R d ∙ ap (λ (m : ℕ). R.count (m - 1) kind.heavy_end) is)
          ∙ ap (λ (m : ℕ). enter_group r (n + 1 - 1) (set_client r kind.count (m + 1) (move_after r (R.count (n - 1) kind.heavy_end) (leave_group r (m - 1) R)))) is)

    -- lowered
    module _ (two : 2 ≤ x) {l : ℕ} (hl : l ≡ or_else (count_word t q (x - 2) kind.light_end) (count_word t q (x - 2 + 1) kind.light_end)) {a : List ℕ} (w : Writes q t a (leave_group r (x - 2 + 1))) where
      next : x - 2 + 1 ≡ x - 1
      next = omega arith

      before_of : (R : Regions) → t ≡ words q R → l ≡ lower_before r R
      before_of R d =
          hl
          ∙ ap₂ or_else (read_count q R (x - 2) kind.light_end d (omega (arith, count_in)) (lit< tt)) (read_count q R (x - 2 + 1) kind.light_end d (omega (arith, count_in)) (lit< tt))
          ∙ rw (next, count_of R d)

      pub lower_asks : Drawn q a (Strung q r l) × (client_word a q l kind.lighter ≡ r → ⊥)
      lower_asks =
          let is = before_of S D.drawn in
          let below : suc (out.group - 1) ≡ out.group = omega (arith, count_is) in
          let there : In l D.holds.rows = rw is (out.lower_row (out.group - 1) below) in
          let low = in_below q D.holds.rows D.holds.ordered.linked.below l there in
          let same = read_client q (leave_group r (x - 2 + 1) S) l kind.lighter (w.drawn S D.drawn) low (lit< tt) in
          (strung (x - 2 + 1) w l there, λ z. lower_apart hq out (out.group - 1) below (ap (λ (y : ℕ). S.client y kind.lighter) (sym is) ∙ sym same ∙ z))

      pub lower_writes : {b c d : List ℕ} → Writes q a b (move_before r l) → Writes q b c (set_client r kind.count (x - 1)) → Writes q c d (enter_group r (x - 2)) → Writes q t d (lowered r)
      lower_writes y z v =
          so_read (then (then (then w y) z) v)
          (λ R d.
          let n = R.client r kind.count in
          let is = count_of R d in
          let row : x - 2 ≡ n - 1 - 1 = omega (arith, is) in
          ap₂ (λ (k f : ℕ). enter_group r k (set_client r kind.count (x - 1) (move_before r f (leave_group r (x - 2 + 1) R)))) row (before_of R d)
          ∙ ap₂ (λ (m k : ℕ). enter_group r (n - 1 - 1) (set_client r kind.count (m - 1) (move_before r (lower_before r R) (leave_group r k R)))) is (next ∙ ap (λ (m : ℕ). m - 1) is))
