-- The walk of a listing, by what is still to do: the rows that it has yet to read, and the pairs that it has yet to store.
use mathlib.Core.List.{List, ◌++◌}
use mathlib.Core.Path.{◌≡◌, refl, ap, ◌∙◌}
use Prim.Native.Nat.{ℕ, zero, suc, ◌+◌, ◌*◌, ◌-◌, ◌≤◌, ◌<◌}
use native.Mathlib.Nat.{zero-add}
use native.Mathlib.Numerals.{add-one}
use native.Mathlib.Omega.{arith}
use lib.ListN.{length, set, drop, length-set}
use lib.Seq.{sets, sets-eq}
use Rattle.table.specs.Kind as kind
use Rattle.table.specs.Regions.{client_word}
use Rattle.rules.specs.Rows.{Below}
use Rattle.questions.specs.Walk.{clients_from, pairs_from}

-- after i pairs, at row r
pub record Walked (q : ℕ) (t : List ℕ) (link n first : ℕ) (before after : List ℕ) (r i : ℕ) : Type 0 where
  pub few : i ≤ n
  pub low : Below q (clients_from q t link (n - i) r)
  pub same : length after ≡ length before
  pub stores : sets after (2 * i) (pairs_from q t link (n - i) r) ≡ sets before 0 (pairs_from q t link n first)

length_pairs : (q : ℕ) (t : List ℕ) (link n r : ℕ) → length (pairs_from q t link n r) ≡ 2 * n
length_pairs q t link zero r = refl
length_pairs q t link (suc n) r = omega (arith, length_pairs q t link n (client_word t q r link))

module _ {q : ℕ} {t : List ℕ} {link n first : ℕ} {before after : List ℕ} {r i : ℕ} (w : Walked q t link n first before after r i) where
  one_less : i < n → n - i ≡ suc (n - (i + 1))
  one_less h = omega arith

  pub walk_next : {a b e : ℕ} → i < n → a ≡ client_word t q r kind.id → b ≡ client_word t q r kind.count → e ≡ client_word t q r link
      → Walked q t link n first before (set (set after (2 * i) a) (2 * i + 1) b) e (i + 1)
  walk_next h p s l =
      let two : 2 * (i + 1) ≡ suc (suc (2 * i)) = omega arith in
      rw (p, s, l)
      (record {
        few = omega arith;
        low = (rw (one_less h) at w.low).1;
        same = simp length-set w.same;
        stores = rw (two, add-one (2 * i)) (rw (one_less h) at w.stores);
      })

  pub walk_done : n ≤ i → 2 * n ≤ length before → after ≡ pairs_from q t link n first ++ drop (2 * n) before
  walk_done h room =
      let none : n - i ≡ 0 = omega arith in
      let ps : List ℕ = pairs_from q t link n first in
      let long : 0 + length ps ≡ 2 * n = zero-add (length ps) ∙ length_pairs q t link n first in
      rw none at w.stores ∙ sets-eq ps before 0 (omega arith) ∙ ap (λ (m : ℕ). ps ++ drop m before) long
