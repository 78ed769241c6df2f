-- The clients of an order are the rows that have a count; the others are free, so that they are blank where the free ones are.
use mathlib.Core.List.{List, ◌++◌}
use mathlib.Core.Path.{◌≡◌}
use mathlib.Core.Logic.{◌⊎◌, ⊎_elim}
use Prim.Native.Nat.{ℕ, ◌<◌}
use native.Mathlib.Omega.{arith}
use Rattle.table.specs.Regions.{Regions}
use Rattle.table.specs.Owners.{order_words, window_words, lookup_words}
use Rattle.rules.specs.Rows.{In}
use Rattle.rules.specs.Parts.{Ordered, Present}
use Rattle.rules.proofs.Rows.{in_either, fills, rising_least}

pub ordered_present : {q : ℕ} {R : Regions} {rows free : List ℕ} → Ordered q (order_words R) rows (order_words R).count free
    → ((r : ℕ) → In r free → ((window_words R).oldest r ≡ 0) × ((window_words R).newest r ≡ 0) × ((lookup_words R).next r ≡ 0)) → Present q R rows
ordered_present {q} {R} {rows} {free} o blank =
    let some : (r : ℕ) → In r rows → (order_words R).count r ≡ 0 → ⊥ = λ r i e. omega (arith, rising_least 1 (order_words R).count rows o.rising r i, e) in
    let each : (r : ℕ) → r < q → In r rows ⊎ In r free = λ r l. in_either r rows free (fills q (rows ++ free) o.each r l) in
    record {
      distinct = o.linked.distinct;
      below = o.linked.below;
      counted = some;
      others = λ r l n. ⊎_elim (λ i. i) (λ i. absurd (n (o.idle r i).1)) (each r l);
      blank = λ r l e. ⊎_elim (λ i. absurd (some r i e)) (blank r) (each r l);
    }
