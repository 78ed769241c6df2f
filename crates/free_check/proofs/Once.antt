-- A chain of free rows, beside the rows xs that wait: where none is both and they are q rows, they are every row once.
use mathlib.Core.List.{List, ◌++◌}
use mathlib.Core.Bool.{true, false}
use mathlib.Core.Path.{◌≡◌}
use Prim.Native.Nat.{ℕ, ◌+◌, ◌≤◌}
use lib.Dec.{eqb, ltb}
use lib.ListN.{length}
use borrow.Author.Tests.{ltb-true, eqb-false}
use Rattle.table.specs.Kind as kind
use Rattle.rules.specs.Rows.{In, Distinct, Below, Once}
use Rattle.rules.specs.Linked.{Chain}
use Rattle.rules.proofs.Rows.{below_right, distinct_both, once_both, all_in, in_all}
use Rattle.rules.proofs.Columns.{chain_once}
use Rattle.free_check.specs.Free.{Blank, Chained}

module _ {q width link : ℕ} {word : ℕ → ℕ → ℕ} {first : ℕ} {free : List ℕ} where
  -- a word of a free row, by its name
  pub free_zero : Chained q width link word first free → (r : ℕ) → In r free → (f : ℕ) → ltb f width ≡ true → eqb f link ≡ false → word r f ≡ 0
  free_zero c r i f h m = all_in (λ r. Blank width link (word r)) free c.blank r i f (ltb-true f width h) (eqb-false f link m)

  module _ (xs : List ℕ) where
    pub free_once : q ≤ kind.none → Distinct xs → Below q xs → ((r : ℕ) → In r xs → In r free → ⊥) → length xs + length free ≡ q
        → Chained q width link word first free → Once q (xs ++ free)
    free_once hq d b apart long c =
        let once = chain_once q hq (λ r. word r link) first free c.below c.chain in
        once_both q xs free (distinct_both xs free d once apart) b c.below long

    -- and back
    pub once_free : Once q (xs ++ free) → Chain (λ r. word r link) first free → ((r : ℕ) → In r free → Blank width link (word r))
        → Chained q width link word first free
    once_free o c blank =
        record { below = below_right q xs free o.below; chain = c; blank = in_all (λ r. Blank width link (word r)) free blank }
