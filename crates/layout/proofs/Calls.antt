-- What lay-out answers, case by case, and where the part is that carve gives.
use mathlib.Core.List.{List, ◌++◌}
use mathlib.Core.Bool.{Bool, true, false}
use mathlib.Core.Logic.{⊎_elim}
use mathlib.Core.Path.{◌≡◌, ap, ◌∙◌}
use mathlib.Mathlib.Data.Bool.Basic.{dichotomy}
use Prim.Native.Nat.{ℕ, ◌≤◌, ◌<◌}
use native.Mathlib.Omega.{arith}
use lib.ListN.{length, take, drop}
use lib.Seq.{length-take-le}
use borrow.Author.Tests.{lt-ltb, le-ltb}
use borrow.Rule.Slice.Shared.{by_size}
use Rattle.std.specs.Prelude.{unwrap_or}
use Rattle.std.specs.declared.ops.Range.{Range}
use Rattle.table.specs.Kind as kind
use Rattle.table.specs.Regions.{Sized}
use Rattle.rules.specs.Numbers as number
use Rattle.rules.specs.Steps.{empty}
use Rattle.rules.specs.Draw.{draw}
use Rattle.rules.specs.Verdict.{lay_out_number, laid_out, placed, fitting}
use Rattle.rules.proofs.Decide.{range_decides}
use Rattle.layout.specs.Carve.{part_of}

-- lay-out
module _ (q : ℕ) (t : List ℕ) where
  pub out_of_range_lem : kind.in_range q ≡ false → (number.out_of_range ≡ lay_out_number q (length t)) × (t ≡ laid_out q t)
  unfolding laid_out
  out_of_range_lem e = (rw e, rw e)

  module _ (r : kind.in_range q ≡ true) (need : ℕ) (is : need ≡ kind.size q) where
    pub too_short_lem : length t < need → (number.too_short ≡ lay_out_number q (length t)) × (t ≡ laid_out q t)
    unfolding laid_out
    too_short_lem h = let s = lt-ltb (length t) (kind.size q) (omega arith) in (rw (r, s), rw (r, s))

    pub sized_part : need ≤ length t → Sized q (take need t) × (1 ≤ q)
    sized_part h =
        (record { small = ((range_decides q).0 r).1; long = length-take-le need t h ∙ is }, ((range_decides q).0 r).0)

    pub laid_out_lem : need ≤ length t → (l : List ℕ) → l ≡ draw (empty q) → (0 ≡ lay_out_number q (length t)) × (l ++ drop need t ≡ laid_out q t)
    unfolding laid_out
    laid_out_lem h l e = let s = le-ltb (length t) (kind.size q) (omega arith) in (rw (r, s), rw (r, s, e, is))

-- carve: the place of the part
module _ (pool : List ℕ) (start q : ℕ) (p : Range ℕ) (e : p ≡ unwrap_or (part_of (length pool) start q) (record { start = 0; end = 0 })) where
  abbrev Follow : Bool → Type 0
  Follow b = fitting (length pool) start q ≡ b

  pub its_place : (a : ℕ × ℕ) → ◌≡◌ {A = ℕ × ℕ} (a.0, by_size 4 p.start a.1) (placed a pool start q)
  its_place a =
      ⊎_elim (λ (f : Follow false). rw (e, f) (ap (λ (n : ℕ). (a.0, n)) (omega arith)))
      (λ (f : Follow true). rw (e, f) (ap (λ (n : ℕ). (a.0, n)) (omega arith))) (dichotomy _)
