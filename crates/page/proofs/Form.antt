-- A form that is filled from the front: what is to come at a mark and at any other byte.
use mathlib.Core.List.{List, [], ◌∷◌, ◌++◌}
use mathlib.Core.Path.{◌≡◌, refl}
use Prim.Native.Nat.{ℕ, ◌+◌, ◌<◌}
use native.Mathlib.Numerals.{add-one}
use lib.ListN.{length, get_or, drop}
use lib.Seq.{drop-cons}
use borrow.Author.Tests.{eq-eqb, ne_eqb}
use Rattle.std.proofs.Common.{Option, Some, None, Iter, Bor}
use Rattle.std.proofs.lemmas.List.{nil_from_length}
use Rattle.std.specs.Option.{option_copied, unwrap_or}
use Rattle.std.specs.Slice.Iter.{iter_rest, iter_steps}
use Rattle.page.specs.Text.{decimal}
use Rattle.page.specs.Form.{mark, filled}

module _ (form ns : List ℕ) (j : ℕ) (h : j < length form) where
  -- byte j is a mark
  pub at_mark : get_or form j 0 ≡ mark → filled (drop j form) ns ≡ decimal (get_or ns 0 0) ++ filled (drop (j + 1) form) (drop 1 ns)
  unfolding filled
  at_mark e = rw (drop-cons form j 0 h, eq-eqb (get_or form j 0) mark e, add-one j)

  -- it is any other byte
  pub at_byte : (get_or form j 0 ≡ mark → ⊥) → filled (drop j form) ns ≡ (get_or form j 0 ∷ []) ++ filled (drop (j + 1) form) ns
  unfolding filled
  at_byte e = rw (drop-cons form j 0 h, ne_eqb (get_or form j 0) mark e, add-one j)

-- the next number, 0 where none is left; and what is left then
pub next_number : (s t : Iter ℕ) (r : Option (Bor ℕ)) → iter_steps s r t
    → (unwrap_or (option_copied r) 0 ≡ get_or (iter_rest s) 0 0) × (iter_rest t ≡ drop 1 (iter_rest s))
next_number s t None h = rw (nil_from_length (iter_rest s) h.0, h.1) (refl, rw (nil_from_length (iter_rest s) h.0))
next_number s t (Some x) h = rw h (refl, refl)
