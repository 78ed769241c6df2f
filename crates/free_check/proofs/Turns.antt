-- The turns of the walk of a chain, and the place of a row.
use mathlib.Core.List.{List}
use mathlib.Core.Path.{◌≡◌, refl, sym, ◌∙◌}
use mathlib.Core.Logic.{◌↔◌}
use Prim.Native.Nat.{ℕ, ◌+◌, ◌*◌, ◌-◌, ◌≤◌, ◌<◌}
use native.Mathlib.Nat.{mul-suc, mul-le-mul_left}
use native.Mathlib.Omega.{arith}
use mathlib.Core.Bool.{Bool}
use Rattle.std.specs.Prelude.{slice_range}
use lib.ListN.{length, get_or, drop}
use Rattle.std.proofs.lemmas.List.{length-take, length-drop, get_or-take, get_or-drop}
use Rattle.rules.specs.Tells.{Tells}
use Rattle.rules.proofs.Tells.{tells_so}
use Rattle.free_check.specs.declared.Rows.{Rows}
use Rattle.free_check.specs.Free.{Fit, Blank, Chained, Free}
use Rattle.free_check.proofs.Listed as listed

-- a row lies within the words
pub row_fits : {q : ℕ} {rows : Rows} {t : List ℕ} → Fit q rows t → {r : ℕ} → r < q → rows.from + rows.width * r + rows.width ≤ length t
row_fits {rows = rows} fit {r} h = omega (arith, fit.within, mul-suc rows.width r, mul-le-mul_left rows.width h)

-- the words of a row, taken out of the table, are its words there
module _ (t : List ℕ) (start width : ℕ) where
  abbrev pub row : List ℕ
  row = slice_range t start (start + width)

  pub row_word : (f : ℕ) → f < width → get_or row f 0 ≡ get_or t (start + f) 0
  row_word f h = get_or-take (start + width - start) (drop start t) f 0 (omega arith) ∙ get_or-drop start t f 0

  module _ (fits : start + width ≤ length t) where
    row_long : length row ≡ width
    row_long = omega (arith, length-take (start + width - start) (drop start t), length-drop start t)

    pub row_blank : {ok : Bool} (link : ℕ) → Tells ok (Blank (length row) link (λ f. get_or row f 0)) → Tells ok (Blank width link (λ f. get_or t (start + f) 0))
    row_blank link =
        tells_so (
          λ b f h n. sym (row_word f h) ∙ b f (omega (arith, row_long)) n,
          λ b f h n. let i : f < width = omega (arith, row_long) in row_word f i ∙ b f i n,
        )

module _ (q width link : ℕ) (word : ℕ → ℕ → ℕ) (at n : ℕ) {W : Type 0} (so : Free q width link word at n ↔ W) where
  pub turn : 0 < n → (((at < q) × Blank width link (word at)) × Free q width link word (word at link) (n - 1)) ↔ W
  turn =
      listed.turn n (Chained q width link word at) so at ((at < q) × Blank width link (word at)) (Chained q width link word (word at link))
      (λ r rs f. f.chain.0)
      (λ rs. (
        λ f. ((f.below.0, f.blank.0), record { below = f.below.1; chain = f.chain.1; blank = f.blank.1 }),
        λ p. let f = p.1 in record { below = (p.0.0, f.below); chain = (refl, f.chain); blank = (p.0.1, f.blank) },
      ))
