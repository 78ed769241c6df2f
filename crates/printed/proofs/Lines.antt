-- How long the lines are.
use mathlib.Core.List.{List, [], ◌∷◌}
use Prim.Native.Nat.{ℕ, ◌*◌, ◌^◌, ◌≤◌, ◌<◌}
use native.Mathlib.Omega.{arith}
use lib.ListN.{length, length-append}
use Rattle.rules.specs.Rows.{All}
use Rattle.rules.specs.History.{Request, count, pairs}
use Rattle.page.specs.Text.{decimal}
use Rattle.page.specs.Form.{filled}
use Rattle.page.proofs.Decimal.{length_most}
use Rattle.printed.specs.Printed.{budget, refused_form, report_form, client_form, client_lines}

pub refused_line : (n : ℕ) → n < 10 → length (filled refused_form (n ∷ [])) ≤ 10
unfolding filled
refused_line n h = simp length-append (omega (arith, length_most 1 n (omega arith) (omega arith)))

four : (n : ℕ) → n ≤ budget → length (decimal n) ≤ 4
four n h = length_most 4 n (omega arith) (omega arith)

pub report_line : (a b c d e f g h : ℕ) → All (λ n. n ≤ budget) (a ∷ b ∷ c ∷ d ∷ e ∷ f ∷ g ∷ h ∷ []) → length (filled report_form (a ∷ b ∷ c ∷ d ∷ e ∷ f ∷ g ∷ h ∷ [])) ≤ 91
unfolding filled
report_line a b c d e f g h (la, (lb, (lc, (ld, (le, (lf, (lg, (lh, _)))))))) =
    simp length-append (omega (arith, four a la, four b lb, four c lc, four d ld, four e le, four f lf, four g lg, four h lh))

client_line : (i n : ℕ) → i < 2 ^ 32 → n < 1000 → length (filled client_form (i ∷ n ∷ [])) ≤ 15
unfolding filled
client_line i n hi hn = simp length-append (omega (arith, length_most 10 i (omega arith) (omega arith), length_most 3 n (omega arith) (omega arith)))

pub client_lines_lem : (m : ℕ) → m < 1000 → (w : List Request) (is : List ℕ) → All (λ i. (i < 2 ^ 32) × (count i w ≤ m)) is → length (client_lines (pairs w is)) ≤ 15 * length is
unfolding client_lines
client_lines_lem m h w [] a = omega arith
client_lines_lem m h w (i ∷ is) a = rw length-append (omega (arith, client_line i (count i w) a.0.0 (omega arith), client_lines_lem m h w is a.1))
