-- The closure gives the sum of the two totals at a place, and is left as it was.
use Rattle.std.proofs.Common.{rules, ◌≡◌, ℕ, ◌+◌, ◌-◌, ◌^◌, ◌<◌, ◌≤◌, List, length, get_or, refl, sym, ap, ◌∙◌, subst, arith}
use Prim.Native.Nat.{zero, suc, min}
use denote.Param.Members.{Mut, Called}
use mathlib.Core.Logic.{by_cases}
use native.Mathlib.Decide.{ℕ_discrete}
use Rattle.std.specs.Array.{IsFromFnResultFrom}
use Rattle.std.proofs.lemmas.Bool.Decides.{nat_tests}
use Rattle.std.proofs.lemmas.Grind.{same_number_lists}
use Rattle.day.specs.Day.{sum_of}
use Rattle.day.proofs.Added.{length-added, get_or-added}
use Rattle.day.proofs.add.Goals as goal

-- a closure that gives v k at each k below n, and is left as it was, makes the list of them
module _ {F : Type 0} (g : Mut F (ℕ × Unit {0}) ℕ) (v : ℕ → ℕ) (f : F) (n : ℕ) (one : (k y : ℕ) (q : F) → k < n → Called g f (k, tt) y q → (q ≡ f) × (y ≡ v k)) where
  made : (ys : List ℕ) (i m : ℕ) → i + m ≡ n → IsFromFnResultFrom g f ys i m → (k : ℕ) → i ≤ k → k < i + m → get_or ys k 0 ≡ v k
  made ys i zero e h k a b = absurd (omega arith)
  made ys i (suc m) e (q, y, here, called, rest) k a b =
      let w = one i y q (omega arith) called in
      by_cases (ℕ_discrete k i)
      (λ z. ap (λ (j : ℕ). get_or ys j 0) z ∙ here.1 0 ∙ w.1 ∙ ap v (sym z))
      (λ z. made ys (i + 1) m (omega arith) (subst (λ (p : F). IsFromFnResultFrom g p ys (i + 1) m) w.0 rest) k (omega arith) (omega arith))

saturates : (a b : ℕ) → min (a + b) (2 ^ 64 - 1) ≡ sum_of a b
saturates a b = grind (arith, nat_tests)

pub returns : goal.returns
returns c =
    let totals : length c.args.day ≡ 6 = search rules in
    let more : length c.args.more ≡ 6 = search rules in
    let both : ℕ → ℕ = λ k. sum_of (get_or c.args.day k 0) (get_or c.args.more k 0) in
    same_number_lists _ _ (omega (arith, c.from_fn.ensures.items.long, length-added c.args.day c.args.more))
    (λ k h. made _ both _ 6 (λ k y q h z. (search rules, search rules ∙ saturates _ _)) c.from_fn.result 0 6 refl c.from_fn.ensures.items.each k (omega arith) (omega arith)
    ∙ sym (get_or-added c.args.day c.args.more k (omega arith) (omega arith)))
