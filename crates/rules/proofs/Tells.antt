-- Laws of answers: one that is true, one that is false, a comparison, an answer on what comes to the same, and what one rules out or tells.
use mathlib.Core.Bool.{Bool, true, false}
use mathlib.Core.Path.{◌≡◌, refl, sym, ◌∙◌}
use mathlib.Core.Logic.{◌↔◌}
use Prim.Native.Nat.{ℕ}
use lib.Dec.{eqb}
use borrow.Author.Tests.{eqb-true, eq-eqb}
use Rattle.rules.specs.Tells.{Tells}
use Rattle.rules.proofs.Decide.{no_true}

pub tells_yes : {P : Type 0} → P → Tells true P
tells_yes p = record { right = λ e. p; passes = λ q. refl }

pub tells_no : {P : Type 0} → (P → ⊥) → Tells false P
tells_no h = record { right = λ e. absurd (no_true e); passes = λ p. absurd (h p) }

pub tells_equal : {P : Type 0} (a b : ℕ) → (a ≡ b) ↔ P → Tells (eqb a b) P
tells_equal a b s = record { right = λ e. s.0 (eqb-true a b e); passes = λ p. eq-eqb a b (s.1 p) }

-- the same answer, of what holds exactly where P does
pub tells_so : {ok : Bool} {P Q : Type 0} → P ↔ Q → Tells ok P → Tells ok Q
tells_so s a = record { right = λ e. s.0 (a.right e); passes = λ q. a.passes (s.1 q) }

-- what an answer that is not true rules out, and what one that is tells
pub refuted : {ok : Bool} {P : Type 0} → Tells ok P → ok ≡ false → P → ⊥
refuted a e p = no_true (sym e ∙ a.passes p)

pub told : {ok : Bool} {P : Type 0} → Tells ok P → ok ≡ true → P
told a e = a.right e
