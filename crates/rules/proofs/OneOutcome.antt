-- When a call's promise admits one outcome only.
use mathlib.Core.Path.{◌≡◌, sym, ◌∙◌, ap₂}

-- two outcomes, a reply and what then stands at each parameter, that meet the promise for one input show the same
abbrev pub OneOutcome : {A R S O : Type 0} → (A → R → S → Type 0) → (R → S → O) → Type 0
OneOutcome {A} {R} {S} Promise seen = (a : A) (r r' : R) (s s' : S) → Promise a r s → Promise a r' s' → seen r s ≡ seen r' s'

-- so it is where the promise says, as a function of the input, what an outcome shows
pub one_outcome : {A R S O : Type 0} (Promise : A → R → S → Type 0) (seen : R → S → O) (f : A → O) → ((a : A) (r : R) (s : S) → Promise a r s → seen r s ≡ f a) → OneOutcome Promise seen
one_outcome Promise seen f by a r r' s s' p q = by a r s p ∙ sym (by a r' s' q)

-- an outcome that shows two things
pub both : {A B : Type 0} {x a : A} {y b : B} → x ≡ a → y ≡ b → ◌≡◌ {A = A × B} (x, y) (a, b)
both p q = ap₂ (λ x y. (x, y)) p q
