-- What a call finds in lent words, told from what it opens, and back.
use mathlib.Core.Bool.{Bool, true, false, cond}
use mathlib.Core.List.{List}
use mathlib.Core.Path.{◌≡◌, refl, sym, subst}
use Prim.Native.Nat.{ℕ}
use lib.ListN.{get_or}
use Rattle.std.specs.Prelude.{Result, Ok, Err}
use Rattle.table.specs.Kind as kind
use Rattle.rules.specs.Verdict.{accepts}
use Rattle.answers.specs.declared.Refusal.{Refusal}
use Rattle.answers.specs.Offered.{refusal_on, opened_on}

-- which of the two it is, where the words' Q is q and they are refused for x, if they are
abbrev Found : Bool → ℕ → Refusal → Result ℕ Refusal → Type 0
Found b q x (Ok p) = (b ≡ true) × (p ≡ q)
Found b q x (Err y) = (b ≡ false) × (y ≡ x)

found_as : (b : Bool) (q : ℕ) (x : Refusal) → Found b q x (cond b (Ok q) (Err x))
found_as true q x = (refl, refl)
found_as false q x = (refl, refl)

pub found : (t : List ℕ) (o : Result ℕ Refusal) → o ≡ opened_on t → Found (accepts t) (get_or t kind.places_at 0) (refusal_on t) o
found t o e =
    subst (Found (accepts t) (get_or t kind.places_at 0) (refusal_on t)) (sym e) (found_as (accepts t) (get_or t kind.places_at 0) (refusal_on t))
