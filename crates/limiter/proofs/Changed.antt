-- The lent words after a call: what the step on the part that is the table comes to for all of them.
use mathlib.Core.List.{List, ◌++◌}
use mathlib.Core.Path.{◌≡◌, subst}
use Prim.Native.Nat.{ℕ, ◌≤◌}
use native.Mathlib.Omega.{arith}
use lib.ListN.{length, take, drop, take-append-drop}
use Rattle.table.specs.Kind as kind
use Rattle.table.specs.Regions.{altered}
use Rattle.table.proofs.Write.{altered_same, altered_before}
use Rattle.rules.specs.Picture.{Picture}
use Rattle.rules.specs.Draw.{draw}
use Rattle.rules.specs.Sound.{picture}
use Rattle.rules.specs.Verdict.{room, afterwards}
use Rattle.answers.specs.declared.Refusal.{Refusal}
use Rattle.std.specs.Prelude.{Ok, Err}
use Rattle.answers.specs.Offered.{opened_on}
use Rattle.answers.proofs.Found.{found}
use Rattle.limiter.specs.Lent.{lent}
use Rattle.limiter.proofs.Lent.{refuses, part_size}

module _ (step : Picture → Picture) (t : List ℕ) where
  -- what a call promises of them, altering few
  abbrev pub Words : ℕ → List ℕ → Type 0
  Words few after = (after ≡ afterwards step t) × (altered t after ≤ few)

  pub unchanged : {x : Refusal} → Err x ≡ opened_on t → t ≡ afterwards step t
  unfolding afterwards
  unchanged o = refuses t o (λ _. t) (draw (step (lent t)) ++ drop (room t) t)

  pub refused_words : (few : ℕ) {x : Refusal} → Err x ≡ opened_on t → Words few t
  refused_words few o = (unchanged o, omega (arith, altered_same t))

  module _ {q : ℕ} (o : Ok q ≡ opened_on t) {n : ℕ} (is : n ≡ kind.size q) {l : List ℕ} (drawn : l ≡ draw (step (picture (take n t)))) where
    pub changed : l ++ drop n t ≡ afterwards step t
    unfolding afterwards
    changed = rw ((found t _ o).0, drawn, part_size t o is)

    pub changed_words : (few : ℕ) → length l ≡ length (take n t) → altered (take n t) (draw (step (picture (take n t)))) ≤ few → Words few (l ++ drop n t)
    changed_words few same h =
        let b : altered (take n t) l ≤ few = rw drawn h in
        (changed, subst (λ (x : List ℕ). altered x (l ++ drop n t) ≤ few) (take-append-drop n t) (rw (altered_before (take n t) l (drop n t) same) b))
