-- Any lent words begin with the drawing of a right picture, or are refused; and words that a step leaves as they are.
use mathlib.Core.Bool.{Bool, true, false, cond}
use mathlib.Core.List.{List, ◌++◌}
use mathlib.Core.Path.{◌≡◌, refl, sym, ap, ◌∙◌, subst}
use Prim.Native.Nat.{ℕ}
use lib.ListN.{drop}
use Rattle.rules.specs.Picture.{Picture}
use Rattle.rules.specs.Draw.{draw}
use Rattle.rules.specs.Sound.{Right}
use Rattle.rules.specs.Verdict.{room, accepts, afterwards}
use Rattle.rules.proofs.Ready.{ready_right}
use Rattle.rules.proofs.Verdict.{accepted, accepted_drawn}
use Rattle.limiter.specs.Lent.{lent}

pub on_any : (F : List ℕ → Type 0) → ((P : Picture) → Right P → (rest : List ℕ) → F (draw P ++ rest)) → ((t : List ℕ) → accepts t ≡ false → F t) → (t : List ℕ) → F t
on_any F drawing refused t = go (accepts t) refl
  where
    go : (b : Bool) → accepts t ≡ b → F t
    go true e = subst F (sym (accepted_drawn t e)) (drawing (lent t) (ready_right (accepted t e).ready) (drop (room t) t))
    go false e = refused t e

-- as they were where the table is refused, and where the step leaves the picture in them
module _ (f : Picture → Picture) (t : List ℕ) where
  pub refused_stay : accepts t ≡ false → afterwards f t ≡ t
  unfolding afterwards
  refused_stay e = rw e

  pub all_stay : f (lent t) ≡ lent t → afterwards f t ≡ t
  unfolding afterwards
  all_stay e = go (accepts t) refl
    where
      go : (b : Bool) → accepts t ≡ b → cond b (draw (f (lent t)) ++ drop (room t) t) t ≡ t
      go true a = ap (λ (P : Picture). draw P ++ drop (room t) t) e ∙ sym (accepted_drawn t a)
      go false a = refl
