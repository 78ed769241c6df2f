-- What the verdict on the lent words says: a table that is not refused is there in full and ready, and the answer is of what it shows.
use mathlib.Core.Bool.{true}
use mathlib.Core.List.{List}
use mathlib.Core.Path.{◌≡◌, sym, ap, ◌∙◌}
use Prim.Native.Nat.{ℕ, ◌≤◌}
use lib.ListN.{length, take}
use lib.Seq.{length-take-le}
use Rattle.table.specs.Kind as kind
use Rattle.rules.specs.Picture.{Picture}
use Rattle.rules.specs.Sound.{picture}
use Rattle.rules.specs.Ready.{Ready}
use Rattle.rules.specs.Verdict.{room, accepts}
use Rattle.rules.proofs.Verdict.{accepted}
use Rattle.answers.specs.declared.Refusal.{Refusal}
use Rattle.std.specs.Prelude.{Ok, Err}
use Rattle.answers.specs.Offered.{opened_on}
use Rattle.answers.proofs.Found.{found}
use Rattle.limiter.specs.Lent.{lent, or_refused}

module _ (t : List ℕ) where
  -- a call that finds no table
  module _ {x : Refusal} (o : Err x ≡ opened_on t) where
    pub refuses : {A : Type 0} (refused : Refusal → A) (a : A) → refused x ≡ or_refused refused t a
    refuses refused a = let (turned, is) = found t _ o in rw (turned, is)

  -- and one that finds a table of q places, which takes n words
  module _ {q : ℕ} (o : Ok q ≡ opened_on t) where
    taken : accepts t ≡ true
    taken = (found t _ o).0

    pub part_most : q ≤ kind.largest
    part_most = rw (found t _ o).1 (accepted t taken).most

    module _ {n : ℕ} (is : n ≡ kind.size q) where
      pub part_size : n ≡ room t
      part_size = is ∙ ap kind.size (found t _ o).1

      pub part_fits : n ≤ length t
      part_fits = rw part_size (accepted t taken).long

      pub part_long : n ≡ length (take n t)
      part_long = sym (length-take-le n t part_fits)

      pub part_ready : Ready q (take n t)
      part_ready = rw ((found t _ o).1, part_size) (accepted t taken).ready

      pub answers : {A : Type 0} (refused : Refusal → A) (answer : Picture → A) {r : A} → r ≡ answer (picture (take n t)) → r ≡ or_refused refused t (answer (lent t))
      answers refused answer e = rw taken (e ∙ ap (λ (k : ℕ). answer (picture (take k t))) part_size)
