-- The listing of all clients of a window: it has room, and its words are theirs.
use mathlib.Core.Bool.{false}
use mathlib.Core.List.{List, [], ◌∷◌, reverse}
use mathlib.Core.Path.{◌≡◌, refl, sym, ap, ◌∙◌}
use Prim.Native.Nat.{ℕ, ◌*◌, ◌≤◌}
use native.Mathlib.Nat.{min-le_left, min-le_right}
use native.Mathlib.Omega.{arith}
use lib.Dec.{ltb}
use lib.ListN.{length, take, length-take, length-reverse}
use lib.Seq.{take_at, length-take-le}
use borrow.Author.Tests.{le-ltb}
use Rattle.rules.specs.History.{Request, Waiting, pairs, given, heaviest}
use Rattle.answers.specs.Engine.{needed, listing}
use Rattle.std.specs.Prelude.{Result, Ok, IsOk}
use Rattle.answers.specs.declared.Refusal.{Refusal}
use Rattle.questions.specs.Output.{listed_words}

-- two words a client
length_pairs : (w : List Request) (is : List ℕ) → length (pairs w is) ≡ 2 * length is
length_pairs w [] = refl
length_pairs w (i ∷ is) = omega (arith, length_pairs w is)

length_heaviest : (k : ℕ) (s : Waiting) → length (heaviest k s) ≡ 2 * given k s
length_heaviest k s =
    length_pairs s.window (take (given k s) (reverse s.order)) ∙ ap (λ (n : ℕ). 2 * n) (length-take-le (given k s) (reverse s.order) (rw length-reverse (min-le_right k _)))

-- of a window of q places, into ps
module _ (q : ℕ) (s : Waiting) (ps : List ℕ) (h : 2 * q ≤ length ps) where
  has_room : ltb (length ps) (needed q s) ≡ false
  has_room = le-ltb (length ps) (needed q s) (omega (arith, min-le_left q (length s.order)))

  pub never_refused : {r : Result ℕ Refusal} → r ≡ listing q (length ps) s → IsOk r
  never_refused e = rw (e, has_room) refl

  module _ {n : ℕ} (e : Ok n ≡ listing q (length ps) s) where
    everyone : n ≡ given q s
    everyone = let is : Ok n ≡ Ok (given q s) = e ∙ rw has_room in cc

    pub listed_few : 2 * n ≤ length ps
    listed_few = omega (arith, everyone, min-le_left q (length s.order))

    module _ {ps' : List ℕ} (w : ps' ≡ listed_words heaviest q s ps) where
      pub listed_words_lem : take (2 * n) ps' ≡ heaviest q s
      listed_words_lem = rw (w, has_room) (take_at (heaviest q s) _ _ (length_heaviest q s ∙ ap (λ (m : ℕ). 2 * m) (sym everyone)))

      pub listed_part : 2 * n ≡ length (take (2 * n) ps')
      listed_part = rw listed_words_lem (omega (arith, length_heaviest q s, everyone))

      pub listed_fits : 2 * n ≤ length ps'
      listed_fits = omega (arith, listed_part, length-take (2 * n) ps', min-le_right (2 * n) (length ps'))
