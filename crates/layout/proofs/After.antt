-- After a lay-out the table is sound and nobody waits in it, whatever the words held before.
use mathlib.Core.List.{List, ◌++◌}
use mathlib.Core.Bool.{Bool, true, false, cond}
use mathlib.Core.Path.{◌≡◌, refl}
use Prim.Native.Nat.{ℕ, ◌≤◌}
use native.Mathlib.Omega.{arith}
use lib.Dec.{ltb}
use lib.ListN.{length, take, drop}
use lib.Seq.{take_at}
use borrow.Author.Tests.{ltb-false}
use Rattle.table.specs.Kind as kind
use Rattle.rules.specs.Numbers as number
use Rattle.rules.specs.History.{nobody}
use Rattle.rules.specs.Picture.{plain}
use Rattle.rules.specs.Steps.{empty}
use Rattle.rules.specs.Draw.{draw}
use Rattle.rules.specs.Sound.{picture}
use Rattle.rules.specs.Verdict.{accepts, lay_out_number, laid_out}
use Rattle.rules.proofs.Empty.{empty_right, empty_picture, empty_plain}
use Rattle.rules.proofs.Verdict.{drawn_long, drawn_accepted}

-- what number 0 says of Q and of the words lent
pub accepted : (q n : ℕ) → lay_out_number q n ≡ 0 → (kind.in_range q ≡ true) × (kind.size q ≤ n)
accepted q n e = go (kind.in_range q) refl (ltb n (kind.size q)) refl e
  where
    go : (a : Bool) → kind.in_range q ≡ a → (b : Bool) → ltb n (kind.size q) ≡ b → ◌≡◌ {A = ℕ} (cond a (cond b number.too_short 0) number.out_of_range) 0 → (kind.in_range q ≡ true) × (kind.size q ≤ n)
    go true f false g h = (f, ltb-false n (kind.size q) g)
    go true f true g h = absurd (omega arith)
    go false f b g h = absurd (omega arith)

module _ (q : ℕ) (t : List ℕ) (e : lay_out_number q (length t) ≡ 0) where
  pub laid_is : laid_out q t ≡ draw (empty q) ++ drop (kind.size q) t
  unfolding laid_out
  laid_is = rw e

  pub laid_table : take (kind.size q) (laid_out q t) ≡ draw (empty q)
  laid_table = rw laid_is (take_at (draw (empty q)) (drop (kind.size q) t) (kind.size q) (drawn_long (empty q)))

  -- no call refuses it
  pub laid_accepted : accepts (laid_out q t) ≡ true
  laid_accepted = rw laid_is (drawn_accepted (empty q) (empty_right q (accepted q (length t) e).0) (drop (kind.size q) t))

  -- and nobody waits
  pub laid_waits : plain (picture (take (kind.size q) (laid_out q t))) ≡ nobody
  laid_waits = rw (laid_table, empty_picture q (accepted q (length t) e).0) (empty_plain q)
