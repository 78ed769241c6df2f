-- Every case of the rules' table is right of the calls, by computing the calls' own functions.
use mathlib.Core.List.{List}
use mathlib.Core.Path.{◌≡◌, refl, ap, ◌∙◌}
use Prim.Native.Nat.{ℕ}
use lib.ListN.{length}
use Rattle.table.specs.Regions.{upto, rows, words}
use Rattle.rules.specs.Rows.{All}
use Rattle.rules.specs.Spread.{spread_at, bucket}
use Rattle.rules.specs.History.{turned_away}
use Rattle.rules.specs.Steps.{join, leave, arrived, slid, served}
use Rattle.rules.specs.Draw.{draw}
use Rattle.rules.specs.Sound.{right, follow, picture, sound}
use Rattle.rules.specs.Verdict.{verdict, accepts, afterwards, laid_out, lay_out_number}
use Rattle.rules.specs.Cases.{cases}
use Rattle.history.specs.Plain.{lay_out, laid}
use Rattle.history.specs.Words.{reply}
use Rattle.history.specs.Cases.{Right}

-- a lay-out is answered by the number of words alone
numbered : (q n number : ℕ) → lay_out_number q n ≡ number → (t : List ℕ) → length t ≡ n → reply (lay_out q) t ≡ laid number
numbered q n number e t l = ap (λ (m : ℕ). laid (lay_out_number q m)) l ∙ ap laid e

pub whiteboard : All Right cases
unfolding upto rows words spread_at bucket turned_away join leave arrived slid served draw right follow picture sound verdict accepts afterwards laid_out
whiteboard = (
  numbered 0 16016 1 refl,
  (
    numbered 1001 16032 1 refl,
    (
      numbered 1000 16016 0 refl,
      (
        numbered 1000 16015 2 refl,
        ((refl, refl), ((refl, refl), ((refl, refl), ((refl, refl), tt)))),
      ),
    ),
  ),
)
