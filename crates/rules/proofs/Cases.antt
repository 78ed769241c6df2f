-- Every case of the table is right, by computing the definitions.
use mathlib.Core.Bool.{true}
use mathlib.Core.Path.{◌≡◌, refl}
use Rattle.table.specs.Regions.{upto, rows, words}
use Rattle.rules.specs.Rows.{all}
use Rattle.rules.specs.Spread.{spread_at, bucket}
use Rattle.rules.specs.History.{turned_away}
use Rattle.rules.specs.Steps.{join, leave, arrived, slid, served}
use Rattle.rules.specs.Draw.{draw}
use Rattle.rules.specs.Sound.{right, follow, picture, sound}
use Rattle.rules.specs.Cases as cases

pub tried : all cases.right cases.cases ≡ true
unfolding upto rows words spread_at bucket turned_away join leave arrived slid served draw right follow picture sound
tried = refl
