-- Every case of the evening is right, by computing the definitions.
use mathlib.Core.Bool.{true, ◌&&◌}
use mathlib.Core.Path.{◌≡◌, refl}
use Rattle.rules.specs.Rows.{all}
use Rattle.rules.specs.Run.{stop, carried}
use Rattle.recording.specs.Block.{weighed, blocks_from, zeros, failing}
use Rattle.recording.specs.Replay.{pieces_up_to, stop_in, passed_in, replayed_in}
use Rattle.recording.specs.Cases as evening

pub tried : all evening.right evening.cases && evening.again ≡ true
unfolding stop carried weighed blocks_from zeros failing pieces_up_to stop_in passed_in replayed_in
tried = refl
