-- The three commands: what each comes to, and what carrying it out does to the plain history and to a picture.
use Rattle.rules.specs.History.{Request, Waiting, Limits, Choice, Left, nothing, left, choice, arrive, slide_left, slide, serve}
use Rattle.rules.specs.History as history
use Rattle.rules.specs.Picture.{Picture}
use Rattle.rules.specs.Steps.{arrived, slid}
use Rattle.rules.specs.Steps as picture

pub data Command : Type 0 where
  arriving : Request → Command
  sliding : Request → Command
  serving : Command

-- a command is an arrival
abbrev pub Arrival : Command → Type 0
Arrival (arriving r) = Unit {0}
Arrival (sliding r) = ⊥
Arrival serving = ⊥

-- what a command comes to; a case names the request that left, if one did
pub data Outcome : Type 0 where
  joined : Outcome
  evicted : Request → Outcome
  turned : Outcome
  passed : Request → Outcome
  served : Request → Outcome
  idle : Outcome

abbrev pub of_choice : Choice → Outcome
of_choice Choice.joined = joined
of_choice (Choice.evicted r) = evicted r
of_choice Choice.turned = turned

abbrev pub of_slide : Left → Outcome
of_slide nothing = joined
of_slide (left r) = passed r

abbrev pub of_serve : Left → Outcome
of_serve nothing = idle
of_serve (left r) = served r

-- within limits
abbrev pub outcome : Limits → Waiting → Command → Outcome
outcome L s (arriving r) = of_choice (choice L s r.id)
outcome L s (sliding r) = of_slide (slide_left L s)
outcome L s serving = of_serve (history.served s)

abbrev pub step : Limits → Waiting → Command → Waiting
step L s (arriving r) = arrive L s r
step L s (sliding r) = slide L s r
step L s serving = serve s

abbrev pub next : Picture → Command → Picture
next P (arriving r) = arrived P r.id r.ticket
next P (sliding r) = slid P r.id r.ticket
next P serving = picture.served P
