-- By whether the window is full; either way there is room where the request arrives.
use mathlib.Core.Path.{◌∙◌}
use Rattle.rules.proofs.Steps.{slide_step}
use Rattle.rules.proofs.Ready.{ready_right}
use Rattle.steps.proofs.Choices.{Roomy, roomy_so, same_long, had_room, made_room, roomy_slid}
use Rattle.steps.proofs.slide.Goals as goal
use Rattle.steps.proofs.slide.Goals.{then-full, else-full}

-- where the two ways meet
roomy : (j : goal.After-arrive-arg-1) → Roomy j.args.q j.args.t.now j.if-full.t j.if-full.left
roomy j =
    elim j.if-full.branch [
      | then-full w ↦ roomy_so w.t-is (w.left-is ∙ w.serve-left.ensures.reply) (made_room j.requires.ready j.full.ensures w.if-full.true w.serve-left.ensures.words)
      | else-full w ↦ roomy_so w.t-is w.left-is (had_room j.requires.ready j.full.ensures w.if-full.false)
    ]

pub arrive-requires : goal.arrive-requires
arrive-requires c = record { ready = (roomy c).ready }

pub returns : goal.returns
returns c =
    let r = roomy c.before.before.before.before in
    record { reply = r.told; words = roomy_slid r _ _ c.arrive.ensures.words }

pub shape_of-t : goal.shape_of-t
shape_of-t c = same_long c.requires.ready (slide_step _ (ready_right c.requires.ready) _ _) (returns c).words
