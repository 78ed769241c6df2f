-- The loop keeps `Walked`: the pairs that are still to store make the same output as all of them did at the start.
use borrow.Author.Rules.{rules}
use Rattle.questions.proofs.Walk.{walk_next, walk_done}
use Rattle.questions.proofs.list.Goals as goal

pub loop-i-preserved : goal.loop-i-preserved
loop-i-preserved c = search (walk_next, rules)

pub returns : goal.returns
returns c = search (walk_done, rules)
