-- The places as the strand has them. Assumes nothing.
use Rattle.links.proofs.window.Goals as goal

pub returns : goal.returns
returns c = cc
