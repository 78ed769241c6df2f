-- After r turns the first r rows of each kind are chained. Assumes nothing.
use mathlib.Core.Path.{◌≡◌, ◌∙◌}
use native.Mathlib.Omega.{arith}
use borrow.Author.Rules.{rules}
use Rattle.layout.proofs.Laws.{chain_none, chain_on}
use Rattle.layout.proofs.chain.Goals as goal

pub loop-r-init : goal.loop-r-init
loop-r-init c = (search rules, c.requires.t_value ∙ chain_none _)

pub loop-r-preserved : goal.loop-r-preserved
loop-r-preserved c =
    (search rules, chain_on _ _ _ c.next_free-next.ensures c.set_item.ensures.writes c.set_client.ensures.writes c.loop-r.invariant.1)

pub returns : goal.returns
returns c =
    let q = c.args.q in
    let all : c.loop-r.r ≡ q = omega arith in
    rw all at c.loop-r.invariant.1
