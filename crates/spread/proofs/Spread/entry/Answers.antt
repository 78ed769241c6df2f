-- The table that is lent holds the number of each place.
use borrow.Author.Rules.{rules}
use Rattle.spread.proofs.Spread.entry.Goals as goal

pub returns : goal.returns
returns c = c.args.self.now.by_rule.at _ (search rules)
