-- Two words, each as the regions have it.
use borrow.Author.Rules.{rules}
use Rattle.lookup.proofs.Writers.{home_low, enters}
use Rattle.lookup.proofs.enter.Goals as goal

pub bucket-first-requires : goal.bucket-first-requires
bucket-first-requires c = search (home_low, rules)

pub set_bucket-requires : goal.set_bucket-requires
set_bucket-requires c = search (home_low, rules)

pub returns : goal.returns
returns c = search (enters, rules)
