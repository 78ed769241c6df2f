-- The hook, and then the row's own word.
use borrow.Author.Rules.{rules}
use Rattle.lookup.proofs.Writers.{unhook_writes}
use Rattle.lookup.proofs.unhook.Goals as goal

pub returns : goal.returns
returns c = search (unhook_writes, rules)
