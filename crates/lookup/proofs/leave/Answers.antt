-- The chain of the row's bucket reaches it; then the two words as the regions have them.
use borrow.Author.Rules.{rules}
use Rattle.lookup.proofs.Walks.{first_reaches}
use Rattle.lookup.proofs.Writers.{leaves}
use Rattle.lookup.proofs.leave.Goals as goal

pub behind-e-requires : goal.behind-e-requires
behind-e-requires c =
    record {
      sized = c.requires.sized;
      reaches = first_reaches c.requires.sized c.bucket_in-b.ensures.upper_bound c.bucket-first.ensures c.requires.a_client c.client-id.ensures c.bucket_in-b.ensures.value;
    }

pub returns : goal.returns
returns c = search (leaves, rules)
