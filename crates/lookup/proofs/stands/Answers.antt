-- The first of the bucket of the row's own id is where the steps begin.
use Rattle.lookup.proofs.Quick.{stands_by}
use Rattle.lookup.proofs.stands.Goals as goal

pub returns : goal.returns
returns c = λ o.
    stands_by c.client-id.ensures c.bucket_in-home.ensures.value c.bucket-first.ensures (c.comes_to.ensures o)
