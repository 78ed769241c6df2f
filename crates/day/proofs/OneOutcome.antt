-- The promise of `bring_up` admits one outcome: one content of the record, which it is lent by `&mut`. `Post` is the contract's own clause, as the check reads it.
use contract.Lifetimes.{Lfts}
use Rattle.rules.proofs.OneOutcome.{OneOutcome, one_outcome}
use Rattle.day.proofs.bring_up.Reads as bring-up

pub bring_up_once : (κs : Lfts 1) → OneOutcome (bring-up.Post κs) (λ r s. s.0.now)
bring_up_once κs = one_outcome _ _ _ (λ a r s p. p)
