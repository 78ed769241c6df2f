-- The promise of `record` admits one outcome: one answer, and one content of the block, which it is lent by `&mut`. `Post` is the contract's own clauses, as the check reads them.
use mathlib.Core.List.{List}
use mathlib.Core.Path.{sym, ◌∙◌}
use Prim.Native.Nat.{ℕ}
use contract.Lifetimes.{Lfts}
use Rattle.std.specs.Prelude.{Result}
use Rattle.answers.specs.declared.Refusal.{Refusal}
use Rattle.answers.proofs.Numbered.{done_once}
use Rattle.rules.proofs.OneOutcome.{OneOutcome, both}
use Rattle.recorder.proofs.record.Reads as record-call

pub record_once : (κs : Lfts 1) → OneOutcome {O = Result (Unit {0}) Refusal × List ℕ} (record-call.Post κs) (λ r s. (r, s.0.now))
record_once κs a r r' s s' p p' = both (done_once r r' (p.0 ∙ sym p'.0)) (p.1 ∙ sym p'.1)
