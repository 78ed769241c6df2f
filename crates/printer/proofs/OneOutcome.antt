-- The promise of `print` admits one outcome: one number, and one content of the page.
-- `Post` is the contract's own clauses, as the check reads them.
use mathlib.Core.List.{List, ◌++◌}
use mathlib.Core.Path.{ap, ◌∙◌}
use Prim.Native.Nat.{ℕ}
use lib.ListN.{drop}
use contract.Lifetimes.{Lfts}
use Rattle.rules.proofs.OneOutcome.{OneOutcome, one_outcome, both}
use Rattle.printed.specs.Printed.{printed}
use Rattle.printer.proofs.print.Reads as print

pub print_once : (κs : Lfts 2) → OneOutcome {O = ℕ × List ℕ} (print.Post κs) (λ n s. (n, s.1.0.now))
print_once κs = one_outcome _ _ _ (λ a n s p. both p.0 (p.1.0 ∙ ap (λ (k : ℕ). printed a.0.now ++ drop k a.1.0.now) p.0))
