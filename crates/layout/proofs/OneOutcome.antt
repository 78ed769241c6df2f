-- The promises of lay-out and carve admit one outcome: one reply, and one content of what was lent by `&mut`; of the part that carve gives, its words and its place.
-- `Post` is the contract's own clauses, as the check reads them.
use mathlib.Core.List.{List}
use mathlib.Core.Path.{sym, ◌∙◌}
use Prim.Native.Nat.{ℕ}
use contract.Lifetimes.{Lfts}
use Rattle.std.specs.Prelude.{Result}
use Rattle.answers.specs.declared.Refusal.{Refusal}
use Rattle.answers.proofs.Numbered.{done_once}
use Rattle.rules.proofs.OneOutcome.{OneOutcome, one_outcome, both}
use Rattle.layout.proofs.lay_out.Reads as lay-out
use Rattle.layout.proofs.carve.Reads as carve

pub lay_out_once : (κs : Lfts 1) → OneOutcome {O = Result (Unit {0}) Refusal × List ℕ} (lay-out.Post κs) (λ r s. (r, s.0.now))
lay_out_once κs a r r' s s' p p' = both (done_once r r' (p.0 ∙ sym p'.0)) (p.1 ∙ sym p'.1)

pub carve_once : (κs : Lfts 1) → OneOutcome {O = List ℕ × (ℕ × ℕ)} (carve.Post κs) (λ r s. (r.now, r.ref_ptr))
carve_once κs = one_outcome _ _ _ (λ a r s p. both p.0 p.1)
