-- The row of a client id in a picture, or that no client there has it.
use Rattle.std.specs.Prelude.{◌≡◌, ℕ, Result, Ok, Err}
use Rattle.rules.specs.Rows.{In}
use Rattle.rules.specs.Picture.{Picture, client_rows, id_of, plain}
use Rattle.answers.specs.declared.Refusal.{Refusal}
use Rattle.answers.specs.declared.Refusal.TheVariants as refusals

abbrev pub RowOf : Picture → ℕ → Result ℕ Refusal → Type 0
RowOf P x (Ok r) = In r (client_rows P) × (id_of P.clients r ≡ x)
RowOf P x (Err e) = (e ≡ refusals.NoClient) × (In x (plain P).order → ⊥)
