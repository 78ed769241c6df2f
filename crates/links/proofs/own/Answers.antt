-- The places as the strand has them. Assumes nothing.
use native.Mathlib.Nat.{add-zero}
use Rattle.links.proofs.own.Goals as goal

pub returns : goal.returns
returns c = rw (c.client_at-client.ensures, c.item_at.ensures) (simp add-zero)
