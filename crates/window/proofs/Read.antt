-- The words that the layer above reads: a client's newest item, and the item at the front.
use mathlib.Core.List.{List, [], ◌∷◌}
use mathlib.Core.Path.{◌≡◌, sym, ◌∙◌}
use Prim.Native.Nat.{ℕ, ◌≤◌, ◌<◌}
use native.Mathlib.Nat.{not-suc-le-zero}
use lib.ListN.{length}
use Rattle.table.specs.Kind as kind
use Rattle.table.specs.Owners.{WindowWords}
use Rattle.rules.specs.Rows.{last_or}
use Rattle.rules.specs.Picture.{Item, own_rows, count_of}
use Rattle.rules.specs.Steps.{newest_item, front_item}
use Rattle.rules.specs.Parts.{Queued}
use Rattle.rules.proofs.Rows.{last_any}
use Rattle.rules.proofs.Columns.{first_is}
use Rattle.rules.proofs.Leaving.{newest_row}

module _ {q : ℕ} {W : WindowWords} {w : List Item} {free : List ℕ} (k : Queued q W w free) where
  module _ (c : ℕ) (hc : c < q) (some : 1 ≤ count_of w c) where
    pub newest_own : W.newest c ≡ last_or kind.none (own_rows c w)
    newest_own = (k.own c hc).newest ∙ last_any 0 kind.none (own_rows c w) some

    pub newest_is : (d : Item) → W.newest c ≡ (newest_item c d w).row
    newest_is d = (k.own c hc).newest ∙ last_any 0 d.row (own_rows c w) some ∙ sym (newest_row c d w)

pub front_is : {q : ℕ} {W : WindowWords} {w : List Item} {free : List ℕ} → 1 ≤ length w → Queued q W w free → W.front ≡ (front_item w).row
front_is {w = []} h k = absurd (not-suc-le-zero h)
front_is {w = i ∷ w} h k = first_is k.window
