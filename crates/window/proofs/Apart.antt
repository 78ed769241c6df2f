-- Rows that a step on one list leaves alone: the free ones, the items of other clients, and rows that none of the items has.
use mathlib.Core.List.{List, [], ◌∷◌, ◌++◌, map}
use mathlib.Core.Path.{◌≡◌, sym, ◌∙◌}
use mathlib.Core.Logic.{⊎_elim, inl, inr}
use Prim.Native.Nat.{ℕ, ◌≤◌}
use native.Mathlib.Omega.{arith}
use Rattle.table.specs.Kind as kind
use Rattle.table.specs.Regions.{Regions, at}
use Rattle.table.specs.Owners.{WindowWords, window_words}
use Rattle.table.proofs.Draw.{at_same, at_other}
use Rattle.rules.specs.Rows.{In, NotIn, All}
use Rattle.rules.specs.Picture.{Item, item_row, own_rows}
use Rattle.rules.specs.Parts.{Queued}
use Rattle.rules.proofs.Rows.{other, apart_right, below_right, in_below, all_both, all_snoc, notin_all}
use Rattle.rules.proofs.Look.{own_in, owner_own}

module _ {q : ℕ} (hq : q ≤ kind.largest) {W : WindowWords} {w : List Item} {free : List ℕ} (k : Queued q W w free) where
  -- a free row is not none, and does not wait
  pub free_apart : (x y : ℕ) → In x free → In y (kind.none ∷ map item_row w) → x ≡ y → ⊥
  free_apart x y i j e =
      ⊎_elim (λ z. omega (arith, z, in_below q free (below_right q (map item_row w) free k.each.below) x i))
      (λ l. other x y (map item_row w) (apart_right x (map item_row w) free k.each.distinct i) l e) j

  pub free_own : (c x y : ℕ) → In x free → In y (kind.none ∷ own_rows c w) → x ≡ y → ⊥
  free_own c x y i j = free_apart x y i (⊎_elim (λ e. inl e) (λ l. inr (own_in c y w l)) j)

  -- an item has one owner
  pub owners_apart : (c d : ℕ) → (c ≡ d → ⊥) → (x : ℕ) → In x (own_rows d w) → In x (own_rows c w) → ⊥
  owners_apart c d n x i j = n (sym (owner_own c x w k.window.distinct j) ∙ owner_own d x w k.window.distinct i)

-- a row whose words are 0, but for its chain's
abbrev pub Blank : WindowWords → ℕ → Type 0
Blank W r = (W.owner r ≡ 0) × (W.ticket r ≡ 0) × (W.earlier r ≡ 0) × (W.own_earlier r ≡ 0) × (W.own_later r ≡ 0)

pub blank_so : (R S : Regions) (x : ℕ) → ((f : ℕ) → R.item x f ≡ S.item x f) → Blank (window_words R) x → Blank (window_words S) x
blank_so R S x e (owner, ticket, earlier, own_earlier, own_later) =
    (sym (e kind.owner) ∙ owner, sym (e kind.ticket) ∙ ticket, sym (e kind.earlier) ∙ earlier, sym (e kind.own_earlier) ∙ own_earlier, sym (e kind.own_later) ∙ own_later)

-- a column of the items, altered at a row that none of them has
pub all_at : (o : ℕ → ℕ) (value : Item → ℕ) (r v : ℕ) (w : List Item) → NotIn r (map item_row w) → All (λ i. o i.row ≡ value i) w
    → All (λ i. at o r v i.row ≡ value i) w
all_at o value r v w n = all_both _ _ _ w (λ i m e. at_other o r v i.row (λ z. m (sym z)) ∙ e) (notin_all item_row r w n)

-- and with one more item in that row
pub all_new : (o : ℕ → ℕ) (value : Item → ℕ) (w : List Item) (i : Item) → NotIn i.row (map item_row w) → All (λ j. o j.row ≡ value j) w
    → All (λ j. at o i.row (value i) j.row ≡ value j) (w ++ i ∷ [])
all_new o value w i n a = all_snoc _ w i (all_at o value i.row (value i) w n a) (at_same o i.row (value i))
