-- Drawings that differ in few words: counted set by set, whatever the regions hold. (A set past the rows alters nothing and is counted all the same, so a writer's own bound may be sharper.)
use mathlib.Core.List.{List}
use mathlib.Core.Path.{◌≡◌, sym, ◌∙◌, subst}
use Prim.Native.Nat.{ℕ, ◌+◌, ◌≤◌, ◌<◌}
use native.Mathlib.Decide.{dec_lt}
use native.Mathlib.Omega.{arith}
use lib.ListN.{set}
use Rattle.table.specs.Kind as kind
use Rattle.table.specs.Regions.{Regions, words, altered, set_header, set_item, set_client, set_count, set_bucket}
use Rattle.table.proofs.Draw.{length_words, set_header_lem, set_item_lem, set_client_lem, set_count_lem, set_bucket_lem, item_past, client_past, count_past, bucket_past}
use Rattle.table.proofs.Write.{altered_same, altered_set, altered_trans}

module _ (q : ℕ) where
  -- the drawings of a table of q places differ in k words at most
  abbrev pub Few : ℕ → Regions → Regions → Type 0
  Few k R S = altered (words q R) (words q S) ≤ k

  few_same : (R S : Regions) (k : ℕ) → words q S ≡ words q R → Few k R S
  few_same R S k e = subst (λ (l : List ℕ). altered (words q R) l ≤ k) (sym e) (omega (arith, altered_same (words q R)))

  few_set : (R S : Regions) (i v : ℕ) → set (words q R) i v ≡ words q S → Few 1 R S
  few_set R S i v e = subst (λ (l : List ℕ). altered (words q R) l ≤ 1) e (altered_set (words q R) i v)

  pub few_then : (R S T : Regions) {k m : ℕ} → Few k R S → Few m S T → Few (k + m) R T
  few_then R S T x y =
      omega (arith, altered_trans (words q R) (words q S) (words q T) (length_words q S ∙ sym (length_words q R)), x, y)

  -- one word
  module _ (R : Regions) (r f v : ℕ) where
    pub few_header : f < kind.header_words → Few 1 R (set_header f v R)
    few_header h = few_set R (set_header f v R) f v (set_header_lem q R f v h)

    pub few_item : f < kind.item_words → Few 1 R (set_item r f v R)
    few_item h =
        elim (dec_lt r q) [
          | yes l ↦ few_set R (set_item r f v R) _ v (set_item_lem q R r f v l h)
          | no g ↦ few_same R (set_item r f v R) 1 (item_past q R r f v (omega (arith, g)))
        ]

    pub few_client : f < kind.client_words → Few 1 R (set_client r f v R)
    few_client h =
        elim (dec_lt r q) [
          | yes l ↦ few_set R (set_client r f v R) _ v (set_client_lem q R r f v l h)
          | no g ↦ few_same R (set_client r f v R) 1 (client_past q R r f v (omega (arith, g)))
        ]

    pub few_count : f < kind.count_words → Few 1 R (set_count r f v R)
    few_count h =
        elim (dec_lt r q) [
          | yes l ↦ few_set R (set_count r f v R) _ v (set_count_lem q R r f v l h)
          | no g ↦ few_same R (set_count r f v R) 1 (count_past q R r f v (omega (arith, g)))
        ]

  pub few_bucket : (R : Regions) (b v : ℕ) → Few 1 R (set_bucket b v R)
  few_bucket R b v =
      elim (dec_lt b q) [
        | yes l ↦ few_set R (set_bucket b v R) _ v (set_bucket_lem q R b v l)
        | no g ↦ few_same R (set_bucket b v R) 1 (bucket_past q R b v (omega (arith, g)))
      ]
