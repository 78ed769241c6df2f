-- An item goes out of its client's own items, drawn: where it was the only one the client's words become 0, and else they stay what unlinking made them.
use mathlib.Core.Bool.{Bool, true, false, cond, and-eq-true_iff}
use mathlib.Core.Path.{◌≡◌, refl, sym, ◌∙◌}
use Prim.Native.Nat.{ℕ, ◌≤◌}
use native.Mathlib.Omega.{arith}
use lib.Dec.{eqb}
use borrow.Author.Tests.{eq-eqb, ne_eqb, eqb-true}
use Rattle.table.specs.Kind as kind
use Rattle.table.specs.Regions.{Regions, words, set_client}
use Rattle.table.proofs.Draw.{cond_same}
use Rattle.table.proofs.Fields.{client_fields}
use Rattle.table.proofs.Whole.{agree_words}
use Rattle.links.specs.Strands.{the_own, unlink_in}
use Rattle.links.proofs.Strands.{client_stands, stays}
use Rattle.window.specs.Steps.{no_own, alone, leave_own}

cond_over : (b : Bool) (x y z : ℕ) → cond b x (cond b y z) ≡ cond b x z
cond_over true x y z = refl
cond_over false x y z = refl

-- neither neighbour is there
no_neighbour : (e l : ℕ) → alone e l ≡ true → (e ≡ kind.none) × (l ≡ kind.none)
no_neighbour e l h =
    let (a, b) = (and-eq-true_iff (eqb kind.none e) (eqb kind.none l)).0 h in
    (sym (eqb-true kind.none e a), sym (eqb-true kind.none l b))

module _ (q : ℕ) (hq : q ≤ kind.largest) (r : ℕ) (R : Regions) where
  abbrev c : ℕ
  c = R.item r kind.owner

  abbrev only : Bool
  only = alone (R.item r kind.own_earlier) (R.item r kind.own_later)

  pub only_drawn : only ≡ true → words q (no_own c R) ≡ words q (leave_own r R)
  only_drawn h =
      let (e, l) = no_neighbour (R.item r kind.own_earlier) (R.item r kind.own_later) h in
      let oldest : (x : ℕ) → (no_own c R).client x kind.oldest ≡ (leave_own r R).client x kind.oldest = λ x. simp (e, l, eq-eqb c c refl, cond_over) in
      let newest : (x : ℕ) → (no_own c R).client x kind.newest ≡ (leave_own r R).client x kind.newest = λ x. simp (e, l, eq-eqb c c refl, cond_over) in
      agree_words {R = no_own c R} {S = leave_own r R}
      (record {
        header = λ f _. refl;
        item = λ x f h _. let n : x ≡ kind.none → ⊥ = λ z. omega arith in simp (e, l, ne_eqb x kind.none n, cond_same);
        client = λ x f _ h.
            client_fields (λ f. (no_own c R).client x f ≡ (leave_own r R).client x f) refl refl refl refl (oldest x) (newest x) refl f h;
        count = λ x f _ _. refl;
        bucket = λ b _. refl;
      })

  pub one_drawn : only ≡ false → words q (unlink_in (the_own c) r R) ≡ words q (leave_own r R)
  one_drawn h =
      let U : Regions = unlink_in (the_own c) r R in
      let A : Regions = set_client c kind.oldest (U.client c kind.oldest) U in
      rw h (sym (stays (client_stands q) A c kind.newest ∙ stays (client_stands q) U c kind.oldest))
