-- The steps on pictures, row by row: what they do to the rows of the clients and to the counts.
use mathlib.Core.List.{List, [], ◌∷◌, map}
use mathlib.Core.Bool.{Bool, true, false, cond}
use mathlib.Core.Path.{◌≡◌, refl, sym, ap, ◌∙◌, fun_ext}
use Prim.Native.Nat.{ℕ, ◌+◌, ◌-◌}
use native.Mathlib.Numerals.{add-one}
use native.Mathlib.Omega.{arith}
use lib.Dec.{eqb, leb}
use lib.ListN.{length}
use borrow.Author.Tests.{eqb-true, eqb-false}
use Rattle.table.specs.Regions.{at}
use Rattle.rules.specs.Rows.{without}
use Rattle.rules.specs.History as history
use Rattle.rules.specs.Picture.{Item, Client, client_row, count_of}
use Rattle.rules.specs.Steps.{without_client, place}
use Rattle.rules.proofs.Put.{Put, put_length}
use Rattle.rules.proofs.Look.{own_put, own_kept}

pub without_rows : (r : ℕ) (cs : List Client) → map client_row (without_client r cs) ≡ without r (map client_row cs)
without_rows r [] = refl
without_rows r (c ∷ cs) = go (eqb c.row r) (without_rows r cs)
  where
    go : (b : Bool) → map client_row (without_client r cs) ≡ without r (map client_row cs)
        → map client_row (cond b cs (c ∷ without_client r cs)) ≡ cond b (map client_row cs) (c.row ∷ without r (map client_row cs))
    go true e = refl
    go false e = ap (λ (l : List ℕ). c.row ∷ l) e

-- the same place by rows as by clients
pub place_rows : (n : ℕ → ℕ) (c : Client) (cs : List Client) → map client_row (place n c cs) ≡ history.place n c.row (map client_row cs)
place_rows n c [] = refl
place_rows n c (x ∷ cs) = go (leb (n c.row) (n x.row)) (place_rows n c cs)
  where
    go : (b : Bool) → map client_row (place n c cs) ≡ history.place n c.row (map client_row cs)
        → map client_row (cond b (c ∷ x ∷ cs) (x ∷ place n c cs)) ≡ cond b (c.row ∷ x.row ∷ map client_row cs) (x.row ∷ history.place n c.row (map client_row cs))
    go true e = refl
    go false e = ap (λ (l : List ℕ). x.row ∷ l) e

-- the counts with one item more: one more of its client's
pub counts_put : {i : Item} {v w : List Item} → Put i v w → count_of w ≡ at (count_of v) i.client (count_of v i.client + 1)
counts_put {i} {v} {w} p = fun_ext λ x. go x (eqb x i.client) refl
  where
    go : (x : ℕ) (b : Bool) → eqb x i.client ≡ b → count_of w x ≡ cond b (count_of v i.client + 1) (count_of v x)
    go x true e =
        let z : x ≡ i.client = eqb-true x i.client e in
        rw z (put_length (own_put i.client p refl) ∙ sym (add-one (count_of v i.client)))
    go x false e = ap length (own_kept x p (λ z. eqb-false x i.client e (sym z)))

-- and with one fewer
pub counts_take : {i : Item} {v w : List Item} → Put i v w → count_of v ≡ at (count_of w) i.client (count_of w i.client - 1)
counts_take {i} {v} {w} p = fun_ext λ x. go x (eqb x i.client) refl
  where
    go : (x : ℕ) (b : Bool) → eqb x i.client ≡ b → count_of v x ≡ cond b (count_of w i.client - 1) (count_of w x)
    go x true e =
        let z : x ≡ i.client = eqb-true x i.client e in
        rw z (omega (arith, put_length (own_put i.client p refl)))
    go x false e = ap length (sym (own_kept x p (λ z. eqb-false x i.client e (sym z))))
