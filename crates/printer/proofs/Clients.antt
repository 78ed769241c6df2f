-- The clients' lines, put pair by pair: what `lines`' loop keeps, its turn, and its end.
use mathlib.Core.List.{List, [], ◌∷◌, ◌++◌}
use mathlib.Core.Path.{◌≡◌, refl}
use Prim.Native.Nat.{ℕ, ◌-◌, ◌≤◌, ◌<◌}
use native.Mathlib.Omega.{arith}
use lib.ListN.{length, get_or, take, drop, length-drop}
use Rattle.std.proofs.lemmas.List.{take_all}
use Rattle.page.specs.Form.{filled}
use Rattle.page.specs.Put.{Room, Put}
use Rattle.page.proofs.Begun.{Begun, begun_room, begun_next, begun_end}
use Rattle.printed.specs.Printed.{client_form, client_lines}

-- the line of the first pair
abbrev first_line : List ℕ → List ℕ
first_line ws = filled client_form (get_or ws 0 0 ∷ get_or ws 1 0 ∷ [])

at_pair : (ws : List ℕ) → 2 ≤ length ws → client_lines ws ≡ first_line ws ++ client_lines (drop 2 ws)
unfolding client_lines
at_pair [] h = absurd (omega (arith, h))
at_pair (w ∷ []) h = absurd (omega (arith, h))
at_pair (v ∷ w ∷ ws) h = refl

-- a word alone is no pair
at_end : (ws : List ℕ) → length ws < 2 → client_lines ws ≡ []
unfolding client_lines
at_end [] h = refl
at_end (w ∷ []) h = refl
at_end (v ∷ w ∷ ws) h = absurd (omega (arith, h))

-- the lines of the words before the rest are put
pub record Listing (ps out₀ : List ℕ) (at : ℕ) (out : List ℕ) (end : ℕ) (rest : List ℕ) : Type 0 where
  pub begun : Begun out₀ at (client_lines ps) out end (client_lines rest)

module _ {ps out₀ : List ℕ} {at : ℕ} {out : List ℕ} {end : ℕ} {rest : List ℕ} (l : Listing ps out₀ at out end rest) where
  module _ (h : 2 ≤ length rest) where
    pub line_room : Room out end (first_line rest)
    line_room = begun_room _ (rw (at_pair rest h) at l.begun)

    pub line_turn : {out' : List ℕ} {end' : ℕ} → Put out end (first_line rest) out' end' → Listing ps out₀ at out' end' (take (length rest - 2) (drop 2 rest))
    line_turn p = rw (take_all (length rest - 2) (drop 2 rest) (omega (arith, length-drop 2 rest))) (record { begun = begun_next _ (rw (at_pair rest h) at l.begun) p })

  pub lines_end : length rest < 2 → Put out₀ at (client_lines ps) out end
  lines_end h = begun_end (rw (at_end rest h) at l.begun)
