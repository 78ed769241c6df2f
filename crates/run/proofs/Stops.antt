-- The number of a reported stop is the stop rule's.
use mathlib.Core.Bool.{Bool, true, false, cond}
use mathlib.Core.List.{List}
use mathlib.Core.Path.{◌≡◌, refl}
use Prim.Native.Nat.{ℕ, zero, suc}
use lib.Dec.{eqb, ltb}
use lib.ListN.{length, drop}
use Rattle.rules.specs.Numbers as number
use Rattle.rules.specs.Run.{command_bytes, kind_of, id_in, ticket_in, known, stop}
use Rattle.answers.specs.Numbers.{stop_number}
use Rattle.answers.specs.Offered.{run_stop}

pub stop_said : (b : ℕ) (s : List ℕ) → stop_number (run_stop (stop b s)) ≡ stop b s
unfolding stop
stop_said zero s = go (eqb (length s) 0)
  where
    go : (e : Bool) → stop_number (run_stop (cond e number.ended number.spent)) ≡ cond e number.ended number.spent
    go true = refl
    go false = refl
stop_said (suc b) s = go (eqb (length s) 0) (ltb (length s) command_bytes) (known (kind_of s) (id_in s) (ticket_in s)) (stop b (drop command_bytes s)) (stop_said b (drop command_bytes s))
  where
    at : Bool → Bool → Bool → ℕ → ℕ
    at e f k n = cond e number.ended (cond f number.cut (cond k n number.bad_command))

    go : (e f k : Bool) (n : ℕ) → stop_number (run_stop n) ≡ n → stop_number (run_stop (at e f k n)) ≡ at e f k n
    go true f k n h = refl
    go false true k n h = refl
    go false false true n h = h
    go false false false n h = refl
