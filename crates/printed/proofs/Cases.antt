-- Document 01's session in whole, a run whose totals all differ, the most commands, and the refusals.
use mathlib.Core.List.{List, [], ◌∷◌, ◌++◌}
use mathlib.Core.Path.{◌≡◌, refl}
use Prim.Native.Nat.{ℕ, zero, suc, ◌<◌}
use lib.ListN.{length}
use borrow.Author.Tests.{lt-ltb}
use Rattle.rules.specs.History.{turned_away}
use Rattle.rules.specs.Run.{stop, carried}
use Rattle.page.specs.Text.{decimal}
use Rattle.page.specs.Form.{filled}
use Rattle.printed.specs.Printed.{bytes, client_lines, printed}

-- a command's nine bytes
command : ℕ → ℕ → ℕ → List ℕ
command k i t = k ∷ i ∷ 0 ∷ 0 ∷ 0 ∷ t ∷ 0 ∷ 0 ∷ 0 ∷ []

session : List ℕ
session =
    4 ∷ 0 ∷ command 1 1 10 ++ command 1 1 11 ++ command 1 2 12 ++ command 1 1 13 ++ command 1 3 14 ++ command 1 1 15 ++ command 1 2 16 ++ command 2 3 17 ++ command 3 0 0

whole : printed session ≡ bytes "stop 0 done 9 joined 6 evicted 1 passed 1 served 1 turned 2 idle 0\n3 2\n2 1\n"
unfolding turned_away stop carried decimal filled client_lines printed command session
whole = refl

-- a command so many times
times : ℕ → List ℕ → List ℕ
times zero c = []
times (suc n) c = c ++ times n c

-- six totals that all differ
varied : List ℕ
varied =
    2 ∷ 0 ∷ times 5 (command 3 0 0) ++ times 2 (command 1 1 1) ++ command 1 2 2 ++ times 4 (command 1 3 3) ++ times 2 (command 2 3 4) ++ times 2 (command 3 0 0) ++ command 1 1 5 ++ command 3 0 0 ++ command 1 7 6

apart : printed varied ≡ bytes "stop 0 done 19 joined 7 evicted 1 passed 2 served 3 turned 4 idle 5\n7 1\n"
unfolding turned_away stop carried decimal filled client_lines printed command times varied
apart = refl

-- as many serves as there is room for
most : printed (4 ∷ 0 ∷ times 1000 (command 3 0 0)) ≡ bytes "stop 0 done 1000 joined 0 evicted 0 passed 0 served 0 turned 0 idle 1000\n"
unfolding stop carried decimal filled client_lines printed command times
most = refl

-- the refusals: any over-long input, no Q, half of it, and Q of 0 and of 257
overlong : (s : List ℕ) → 9002 < length s → printed s ≡ bytes "refused 9\n"
unfolding decimal filled printed
overlong s h = rw (lt-ltb 9002 (length s) h)

nothing : printed [] ≡ bytes "refused 7\n"
unfolding decimal filled printed
nothing = refl

half : printed (4 ∷ []) ≡ bytes "refused 7\n"
unfolding decimal filled printed
half = refl

no_place : printed (0 ∷ 0 ∷ []) ≡ bytes "refused 1\n"
unfolding decimal filled printed
no_place = refl

too_many : printed (1 ∷ 1 ∷ []) ≡ bytes "refused 1\n"
unfolding decimal filled printed
too_many = refl
