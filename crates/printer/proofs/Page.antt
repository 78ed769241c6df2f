-- What is printed, case by case; it has room on a page; and what a page holds where it was put in front.
use mathlib.Core.Bool.{true, false}
use mathlib.Core.List.{List, ◌++◌}
use mathlib.Core.Path.{◌≡◌, sym}
use Prim.Native.Nat.{ℕ, ◌-◌, ◌≤◌, ◌<◌}
use native.Mathlib.Omega.{arith}
use lib.ListN.{length, get_or, take, drop, length-drop, length-append}
use lib.Seq.{take_all, length-take-le}
use mir.Syntax.{w8}
use mir.Val.{Fits}
use borrow.Author.Tests.{lt-ltb, le-ltb}
use Rattle.rules.specs.Numbers as number
use Rattle.page.specs.Put.{written, Room, Put}
use Rattle.printed.specs.Printed.{most_bytes, in_range, places_in, refused, session, printed, longest}
use Rattle.printed.proofs.Short.{short}

module _ (s : List ℕ) where
  pub overlong : most_bytes < length s → printed s ≡ refused number.overlong
  unfolding printed
  overlong h = rw (lt-ltb most_bytes (length s) h)

  module _ (few : length s ≤ most_bytes) where
    pub cut : length s < 2 → printed s ≡ refused number.cut
    unfolding printed
    cut h = rw (le-ltb most_bytes (length s) few, lt-ltb (length s) 2 h)

    -- q is the input's own
    module _ (some : 2 ≤ length s) {q : ℕ} (own : q ≡ places_in s) where
      pub outside : in_range q ≡ false → printed s ≡ refused number.out_of_range
      unfolding printed
      outside e = rw (le-ltb most_bytes (length s) few, le-ltb (length s) 2 some, ← own, e)

      pub inside : in_range q ≡ true → printed s ≡ session q (take (length s - 2) (drop 2 s))
      unfolding printed
      inside e =
          rw (le-ltb most_bytes (length s) few, le-ltb (length s) 2 some, ← own, e, take_all (length s - 2) (drop 2 s) (omega (arith, length-drop 2 s)))

  module _ {x : List ℕ} (is : printed s ≡ x) {out : List ℕ} where
    -- a page has room for it
    pub page_room : ((k : ℕ) → Fits w8 (get_or s k 0)) → length out ≡ longest → Room out 0 x
    page_room bytes long = rw (← is) (record { fits = omega (arith, short s (λ k. (bytes k).fits)) })

    -- and holds it in front once it is put
    pub page_put : {out' : List ℕ} {n : ℕ} → Put out 0 x out' n → (n ≡ length (printed s)) × ((out' ≡ printed s ++ drop n out) × ((n ≤ length out') × (n ≡ length (take n out'))))
    unfolding written
    page_put {out'} {n} p =
        let long : n ≡ length (printed s) = rw is (omega (arith, p.place)) in
        let all : out' ≡ printed s ++ drop n out = rw is (rw (p.bytes, p.place)) in
        let few : n ≤ length out' = rw (all, length-append) (omega arith) in
        (long, (all, (few, sym (length-take-le n out' few))))
