-- The tests of a block one after the other: unused bytes, known commands, and the first test that fails.
use mathlib.Core.Bool.{Bool, true, false, ◌&&◌, and-true, and_assoc}
use mathlib.Core.List.{List, [], ◌∷◌}
use mathlib.Core.Path.{◌≡◌, refl, sym, ap, ◌∙◌}
use Prim.Native.Nat.{ℕ, suc, ◌+◌, ◌*◌, ◌-◌, ◌≤◌, ◌<◌}
use native.Mathlib.Numerals.{add-one}
use native.Mathlib.Omega.{arith}
use lib.Dec.{lit<, eqb}
use lib.ListN.{length, get_or, take, drop}
use lib.Seq.{slice, slice_empty, length-slice, get_or-drop, get_or-take, drop-drop}
use borrow.Author.Tests.{eq-eqb, lt-ltb}
use Rattle.std.proofs.lemmas.List.{drop-take}
use Rattle.std.specs.List.{list_all}
use Rattle.rules.specs.Numbers as number
use Rattle.rules.specs.Run.{command_bytes, kind_of, id_in, ticket_in, known, stop}
use Rattle.rules.proofs.Run.{ended, unknown, goes_on}
use Rattle.recording.specs.Kind as kind
use Rattle.recording.proofs.Pieces.{failing_few}
use Rattle.recording.specs.Block.{used_in, all_known, zeros, failing}

-- bytes that are all 0
pub all_zero : (s : List ℕ) → list_all (λ x. eqb x 0) s ≡ zeros s
unfolding zeros
all_zero [] = refl
all_zero (x ∷ s) = ap (λ (b : Bool). eqb x 0 && b) (all_zero s)

-- a part in the middle
pub middle : (f t : ℕ) (s : List ℕ) → f ≤ t → take (t - f) (drop f s) ≡ slice f t s
middle f t s h =
    let e : f + (t - f) ≡ t = omega arith in
    sym (drop-take f (t - f) s) ∙ ap (λ (n : ℕ). drop f (take n s)) e

-- the bytes of the used commands from the k-th on
abbrev from : List ℕ → ℕ → ℕ → List ℕ
from b used k = slice (command_bytes * k) (command_bytes * used) b

-- a run would carry out all the used commands, just when `all` holds and it would carry out those from the k-th on
pub record KnownTo (b : List ℕ) (used k : ℕ) (all : Bool) : Type 0 where
  pub few : used ≤ kind.commands
  pub long : length b ≡ kind.block_bytes
  pub inside : k ≤ used
  pub says : all_known b ≡ (all && eqb (stop (used - k) (from b used k)) number.ended)

pub none_tested : {b : List ℕ} {used : ℕ} → length b ≡ kind.block_bytes → used_in b ≤ kind.commands → used ≡ used_in b → KnownTo b used 0 true
none_tested {b} {used} l h e =
    let z : used - 0 ≡ used_in b = omega arith in
    record { few = omega arith; long = l; inside = omega arith; says = rw (z, e) }

-- whether the front of the bytes is a command, which is read in nine places
abbrev known_in : List ℕ → Bool
known_in s = known (kind_of s) (id_in s) (ticket_in s)

same_command : (s u : List ℕ) → ((i : ℕ) → i < command_bytes → get_or s i 0 ≡ get_or u i 0) → known_in s ≡ known_in u
same_command s u e =
    simp (get_or-drop, e 0 (lit< tt), e 1 (lit< tt), e 2 (lit< tt), e 3 (lit< tt), e 4 (lit< tt), e 5 (lit< tt), e 6 (lit< tt), e 7 (lit< tt), e 8 (lit< tt))

-- a run carries out all commands, just when the first is one and it carries out those behind it
first_tested : (s : List ℕ) → command_bytes ≤ length s → (n : ℕ) (first : Bool) → known_in s ≡ first
    → eqb (stop (suc n) s) number.ended ≡ (first && eqb (stop n (drop command_bytes s)) number.ended)
first_tested s whole n true e = ap (λ (m : ℕ). eqb m number.ended) (goes_on s (omega (arith, whole)) whole n e).0
first_tested s whole n false e = ap (λ (m : ℕ). eqb m number.ended) (unknown s (omega (arith, whole)) whole n e).number

module _ {b : List ℕ} {used k : ℕ} {all : Bool} (z : KnownTo b used k all) where
  pub all_tested : used ≤ k → all ≡ all_known b
  all_tested h =
      let e : k ≡ used = omega arith in
      let none : eqb (stop (used - k) (from b used k)) number.ended ≡ true = rw (e, slice_empty (command_bytes * used) b) (eq-eqb _ 0 (ended (used - used) [] refl).number) in
      sym (z.says ∙ ap (λ (t : Bool). all && t) none ∙ and-true all)

  module _ (more : k < used) where
    abbrev s : List ℕ
    s = from b used k

    whole : command_bytes ≤ length s
    whole = omega (arith, length-slice (command_bytes * k) (command_bytes * used) b (omega arith))

    one_left : used - k ≡ suc (used - (k + 1))
    one_left = let e : used - k ≡ used - (k + 1) + 1 = omega arith in e ∙ add-one (used - (k + 1))

    is : known_in s ≡ known_in (drop (command_bytes * k) b)
    is = same_command s (drop (command_bytes * k) b)
        (λ i h. get_or-drop (command_bytes * k) _ i 0 ∙ get_or-take (command_bytes * used) b (command_bytes * k + i) 0 (omega arith) ∙ sym (get_or-drop (command_bytes * k) b i 0))

    pub one_tested : {one : Bool} → one ≡ known_in (drop (command_bytes * k) b) → KnownTo b used (k + 1) (all && one)
    one_tested {one} e =
        let n : command_bytes * k + command_bytes ≡ command_bytes * (k + 1) = omega arith in
        let rest : drop command_bytes s ≡ from b used (k + 1) = drop-drop command_bytes (command_bytes * k) _ ∙ ap (λ (m : ℕ). slice m (command_bytes * used) b) n in
        let tested : eqb (stop (used - k) s) number.ended ≡ (one && eqb (stop (used - (k + 1)) (from b used (k + 1))) number.ended) =
        ap (λ (m : ℕ). eqb (stop m s) number.ended) one_left ∙ first_tested s whole (used - (k + 1)) one (is ∙ sym e) ∙ ap (λ (r : List ℕ). one && eqb (stop (used - (k + 1)) r) number.ended) rest in
        record {
          few = z.few;
          long = z.long;
          inside = omega arith;
          says = z.says ∙ ap (λ (t : Bool). all && t) tested ∙ sym (and_assoc all one _);
        }

-- a piece that is shorter than a block
pub too_short_lem : (n : ℕ) (b : List ℕ) → length b < kind.block_bytes → failing n b ≡ number.short_block
unfolding failing
too_short_lem n b h = simp (lt-ltb (length b) kind.block_bytes h)

-- the number of a block that passes is two bytes
pub number_small : {n : ℕ} (s : List ℕ) → failing n (take kind.block_bytes s) ≡ 0 → ((i : ℕ) → get_or s i 0 < 256) → n < kind.blocks
number_small {n} s e h =
    rw (← (failing_few n (take kind.block_bytes s) e).number)
    (simp (get_or-drop, get_or-take kind.block_bytes s kind.number_at 0 (lit< tt), get_or-take kind.block_bytes s (kind.number_at + 1) 0 (lit< tt))
    (omega (arith, h kind.number_at, h (kind.number_at + 1))))
