-- What a call answers and leaves in the block, case by case.
use mathlib.Core.Bool.{Bool, true, false, cond, ◌&&◌, ◌||◌, false≢true}
use mathlib.Core.List.{List}
use mathlib.Core.Path.{◌≡◌, refl, sym, ap, ◌∙◌}
use Prim.Native.Nat.{ℕ, ◌≤◌, ◌<◌}
use lib.Dec.{eqb}
use borrow.Author.Tests.{lt-ltb, le-ltb, eqb-true}
use Rattle.std.specs.Prelude.{Option, Some, None}
use Rattle.rules.specs.Numbers as number
use Rattle.rules.specs.History.{request}
use Rattle.rules.specs.Commands.{arriving, sliding, serving}
use Rattle.rules.specs.Run as rule
use Rattle.rules.specs.Run.{known}
use Rattle.command.specs.declared.Command.{Command}
use Rattle.command.specs.Bytes.{as_command, known_command, command_of, nine, bytes_of}
use Rattle.command.proofs.Reading.{as_ruled}
use Rattle.recording.specs.Kind as kind
use Rattle.recorder.specs.Record.{record_number, one_more, record_block}

-- numbers that are a command are its bytes
pub known_bytes : (k i t : ℕ) → known k i t ≡ true → bytes_of (rule.command_of k i t) ≡ nine k i t
known_bytes k i t = go (eqb k 1) (eqb k 2) (eqb k 3) (eqb i 0) (eqb t 0) refl refl refl refl refl
  where
    go : (a b c d f : Bool) → eqb k 1 ≡ a → eqb k 2 ≡ b → eqb k 3 ≡ c → eqb i 0 ≡ d → eqb t 0 ≡ f → (a || (b || (c && (d && f)))) ≡ true
        → bytes_of (cond a (arriving (request i t)) (cond b (sliding (request i t)) serving)) ≡ nine k i t
    go true b c d f one two three none blank e = ap (λ (j : ℕ). nine j i t) (sym (eqb-true k 1 one))
    go false true c d f one two three none blank e = ap (λ (j : ℕ). nine j i t) (sym (eqb-true k 2 two))
    go false false true true true one two three none blank e = sym (λ j. nine (eqb-true k 3 three j) (eqb-true i 0 none j) (eqb-true t 0 blank j))
    go false false true true false one two three none blank e = absurd (false≢true e)
    go false false true false f one two three none blank e = absurd (false≢true e)
    go false false false d f one two three none blank e = absurd (false≢true e)

-- which command they are, or that they are none
module _ (k i t : ℕ) {o : Option Command} (is : o ≡ command_of k i t) where
  pub is_one : {c : Command} → o ≡ Some c → (known k i t ≡ true) × (bytes_of (as_command c) ≡ nine k i t)
  is_one {c} e = go (known k i t) refl (sym e ∙ is)
    where
      go : (b : Bool) → known k i t ≡ b → Some c ≡ cond b (Some (known_command k i t)) None → (known k i t ≡ true) × (bytes_of (as_command c) ≡ nine k i t)
      go true y f = let g : c ≡ known_command k i t = cc in (y, ap (λ c. bytes_of (as_command c)) g ∙ ap bytes_of (as_ruled k i t) ∙ known_bytes k i t y)
      go false y f = cc

  pub is_none : o ≡ None → known k i t ≡ false
  is_none e = go (known k i t) refl (sym e ∙ is)
    where
      go : (b : Bool) → known k i t ≡ b → None ≡ cond b (Some (known_command k i t)) None → known k i t ≡ false
      go true y f = cc
      go false y f = y

-- n commands recorded, a call with kind k, id i and ticket t, and the block b
module _ (n k i t : ℕ) (b : List ℕ) where
  pub no_command : known k i t ≡ false → (number.bad_recorded ≡ record_number n k i t) × (b ≡ record_block n k i t b)
  unfolding record_number record_block
  no_command e = (rw e, rw e)

  pub no_room : known k i t ≡ true → kind.most_commands ≤ n → (number.full ≡ record_number n k i t) × (b ≡ record_block n k i t b)
  unfolding record_number record_block
  no_room e h = let f = le-ltb n kind.most_commands h in (rw (e, f), rw (e, f))

  pub recorded : known k i t ≡ true → n < kind.most_commands → (b' : List ℕ) → b' ≡ one_more n k i t b → (0 ≡ record_number n k i t) × (b' ≡ record_block n k i t b)
  unfolding record_number record_block
  recorded e h b' w = let f = lt-ltb n kind.most_commands h in (rw (e, f), w ∙ rw (e, f))
