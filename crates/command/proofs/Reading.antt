-- A command is read at its place, and the code's is the rules' one.
use mathlib.Core.Bool.{Bool, true, false, cond}
use mathlib.Core.List.{List}
use mathlib.Core.Path.{◌≡◌, refl, sym, ◌∙◌}
use Prim.Native.Nat.{ℕ, ◌+◌}
use native.Mathlib.Nat.{add-zero}
use lib.Dec.{eqb}
use lib.ListN.{get_or, drop}
use lib.Seq.{get_or-drop, drop-drop}
use Rattle.rules.specs.Commands as commands
use Rattle.rules.specs.Run as rule
use Rattle.rules.specs.Run.{four_bytes, kind_of, id_in, ticket_in}
use Rattle.answers.specs.declared.Request.{Request}
use Rattle.answers.specs.Engine.{as_request}
use Rattle.command.specs.declared.Command.TheVariants.{Arrive, Slide, Serve}
use Rattle.std.specs.Prelude.{Option, Some, None}
use Rattle.command.specs.declared.Command.{Command}
use Rattle.command.specs.Bytes.{as_command, known_command, command_of}

pub kind_read : (s : List ℕ) (at : ℕ) → get_or s at 0 ≡ kind_of (drop at s)
kind_read s at = simp (get_or-drop, add-zero)

pub id_read : (s : List ℕ) (at : ℕ) → four_bytes (drop (at + 1) s) ≡ id_in (drop at s)
id_read s at = simp drop-drop

pub ticket_read : (s : List ℕ) (at : ℕ) → four_bytes (drop (at + 5) s) ≡ ticket_in (drop at s)
ticket_read s at = simp drop-drop

pub as_ruled : (k i t : ℕ) → as_command (known_command k i t) ≡ rule.command_of k i t
as_ruled k i t = go (eqb k 1) (eqb k 2) (record { id = i; ticket = t })
  where
    go : (a b : Bool) (r : Request) → as_command (cond a (Arrive r) (cond b (Slide r) Serve))
        ≡ cond a (commands.arriving (as_request r)) (cond b (commands.sliding (as_request r)) commands.serving)
    go true b r = refl
    go false true r = refl
    go false false r = refl

-- which of the two they are
module _ (k i t : ℕ) where
  pub is_none : {o : Option Command} → (o ≡ None) → o ≡ command_of k i t → rule.known k i t ≡ false
  is_none n e = go (rule.known k i t) (sym n ∙ e)
    where
      go : (b : Bool) → None ≡ cond b (Some (known_command k i t)) None → b ≡ false
      go true f = cc
      go false f = refl

  pub is_some : {o : Option Command} {c : Command} → o ≡ Some c → o ≡ command_of k i t → (rule.known k i t ≡ true) × (c ≡ known_command k i t)
  is_some {c = c} s e = go (rule.known k i t) (sym s ∙ e)
    where
      go : (b : Bool) → Some c ≡ cond b (Some (known_command k i t)) None → (b ≡ true) × (c ≡ known_command k i t)
      go true f = (refl, cc)
      go false f = absurd cc
