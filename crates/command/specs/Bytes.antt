-- What nine bytes say, the command in them as the code holds it, which of the rules' it is, and the nine bytes of a command.
use Rattle.std.specs.Prelude.{cond, eqb, List, [], ◌∷◌, ◌++◌, ℕ, ◌/◌, ◌%◌, Option, Some, None}
use Rattle.rules.specs.Commands as commands
use Rattle.rules.specs.Commands.{arriving, sliding, serving}
use Rattle.rules.specs.Run.{kind_of, id_in, ticket_in, known}
use Rattle.answers.specs.Engine.{as_request}
use Rattle.command.specs.declared.NineBytes.{NineBytes}
use Rattle.command.specs.declared.Command.{Command}
use Rattle.command.specs.declared.Command.TheVariants.{Arrive, Slide, Serve}

-- the front of the bytes
abbrev pub command_at : List ℕ → NineBytes
command_at s = record { kind = kind_of s; id = id_in s; ticket = ticket_in s }

-- which command it is
abbrev pub as_command : Command → commands.Command
as_command (Arrive r) = commands.arriving (as_request r)
as_command (Slide r) = commands.sliding (as_request r)
as_command Serve = commands.serving

-- the command of a kind, an id and a ticket that are one
abbrev pub known_command : ℕ → ℕ → ℕ → Command
known_command k i t = cond (eqb k 1) (Arrive (record { id = i; ticket = t })) (cond (eqb k 2) (Slide (record { id = i; ticket = t })) Serve)

-- the command that they are, if they are one
abbrev pub command_of : ℕ → ℕ → ℕ → Option Command
command_of k i t = cond (known k i t) (Some (known_command k i t)) None

-- the command in the front of the bytes, if they are one
abbrev pub command_in : List ℕ → Option Command
command_in s = command_of (kind_of s) (id_in s) (ticket_in s)

-- a number in four bytes, lowest first
abbrev pub four_of : ℕ → List ℕ
four_of x = x % 256 ∷ x / 256 % 256 ∷ x / 65536 % 256 ∷ x / 16777216 % 256 ∷ []

-- the nine bytes of a kind, an id and a ticket
abbrev pub nine : ℕ → ℕ → ℕ → List ℕ
nine k i t = k ∷ four_of i ++ four_of t

-- of a command
abbrev pub bytes_of : commands.Command → List ℕ
bytes_of (arriving r) = nine 1 r.id r.ticket
bytes_of (sliding r) = nine 2 r.id r.ticket
bytes_of serving = nine 3 0 0
