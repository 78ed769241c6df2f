-- A host that records an evening: it stores the block after each call that is not refused, at byte 512 × (recorded / 56) of its file.
use Rattle.std.specs.Prelude.{cond, List, [], ◌∷◌, ◌++◌, ℕ, suc, ◌+◌, ◌*◌, ◌/◌, ◌<◌, eqb, take, drop}
use Rattle.rules.specs.Rows.{All}
use Rattle.rules.specs.Commands.{Command}
use Rattle.rules.specs.Run.{command_of}
use Rattle.recording.specs.Kind as kind
use Rattle.recorder.specs.Record.{record_number, record_block}

-- a call: the numbers that the recorder is passed, and that they are of 32 bits
pub record Asked : Type 0 where
  pub kind : ℕ
  pub id : ℕ
  pub ticket : ℕ

abbrev pub Fit : List Asked → Type 0
Fit = All (λ a. (a.id < 4294967296) × (a.ticket < 4294967296))

-- what the host has: its file, the block in the making, and how many commands were recorded
pub record Evening : Type 0 where
  pub file : List ℕ
  pub block : List ℕ
  pub recorded : ℕ

-- before the first call: no file, and any block
abbrev pub nothing : List ℕ → Evening
nothing b = record { file = []; block = b; recorded = 0 }

-- the file with a block stored at a place, over what was there
abbrev pub stored_at : ℕ → List ℕ → List ℕ → List ℕ
stored_at place b file = take place file ++ b ++ drop (place + kind.block_bytes) file

-- where the block in the making belongs, of a recording that has n commands so far
abbrev pub place_of : ℕ → ℕ
place_of n = kind.block_bytes * (n / kind.commands)

-- the number that a call is answered
abbrev pub number_of : ℕ → Asked → ℕ
number_of n a = record_number n a.kind a.id a.ticket

-- after a call: a refused one leaves everything
abbrev pub record_step : Evening → Asked → Evening
record_step e a =
    let b : List ℕ = record_block e.recorded a.kind a.id a.ticket e.block in
    cond (eqb (number_of e.recorded a) 0) (record { file = stored_at (place_of e.recorded) b e.file; block = b; recorded = suc e.recorded }) e

-- after calls, one after the other
abbrev pub record_all : Evening → List Asked → Evening
record_all e [] = e
record_all e (a ∷ more) = record_all (record_step e a) more

-- the commands that the recorder took, after n others
abbrev pub taken : ℕ → List Asked → List Command
taken n [] = []
taken n (a ∷ more) = cond (eqb (number_of n a) 0) (command_of a.kind a.id a.ticket ∷ taken (suc n) more) (taken n more)
