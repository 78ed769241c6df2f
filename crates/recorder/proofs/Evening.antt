-- The file of a host that records an evening is the recording of the commands that the recorder took.
use mathlib.Core.Bool.{Bool, true, false, cond, false≢true}
use mathlib.Core.List.{List, [], ◌∷◌, ◌++◌, append-nil}
use mathlib.Core.Path.{◌≡◌, refl, sym, ap, ◌∙◌, subst}
use Prim.Native.Nat.{ℕ, suc, ◌+◌, ◌/◌, ◌%◌, ◌≤◌, ◌<◌}
use native.Mathlib.Omega.{arith}
use lib.Dec.{eqb, ltb}
use lib.ListN.{length, length-append}
use lib.Seq.{append_snoc}
use borrow.Author.Tests.{ltb-true}
use Rattle.rules.specs.Numbers as number
use Rattle.rules.specs.Commands.{Command}
use Rattle.rules.specs.Run.{known, command_of}
use Rattle.rules.proofs.Choose.{either_way}
use Rattle.recording.specs.Kind as kind
use Rattle.recording.specs.Block.{Fits, AllFit, sealed, blocks_from, recording}
use Rattle.recording.proofs.Written.{last_block, begun, sealed_last, stored_last}
use Rattle.recorder.proofs.Calls.{known_bytes}
use Rattle.recorder.specs.Record.{record_number, record_block, one_more}
use Rattle.recorder.specs.Evening.{Asked, Fit, Evening, nothing, stored_at, place_of, number_of, record_all, taken}

-- the command of a call
abbrev command_in : Asked → Command
command_in a = command_of a.kind a.id a.ticket

-- a call that is not refused has a command, and there is room for it
not_refused : (n : ℕ) (a : Asked) → eqb (number_of n a) 0 ≡ true → (known a.kind a.id a.ticket ≡ true) × (n < kind.most_commands)
unfolding record_number
not_refused n a = go (known a.kind a.id a.ticket) (ltb n kind.most_commands) refl refl
  where
    go : (k r : Bool) → known a.kind a.id a.ticket ≡ k → ltb n kind.most_commands ≡ r → eqb (cond k (cond r 0 number.full) number.bad_recorded) 0 ≡ true
        → (known a.kind a.id a.ticket ≡ true) × (n < kind.most_commands)
    go true true y l e = (y, ltb-true n kind.most_commands l)
    go true false y l e = absurd (false≢true e)
    go false r y l e = absurd (false≢true e)

-- what holds of a host that recorded these commands
record Holds (e : Evening) (cs : List Command) : Type 0 where
  number : e.recorded ≡ length cs
  file : e.file ≡ recording cs
  last : 0 < length cs → e.block ≡ last_block cs

at_first : (b : List ℕ) → Holds (nothing b) []
unfolding blocks_from
at_first b = record { number = refl; file = refl; last = λ some. absurd (omega arith) }

-- the host after a call that stores this block
abbrev after : Evening → List ℕ → Evening
after e b = record { file = stored_at (place_of e.recorded) b e.file; block = b; recorded = suc e.recorded }

module _ (e : Evening) (cs : List Command) (v : Holds e cs) where
  -- one command more: the last block is stored
  one_more_lem : (c : Command) (b : List ℕ) → b ≡ last_block (cs ++ (c ∷ [])) → Holds (after e b) (cs ++ (c ∷ []))
  one_more_lem c b z =
      record {
        number = omega (arith, v.number, length-append cs (c ∷ []));
        file = (λ i. stored_at (place_of (v.number i)) (z i) (v.file i)) ∙ stored_last cs c;
        last = λ some. z;
      }

  -- which is what the recorder makes of the block before
  new_block : (a : Asked) → eqb (number_of e.recorded a) 0 ≡ true
      → record_block e.recorded a.kind a.id a.ticket e.block ≡ last_block (cs ++ (command_in a ∷ []))
  unfolding record_block
  new_block a y =
      let bytes = known_bytes a.kind a.id a.ticket (not_refused e.recorded a y).0 in
      ap (λ (t : Bool). cond t (one_more e.recorded a.kind a.id a.ticket e.block) e.block) y
      ∙ ap (λ (n : ℕ). one_more n a.kind a.id a.ticket e.block) v.number
      ∙ (λ i. sealed (begun cs e.block v.last i ++ sym bytes i) (suc (length cs % kind.commands)) (length cs / kind.commands))
      ∙ sealed_last cs (command_in a)

-- so it holds after all calls
all_hold : (calls : List Asked) (e : Evening) (cs : List Command) → Holds e cs → Holds (record_all e calls) (cs ++ taken e.recorded calls)
all_hold [] e cs v = rw append-nil v
all_hold (a ∷ more) e cs v = go (eqb (number_of e.recorded a) 0) refl (all_hold more)
  where
    b : List ℕ
    b = record_block e.recorded a.kind a.id a.ticket e.block

    go : (t : Bool) → eqb (number_of e.recorded a) 0 ≡ t → ((e : Evening) (cs : List Command) → Holds e cs → Holds (record_all e more) (cs ++ taken e.recorded more))
        → Holds (record_all (cond t (after e b) e) more) (cs ++ cond t (command_in a ∷ taken (suc e.recorded) more) (taken e.recorded more))
    go true y next =
        let c = command_in a in
        let w = next (after e b) (cs ++ (c ∷ [])) (one_more_lem e cs v c b (new_block e cs v a y)) in
        subst (Holds (record_all (after e b) more)) (append_snoc cs c (taken (suc e.recorded) more)) w
    go false y next = next e cs v

module _ (b : List ℕ) (calls : List Asked) where
  holds : Holds (record_all (nothing b) calls) (taken 0 calls)
  holds = all_hold calls (nothing b) [] (at_first b)

  -- the file is the recording of the commands that were taken, whatever the block was at first
  pub the_file : (record_all (nothing b) calls).file ≡ recording (taken 0 calls)
  the_file = holds.file

  pub the_number : (record_all (nothing b) calls).recorded ≡ length (taken 0 calls)
  the_number = holds.number

  -- and the block in the making is its last block
  pub the_block : 0 < length (taken 0 calls) → (record_all (nothing b) calls).block ≡ last_block (taken 0 calls)
  the_block = holds.last

-- no more commands are taken than a recording has room for
pub taken_few : (n : ℕ) (calls : List Asked) → n ≤ kind.most_commands → n + length (taken n calls) ≤ kind.most_commands
taken_few n [] h = omega arith
taken_few n (a ∷ more) h = go (eqb (number_of n a) 0) refl (λ m. taken_few m more)
  where
    go : (t : Bool) → eqb (number_of n a) 0 ≡ t → ((m : ℕ) → m ≤ kind.most_commands → m + length (taken m more) ≤ kind.most_commands)
        → n + length (cond t (command_in a ∷ taken (suc n) more) (taken n more)) ≤ kind.most_commands
    go true y next = omega (arith, next (suc n) (not_refused n a y).1)
    go false y next = next n h

-- and their numbers fit where those of the calls do
pub taken_fit : (n : ℕ) (calls : List Asked) → Fit calls → AllFit (taken n calls)
taken_fit n [] f = tt
taken_fit n (a ∷ more) (f, fs) =
    let fits : Fits (command_in a) = either_way Fits (eqb a.kind 1) f (either_way Fits (eqb a.kind 2) f tt) in
    either_way AllFit (eqb (number_of n a) 0) (fits, taken_fit (suc n) more fs) (taken_fit n more fs)
