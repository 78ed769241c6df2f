-- The fields of each reply are the documents' numbers for the answer that it holds.
use mathlib.Core.Path.{◌≡◌, refl}
use Prim.Native.Nat.{ℕ}
use Rattle.std.specs.Prelude.{Option, Some, None, Result, Ok, Err}
use Rattle.answers.specs.Numbers.{arrived_numbers, slid_numbers, served_numbers, listed_numbers, counted_numbers, told_numbers, ran_numbers, replayed_numbers}
use Rattle.answers.specs.declared.Refusal.{Refusal}
use Rattle.answers.specs.declared.Request.{Request}
use Rattle.answers.specs.declared.Choice.{Choice}
use Rattle.answers.specs.declared.Choice.TheVariants as choices
use Rattle.answers.specs.declared.Report.{Report}
use Rattle.answers.specs.declared.Replay.{Replay}
use Rattle.boomspool.specs.Replies.{arrived_struct, arrived_fields, slid_struct, slid_fields, served_struct, served_fields, listed_struct, listed_fields, counted_struct, counted_fields, told_struct, told_fields, ran_struct, ran_fields, replayed_struct, replayed_fields}

pub arrived_numbered : (a : Result Choice Refusal) → arrived_fields (arrived_struct a) ≡ arrived_numbers a
arrived_numbered (Ok choices.Joined) = refl
arrived_numbered (Ok (choices.Evicted r)) = refl
arrived_numbered (Ok choices.Turned) = refl
arrived_numbered (Err x) = refl

pub slid_numbered : (a : Result (Option Request) Refusal) → slid_fields (slid_struct a) ≡ slid_numbers a
slid_numbered (Ok None) = refl
slid_numbered (Ok (Some r)) = refl
slid_numbered (Err x) = refl

pub served_numbered : (a : Result Request Refusal) → served_fields (served_struct a) ≡ served_numbers a
served_numbered (Ok r) = refl
served_numbered (Err x) = refl

pub listed_numbered : (a : Result ℕ Refusal) → listed_fields (listed_struct a) ≡ listed_numbers a
listed_numbered (Ok n) = refl
listed_numbered (Err x) = refl

pub counted_numbered : (a : Result ℕ Refusal) → counted_fields (counted_struct a) ≡ counted_numbers a
counted_numbered (Ok n) = refl
counted_numbered (Err x) = refl

pub told_numbered : (a : Result ℕ Refusal) → told_fields (told_struct a) ≡ told_numbers a
told_numbered (Ok n) = refl
told_numbered (Err x) = refl

pub ran_numbered : (a : Result Report Refusal) → ran_fields (ran_struct a) ≡ ran_numbers a
ran_numbered (Ok r) = refl
ran_numbered (Err x) = refl

pub replayed_numbered : (a : Result Replay Refusal) → replayed_fields (replayed_struct a) ≡ replayed_numbers a
replayed_numbered (Ok r) = refl
replayed_numbered (Err x) = refl
