-- What is shown: the words of the listing, the room that the lines take, and both of them put.
use mathlib.Core.Bool.{Bool, true, false, cond}
use mathlib.Core.List.{List, [], ◌∷◌}
use mathlib.Core.Path.{◌≡◌, refl, sym}
use Prim.Native.Nat.{ℕ, suc, ◌+◌, ◌*◌, ◌^◌, ◌≤◌, ◌<◌}
use native.Mathlib.Omega.{arith}
use lib.ListN.{length, get_or, take, length-append}
use lib.Seq.{length-take-le}
use Rattle.table.specs.Kind as kind
use Rattle.rules.specs.History.{heaviest}
use Rattle.rules.specs.Verdict.{accepts}
use Rattle.rules.proofs.Decide.{no_true}
use Rattle.answers.specs.declared.Replay.{Replay}
use Rattle.std.specs.Prelude.{Result, Ok, Err}
use Rattle.answers.specs.declared.Refusal.{Refusal}
use Rattle.answers.specs.Numbers.{replayed_numbers}
use Rattle.answers.specs.Engine.{listing}
use Rattle.answers.specs.Offered.{refusal_on}
use Rattle.limiter.specs.Lent.{waiting_in}
use Rattle.limiter.specs.Questions.{listed_answer}
use Rattle.page.specs.Put.{Room, Put}
use Rattle.page.proofs.Begun.{begin, begun_end}
use Rattle.page.proofs.Long.{Words, filled_most, form_room}
use Rattle.page.proofs.Put.{put_length, put_then}
use Rattle.printed.specs.Printed.{client_form, client_lines}
use Rattle.printer.proofs.Listed as printed
use Rattle.replay.specs.Shown.{replay_form, replay_line, waiting_lines, shown}

-- a pair's line takes at most 44 bytes
lines_most : (ps : List ℕ) → ((k : ℕ) → get_or ps k 0 < 2 ^ 64) → length (client_lines ps) ≤ 22 * length ps
unfolding client_lines
lines_most [] h = omega arith
lines_most (i ∷ []) h = omega arith
lines_most (i ∷ n ∷ ps) h =
    rw length-append (omega (arith, filled_most client_form (i ∷ n ∷ []) (h 0, (h 1, tt)), lines_most ps (λ k. h (suc (suc k)))))

pub lines_room : (ps : List ℕ) {out : List ℕ} {at : ℕ} → ((k : ℕ) → get_or ps k 0 < 2 ^ 64) → at + 22 * length ps ≤ length out → Room out at (client_lines ps)
lines_room ps h room = record { fits = omega (arith, lines_most ps h) }

-- what the listing of all clients of t answers, into ps
module _ (t ps : List ℕ) (long : length ps ≡ 2 * kind.largest) where
  abbrev all : Result ℕ Refusal
  all = listing kind.largest (length ps) (waiting_in t)

  room : 2 * kind.largest ≤ length ps
  room = omega arith

  -- a refusal is answered: the table is refused, for there is room
  module _ {x : Refusal} (e : Err x ≡ listed_answer kind.largest (length ps) t) where
    nobody : waiting_lines t ≡ []
    nobody = go (accepts t) e
      where
        never : (l : Result ℕ Refusal) → l ≡ all → Err x ≡ l → ⊥
        never (Ok m) y e = cc
        never (Err z) y e = no_true (printed.never_refused kind.largest (waiting_in t) ps room y)

        go : (b : Bool) → Err x ≡ cond b all (Err (refusal_on t)) → cond b (client_lines (heaviest kind.largest (waiting_in t))) [] ≡ []
        go true e = absurd (never all refl e)
        go false e = refl

    pub none_put : {out : List ℕ} {at : ℕ} → at ≤ length out → Put out at (waiting_lines t) out at
    none_put h = rw nobody (begun_end (begin (record { fits = omega arith })))

-- the line of a report takes at most 256 bytes
module _ (r : Replay) where
  abbrev numbers : List ℕ
  numbers = replayed_numbers (Ok r)

  pub line_room : {out : List ℕ} → Words numbers → 256 ≤ length out → Room out 0 (replay_line r)
  line_room w h = form_room replay_form numbers w (omega arith)

  pub line_most : {out out' : List ℕ} {at : ℕ} → Words numbers → Put out 0 (replay_line r) out' at → at ≤ 256
  line_most w p = omega (arith, p.place, filled_most replay_form numbers w)

  -- the clients behind it, and all of that lies on the page
  pub shown_put : (t : List ℕ) {out out' out'' : List ℕ} {at end : ℕ} → Put out 0 (replay_line r) out' at → Put out' at (waiting_lines t) out'' end
      → Put out 0 (shown t r) out'' end × ((end ≤ length out'') × (end ≡ length (take end out'')))
  shown_put t {out'' = out''} {end = end} p q =
      let all : Put _ 0 (shown t r) out'' end = put_then p q in
      let few : end ≤ length out'' = omega (arith, put_length all, all.place, all.room.fits) in
      (all, (few, sym (length-take-le end out'' few)))
