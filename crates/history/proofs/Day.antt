-- The day record: after a lay-out and any calls, each total is what it was plus what the commands came to that the runs with the record carried out, or the largest value where that is larger.
use mathlib.Core.Bool.{Bool, true, false, cond}
use mathlib.Core.List.{List, [], ◌∷◌, ◌++◌, map, append-nil, append_assoc}
use mathlib.Core.Path.{◌≡◌, refl, sym, ap, ap₂, ◌∙◌}
use Prim.Native.Nat.{ℕ, ◌+◌, ◌≤◌, min}
use native.Mathlib.Decide.{dec_le}
use native.Mathlib.Omega.{arith}
use lib.Dec.{leb}
use lib.ListN.{length, take}
use borrow.Author.Tests.{le-leb, lt-leb}
use Rattle.std.specs.Prelude.{Result, Ok, Err}
use Rattle.rules.specs.Rows.{All}
use Rattle.rules.specs.Commands.{Outcome}
use Rattle.rules.specs.Run.{carried, outcomes, Totals, total}
use Rattle.rules.specs.Sound.{Right}
use Rattle.rules.specs.Verdict.{lay_out_number, laid_out}
use Rattle.rules.proofs.Run.{total_append}
use Rattle.answers.specs.declared.Refusal.{Refusal}
use Rattle.answers.specs.declared.Refusal.TheVariants as refusals
use Rattle.answers.specs.declared.Report.{Report}
use Rattle.layout.proofs.After.{laid_is}
use Rattle.run.specs.Runs.{report_of}
use Rattle.day.specs.Day.{largest, sum_of, added, after_run}
use Rattle.history.specs.Plain.{Call, carry, run, replay, ask, lay_out, Lent, lent, ran, State, start, short, plain_next}
use Rattle.history.specs.Words.{Slice, drawn_out, state_of, fresh, picture_next}
use Rattle.history.specs.Day.{day_step, day_after, recorded_by, recorded, in_order, day_totals}
use Rattle.history.proofs.Call.{Comes, comes}
use Rattle.history.proofs.History.{fresh_long, fresh_right}

-- sums that stay at m
abbrev capped : ℕ → ℕ → ℕ → ℕ
capped m a b = cond (leb (a + b) m) (a + b) m

capped_twice : (m a b c : ℕ) → capped m (capped m a b) c ≡ capped m a (b + c)
capped_twice m a b c =
    elim (dec_le (a + b) m) [
      | yes h ↦ rw (le-leb (a + b) m h) (ap (λ (n : ℕ). cond (leb n m) n m) (let e : a + b + c ≡ a + (b + c) = omega arith in e))
      | no g ↦ rw (lt-leb (a + b) m (omega (arith, g)), lt-leb (a + (b + c)) m (omega (arith, g)))
          (elim (dec_le (m + c) m) [
            | yes h ↦ rw (le-leb (m + c) m h) (omega arith)
            | no f ↦ rw (lt-leb (m + c) m (omega (arith, f)))
          ])
    ]

capped_none : (m a : ℕ) → a ≤ m → capped m a 0 ≡ a
capped_none m a h = rw (le-leb (a + 0) m (omega arith)) (omega arith)

-- more of some totals, and then more
module _ (os ps : List Outcome) where
  added_twice : (fs : List (Totals → ℕ)) (d : List ℕ) → added (added d (map (λ f. total f os) fs)) (map (λ f. total f ps) fs) ≡ added d (map (λ f. total f (os ++ ps)) fs)
  added_twice [] [] = refl
  added_twice [] (x ∷ d) = refl
  added_twice (f ∷ fs) [] = refl
  added_twice (f ∷ fs) (x ∷ d) =
      ap₂ (λ (y : ℕ) (l : List ℕ). y ∷ l) (capped_twice largest x (total f os) (total f ps) ∙ ap (sum_of x) (sym (total_append f os ps))) (added_twice fs d)

-- nothing more of totals that are no larger than the largest value
added_nothing : (fs : List (Totals → ℕ)) (d : List ℕ) → All (λ x. x ≤ largest) d → added d (map (λ f. total f []) fs) ≡ d
added_nothing [] [] a = refl
added_nothing [] (x ∷ d) a = refl
added_nothing (f ∷ fs) [] a = refl
added_nothing (f ∷ fs) (x ∷ d) a = ap₂ (λ (y : ℕ) (l : List ℕ). y ∷ l) (capped_none largest x a.0) (added_nothing fs d a.1)

-- one call: the record d with these outcomes more has then those that the call records more
ran_so : {x y : Result Report Refusal} → ran x ≡ ran y → x ≡ y
ran_so e = cc

module _ (d : List ℕ) (os : List Outcome) where
  abbrev Brought : List ℕ → List Outcome → Type 0
  Brought after more = after ≡ added d (day_totals (os ++ more))

  none_brought : Brought (added d (day_totals os)) []
  none_brought = ap (λ (l : List Outcome). added d (day_totals l)) (sym (append-nil os))

  run_brought : (few : Bool) {x : Result Report Refusal} (s : State) (bytes : List ℕ) (budget : ℕ) (r : Refusal)
      → ran x ≡ cond few (ran (Err r)) (ran (Ok (report_of s.limits s.waiting budget bytes)))
      → Brought (after_run (added d (day_totals os)) x) (cond few [] (outcomes s.limits s.waiting (carried budget bytes)))
  run_brought true s bytes budget r e = ap (after_run (added d (day_totals os))) (ran_so e) ∙ none_brought
  run_brought false s bytes budget r e =
      ap (after_run (added d (day_totals os))) (ran_so e) ∙ added_twice os (outcomes s.limits s.waiting (carried budget bytes)) in_order d

  call_brought : (S : Slice) → Right S.picture → (l : Lent)
      → Brought (day_step l.call (added d (day_totals os)) (take l.words (drawn_out S))) (recorded_by (min l.words (length (drawn_out S))) (state_of S) l.call)
  call_brought S v l = go l.call l.words
    where
      go : (c : Call) (w : ℕ) → Brought (day_step c (added d (day_totals os)) (take w (drawn_out S))) (recorded_by (min w (length (drawn_out S))) (state_of S) c)
      go (carry c) w = none_brought
      go (run true bytes budget) w =
          run_brought (short (min w (length (drawn_out S))) (state_of S)) (state_of S) bytes budget refusals.TooShort (comes S v (lent w (run true bytes budget))).answers
      go (run false bytes budget) w = none_brought
      go (replay bytes first) w = none_brought
      go (ask x) w = none_brought
      go (lay_out q) w = none_brought

-- calls, one after the other
brought : (calls : List Lent) (S : Slice) → Right S.picture → {n : ℕ} {s : State} → length (drawn_out S) ≡ n → state_of S ≡ s → (d : List ℕ) (os : List Outcome)
    → day_after calls (added d (day_totals os)) (drawn_out S) ≡ added d (day_totals (os ++ recorded n s calls))
brought [] S v long goes d os = none_brought d os
brought (l ∷ calls) S v {n} {s} long goes d os =
    let c : Comes S l = comes S v l in
    let more : List Outcome = recorded_by (min l.words n) s l.call in
    let step : day_step l.call (added d (day_totals os)) (take l.words (drawn_out S)) ≡ added d (day_totals (os ++ more)) =
    call_brought d os S v l ∙ (λ i. added d (day_totals (os ++ recorded_by (min l.words (long i)) (goes i) l.call))) in
    ap₂ (day_after calls) step c.leaves
    ∙ brought calls (picture_next S l) c.right (c.long ∙ long) (c.goes ∙ (λ i. plain_next (long i) (goes i) l)) d (os ++ more)
    ∙ ap (λ (l : List Outcome). added d (day_totals l)) (append_assoc os more (recorded n (plain_next n s l) calls))

-- w is any slice in which a table of q places can be laid out, and d a record of 64-bit totals
pub the_day : (q : ℕ) (w : List ℕ) → lay_out_number q (length w) ≡ 0 → (calls : List Lent) (d : List ℕ) → All (λ x. x ≤ largest) d
    → day_after calls d (laid_out q w) ≡ added d (day_totals (recorded (length w) (start q) calls))
the_day q w laid calls d small =
    ap₂ (day_after calls) (sym (added_nothing in_order d small)) (laid_is q w laid) ∙ brought calls (fresh q w) (fresh_right q w laid) (fresh_long q w laid) refl d []
