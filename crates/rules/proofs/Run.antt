-- Laws of the run: a command on a right picture, commands one after the other, and the stop rule test by test.
use mathlib.Core.Bool.{true, false}
use mathlib.Core.List.{List, [], ◌∷◌, ◌++◌}
use mathlib.Core.Path.{◌≡◌, refl, ap, ◌∙◌}
use Prim.Native.Nat.{ℕ, zero, suc, ◌+◌, ◌≤◌, ◌<◌}
use native.Mathlib.Omega.{arith}
use lib.ListN.{length, drop}
use borrow.Author.Tests.{eq-eqb, ne_eqb, lt-ltb, le-ltb}
use Rattle.rules.specs.History.{Waiting, Limits}
use Rattle.rules.specs.Picture.{Picture, plain, limits_of}
use Rattle.rules.specs.Commands.{Command, arriving, sliding, serving, Outcome, joined, evicted, turned, passed, served, idle, outcome, step, next}
use Rattle.rules.specs.Run.{command_bytes, kind_of, id_in, ticket_in, known, command_of, stop, carried, after, outcomes, next_all, Totals, adds, total}
use Rattle.rules.specs.Sound.{Right}
use Rattle.rules.proofs.Settle.{Step}
use Rattle.rules.proofs.Steps.{arrive_step, slide_step, serve_step}

-- a command takes a right picture to a right one, which forgets to the history after it
pub next_step : (P : Picture) → Right P → (c : Command) → Step (limits_of P) (step (limits_of P) (plain P) c) (next P c)
next_step P v (arriving r) = arrive_step P v r.id r.ticket
next_step P v (sliding r) = slide_step P v r.id r.ticket
next_step P v serving = serve_step P v

-- and so do commands
pub all_step : (P : Picture) → Right P → (cs : List Command) → Step (limits_of P) (after (limits_of P) (plain P) cs) (next_all P cs)
all_step P v [] = record { right = v; limits = refl; plain = refl }
all_step P v (c ∷ cs) =
    let k = next_step P v c in
    let l = all_step (next P c) k.right cs in
    record {
      right = l.right;
      limits = l.limits ∙ k.limits;
      plain = l.plain ∙ (λ i. after (k.limits i) (k.plain i) cs);
    }

-- a run that stops before its first command
pub record Stops (b : ℕ) (s : List ℕ) (n : ℕ) : Type 0 where
  pub number : stop b s ≡ n
  pub nothing : carried b s ≡ []

-- the four tests, in their order
pub ended : (b : ℕ) (s : List ℕ) → length s ≡ 0 → Stops b s 0
unfolding stop carried
ended zero s e = record { number = simp (eq-eqb (length s) 0 e); nothing = refl }
ended (suc b) s e = record { number = simp (eq-eqb (length s) 0 e); nothing = simp (eq-eqb (length s) 0 e) }

module _ (s : List ℕ) (some : length s ≡ 0 → ⊥) where
  pub spent : Stops zero s 1
  unfolding stop carried
  spent = record { number = simp (ne_eqb (length s) 0 some); nothing = refl }

  pub short : (b : ℕ) → length s < command_bytes → Stops (suc b) s 7
  unfolding stop carried
  short b h =
      let n = ne_eqb (length s) 0 some in
      let l = lt-ltb (length s) command_bytes h in
      record { number = simp (n, l); nothing = simp (n, l) }

  module _ (whole : command_bytes ≤ length s) (b : ℕ) where
    pub unknown : known (kind_of s) (id_in s) (ticket_in s) ≡ false → Stops (suc b) s 8
    unfolding stop carried
    unknown e =
        let n = ne_eqb (length s) 0 some in
        let l = le-ltb (length s) command_bytes whole in
        record { number = simp (n, l, e); nothing = simp (n, l, e) }

    pub goes_on : known (kind_of s) (id_in s) (ticket_in s) ≡ true
        → (stop (suc b) s ≡ stop b (drop command_bytes s)) × (carried (suc b) s ≡ command_of (kind_of s) (id_in s) (ticket_in s) ∷ carried b (drop command_bytes s))
    unfolding stop carried
    goes_on e =
        let n = ne_eqb (length s) 0 some in
        let l = le-ltb (length s) command_bytes whole in
        (simp (n, l, e), simp (n, l, e))

-- each command joined, was turned away, served a request or was idle: the four totals come to the number carried out
one_of_four : (o : Outcome) → (adds o).joined + (adds o).turned + (adds o).served + (adds o).idle ≡ 1
one_of_four joined = refl
one_of_four (evicted r) = refl
one_of_four turned = refl
one_of_four (passed r) = refl
one_of_four (served r) = refl
one_of_four idle = refl

pub all_counted : (os : List Outcome) → total (λ k. k.joined) os + total (λ k. k.turned) os + total (λ k. k.served) os + total (λ k. k.idle) os ≡ length os
all_counted [] = refl
all_counted (o ∷ os) = omega (arith, one_of_four o, all_counted os)

-- a total over outcomes and others behind them
pub total_append : (f : Totals → ℕ) (os ps : List Outcome) → total f (os ++ ps) ≡ total f os + total f ps
total_append f [] ps = omega arith
total_append f (o ∷ os) ps = omega (arith, total_append f os ps)

module _ (L : Limits) where
  -- each command comes to something
  pub outcomes_length : (s : Waiting) (cs : List Command) → length (outcomes L s cs) ≡ length cs
  outcomes_length s [] = refl
  outcomes_length s (c ∷ cs) = ap suc (outcomes_length (step L s c) cs)

  -- commands after others
  pub after_append : (s : Waiting) (cs ds : List Command) → after L s (cs ++ ds) ≡ after L (after L s cs) ds
  after_append s [] ds = refl
  after_append s (c ∷ cs) ds = after_append (step L s c) cs ds

  pub outcomes_append : (s : Waiting) (cs ds : List Command) → outcomes L s (cs ++ ds) ≡ outcomes L s cs ++ outcomes L (after L s cs) ds
  outcomes_append s [] ds = refl
  outcomes_append s (c ∷ cs) ds = ap (λ (os : List Outcome). outcome L s c ∷ os) (outcomes_append (step L s c) cs ds)

pub next_all_append : (P : Picture) (cs ds : List Command) → next_all P (cs ++ ds) ≡ next_all (next_all P cs) ds
next_all_append P [] ds = refl
next_all_append P (c ∷ cs) ds = next_all_append (next P c) cs ds
