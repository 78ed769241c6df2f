-- Sharing, over any history of calls: an arrival turns its client away only if (waiting + 1) × clients is at least Q, and evicts a client only if waiting × clients is; a single arrive by its reply, and one that a run or a replay carries out by what it comes to at its place.
use mathlib.Core.Bool.{Bool, true, false, cond}
use mathlib.Core.List.{List, ◌∷◌, ◌++◌}
use mathlib.Core.Path.{◌≡◌, refl, sym, ap, ◌∙◌, subst}
use Prim.Native.Nat.{ℕ, ◌+◌, ◌*◌, ◌≤◌, min}
use native.Mathlib.Omega.{arith}
use lib.ListN.{length, take}
use Rattle.std.specs.Prelude.{Ok, Err}
use Rattle.rules.specs.History as history
use Rattle.rules.specs.History.{Request, Choice, request, count, choice}
use Rattle.rules.specs.Commands as commands
use Rattle.rules.specs.Commands.{Command, arriving, outcome, step, of_choice}
use Rattle.rules.specs.Run.{after, outcomes, next_all}
use Rattle.rules.specs.Verdict.{lay_out_number, laid_out}
use Rattle.rules.proofs.Sharing.{Fair, right_fair, turned_share, evicted_share}
use Rattle.rules.proofs.Run.{all_step, outcomes_append}
use Rattle.answers.specs.Engine.{as_choice, as_struct}
use Rattle.answers.specs.declared.Request as code
use Rattle.answers.specs.declared.Refusal.{Refusal}
use Rattle.answers.specs.declared.Choice.TheVariants as choices
use Rattle.history.specs.Plain.{Call, carry, Lent, lent, arrived, State, state, short, carried_by}
use Rattle.history.specs.Words.{reply, table_after}
use Rattle.history.specs.Sharing.{waiting, Under}
use Rattle.history.proofs.Unaltered.{turned_away_lem}
use Rattle.history.proofs.History as history-after
use Rattle.history.proofs.History.{left, the_state, the_right, next_reply}

-- what replies and outcomes say of the choice
chosen_turned : (b : Bool) (x : Refusal) (c : Choice) → cond b (arrived (Err x)) (arrived (Ok (as_choice c))) ≡ arrived (Ok choices.Turned) → c ≡ history.turned
chosen_turned true x c e = absurd cc
chosen_turned false x c e = turned_away_lem c cc

-- enough words were lent, and the request that left
pub record Gone (b : Bool) (c : Choice) (i : ℕ) : Type 0 where
  pub enough : b ≡ false
  pub request : Request
  pub is : c ≡ history.evicted request
  pub named : request.id ≡ i

pub chosen_evicted : (b : Bool) (x : Refusal) (c : Choice) (r : code.Request) → cond b (arrived (Err x)) (arrived (Ok (as_choice c))) ≡ arrived (Ok (choices.Evicted r)) → Gone b c r.id
chosen_evicted true x c r e = absurd cc
chosen_evicted false x history.joined r e = absurd cc
chosen_evicted false x (history.evicted y) r e =
    let same : as_struct y ≡ r = cc in
    record { enough = refl; request = y; is = refl; named = ap (λ (z : code.Request). z.id) same }
chosen_evicted false x history.turned r e = absurd cc

outcome_turned : (c : Choice) → of_choice c ≡ commands.turned → c ≡ history.turned
outcome_turned history.joined e = absurd cc
outcome_turned (history.evicted r) e = absurd cc
outcome_turned history.turned e = refl

pub outcome_evicted : (c : Choice) (r : Request) → of_choice c ≡ commands.evicted r → c ≡ history.evicted r
outcome_evicted history.joined r e = absurd cc
outcome_evicted (history.evicted x) r e = let same : x ≡ r = cc in ap history.evicted same
outcome_evicted history.turned r e = absurd cc

-- where its requests and one more are under, it is not turned away; where its requests are, none of them is evicted
module _ (s : State) (fair : Fair s.waiting) (i : ℕ) where
  not_turned : Under (waiting i s + 1) s → choice s.limits s.waiting i ≡ history.turned → ⊥
  not_turned under e = omega (arith, under, turned_share s.limits s.waiting fair i e)

  not_evicted : Under (waiting i s) s → (j : ℕ) (r : Request) → choice s.limits s.waiting j ≡ history.evicted r → r.id ≡ i → ⊥
  not_evicted under j r e n =
      let share = evicted_share s.limits s.waiting fair j r e in
      omega (arith, under, subst (λ (k : ℕ). s.limits.places ≤ count k s.waiting.window * length s.waiting.order) n share)

-- after a lay-out and any calls
module _ (q : ℕ) (w : List ℕ) (laid : lay_out_number q (length w) ≡ 0) (calls : List Lent) where
  abbrev now : State
  now = history-after.history q w calls

  pub now_fair : Fair now.waiting
  now_fair = subst (λ (s : State). Fair s.waiting) (the_state q w laid calls) (right_fair (left q w calls).picture (the_right q w laid calls))

  -- with any number of words lent, a client is not turned away
  pub never_turned_away : (i : ℕ) → Under (waiting i now + 1) now → (n ticket : ℕ)
      → reply (carry (arriving (request i ticket))) (take n (table_after calls (laid_out q w))) ≡ arrived (Ok choices.Turned) → ⊥
  never_turned_away i under n ticket e =
      not_turned now now_fair i under
      (chosen_turned (short (min n (length w)) now) _ _ (sym (next_reply q w laid calls (lent n (carry (arriving (request i ticket))))) ∙ e))

  -- and whoever arrives, none of its requests is evicted
  pub never_evicted : (i : ℕ) → Under (waiting i now) now → (j n ticket : ℕ) (r : code.Request)
      → reply (carry (arriving (request j ticket))) (take n (table_after calls (laid_out q w))) ≡ arrived (Ok (choices.Evicted r)) → r.id ≡ i → ⊥
  never_evicted i under j n ticket r e named =
      let g = chosen_evicted (short (min n (length w)) now) _ _ r (sym (next_reply q w laid calls (lent n (carry (arriving (request j ticket))))) ∙ e) in
      not_evicted now now_fair i under j g.request g.is (g.named ∙ named)

  -- after the commands that the next call, a run or a replay, has carried out before
  module _ (before : List Command) where
    -- the plain history at that place
    abbrev pub place : State
    place = state now.limits (after now.limits now.waiting before)

    pub place_fair : Fair place.waiting
    place_fair =
        let P = (left q w calls).picture in
        let k = all_step P (the_right q w laid calls) before in
        subst Fair (k.plain ∙ (λ i. after (the_state q w laid calls i).limits (the_state q w laid calls i).waiting before)) (right_fair (next_all P before) k.right)

    -- where it carries out an arrival there: what its commands come to has, in the middle, what that comes to there
    pub its_outcome : (c : Call) (later : List Command) (r : Request) → carried_by c ≡ before ++ arriving r ∷ later
        → outcomes now.limits now.waiting (carried_by c)
        ≡ outcomes now.limits now.waiting before ++ outcome place.limits place.waiting (arriving r) ∷ outcomes now.limits (step place.limits place.waiting (arriving r)) later
    its_outcome c later r inside = ap (outcomes now.limits now.waiting) inside ∙ outcomes_append now.limits now.waiting before (arriving r ∷ later)

    pub inside_never_turned_away : (r : Request) → Under (waiting r.id place + 1) place → outcome place.limits place.waiting (arriving r) ≡ commands.turned → ⊥
    inside_never_turned_away r under e = not_turned place place_fair r.id under (outcome_turned _ e)

    pub inside_never_evicted : (r : Request) (i : ℕ) → Under (waiting i place) place → (x : Request) → outcome place.limits place.waiting (arriving r) ≡ commands.evicted x → x.id ≡ i → ⊥
    inside_never_evicted r i under x e named = not_evicted place place_fair i under r.id x (outcome_evicted _ x e) named
