-- W-203, over any history of calls: an arrival that evicts leaves its client with no more requests than the evicted client still has, which stays; and while only arrivals come, that client is turned away in its turn. A single arrive by its reply, and one that a run or a replay carries out by what it comes to at its place.
use mathlib.Core.Bool.{Bool, true, false, cond}
use mathlib.Core.List.{List, [], ◌∷◌, ◌++◌}
use mathlib.Core.Path.{◌≡◌, refl, sym, ap, ◌∙◌, subst}
use Prim.Native.Nat.{ℕ, ◌≤◌, min}
use lib.ListN.{length, take}
use Rattle.std.specs.Prelude.{Ok, Err}
use Rattle.rules.specs.Rows.{All}
use Rattle.rules.specs.History as history
use Rattle.rules.specs.History.{Request, Waiting, Limits, Choice, request, count, choice}
use Rattle.rules.specs.Picture.{limits_of, plain}
use Rattle.rules.specs.Commands as commands
use Rattle.rules.specs.Commands.{Command, arriving, Arrival, outcome, of_choice}
use Rattle.rules.specs.Run.{after, next_all}
use Rattle.rules.specs.Sound.{Right}
use Rattle.rules.specs.Verdict.{lay_out_number, laid_out}
use Rattle.rules.proofs.Sharing.{Fair}
use Rattle.rules.proofs.Run.{all_step}
use Rattle.rules.proofs.Run.{after_append as commands-append}
use Rattle.rules.proofs.Evicting as evicting
use Rattle.rules.proofs.Level.{Level}
use Rattle.rules.proofs.Evicting.{level_turned, evicted_level, level_after}
use Rattle.answers.specs.Engine.{as_choice}
use Rattle.answers.specs.declared.Request as code
use Rattle.answers.specs.declared.Choice.TheVariants as choices
use Rattle.history.specs.Plain.{Call, carry, run, replay, ask, lay_out, Lent, lent, arrived, says, State, state, short, said_of, carried_by, plain_next}
use Rattle.history.specs.Words.{reply, table_after, Slice, state_of, fresh, carried_in, picture_step, picture_next, picture_after}
use Rattle.history.specs.Sharing.{waiting, OnlyArrivals}
use Rattle.history.proofs.Call.{comes}
use Rattle.history.proofs.History as history-after
use Rattle.history.proofs.History.{left, the_length, the_state, the_right, next_reply}
use Rattle.history.proofs.Run.{after_append}
use Rattle.history.proofs.Sharing.{Gone, chosen_evicted, outcome_evicted, now_fair, place, place_fair}

-- client j is to be turned away
abbrev LevelOf : ℕ → State → Type 0
LevelOf j s = Level j s.limits s.waiting

abbrev LevelIn : ℕ → Slice → Type 0
LevelIn j S = LevelOf j (state_of S)

level_carried : (j n : ℕ) (S : Slice) → Right S.picture → (cs : List Command) → All Arrival cs → LevelIn j S → LevelIn j (carried_in n S cs)
level_carried j n S v cs a l = go (short n (state_of S))
  where
    go : (b : Bool) → LevelIn j (cond b S (record { picture = next_all S.picture cs; beyond = S.beyond }))
    go true = l
    go false =
        let k = all_step S.picture v cs in
        subst (λ (L : Limits). Level j L (plain (next_all S.picture cs))) (sym k.limits) (subst (Level j (limits_of S.picture)) (sym k.plain) (level_after j S.picture v refl refl cs a l))

-- and still is after a call, and calls, that carry out nothing but arrivals
level_next : (j n : ℕ) (c : Call) (S : Slice) → Right S.picture → OnlyArrivals c → LevelIn j S → LevelIn j (picture_step n S c)
level_next j n (carry c) S v a h = level_carried j n S v (carried_by (carry c)) a h
level_next j n (run day bytes budget) S v a h = level_carried j n S v (carried_by (run day bytes budget)) a h
level_next j n (replay bytes first) S v a h = level_carried j n S v (carried_by (replay bytes first)) a h
level_next j n (ask x) S v a h = h
level_next j n (lay_out q) S v a h = absurd a

level_calls : (j : ℕ) (ls : List Lent) (S : Slice) → Right S.picture → All (λ l. OnlyArrivals l.call) ls → LevelIn j S → LevelIn j (picture_after S ls)
level_calls j [] S v a h = h
level_calls j (l ∷ ls) S v a h = level_calls j ls (picture_next S l) (comes S v l).right a.1 (level_next j _ l.call S v a.0 h)

-- after a lay-out and any calls
module _ (q : ℕ) (w : List ℕ) (laid : lay_out_number q (length w) ≡ 0) (calls : List Lent) where
  -- after commands that the next call has carried out, r arrives, and x leaves for it
  module _ (before : List Command) (r x : Request) (e : outcome (place q w laid calls before).limits (place q w laid calls before).waiting (arriving r) ≡ commands.evicted x) where
    abbrev there : State
    there = place q w laid calls before

    -- who waits since
    abbrev pub since : Waiting
    since = history.arrive there.limits there.waiting r

    fair : Fair there.waiting
    fair = place_fair q w laid calls before

    left_for : choice there.limits there.waiting r.id ≡ history.evicted x
    left_for = outcome_evicted _ x e

    pub inside_no_more : count r.id since.window ≤ count x.id since.window
    inside_no_more = evicting.no_more there.limits there.waiting fair r x left_for

    pub inside_stays : 1 ≤ count x.id since.window
    inside_stays = evicting.stays there.limits there.waiting fair r x left_for

    pub inside_never_in_turn : (cs : List Command) → All Arrival cs → (ticket : ℕ) → outcome there.limits (after there.limits since cs) (arriving (request x.id ticket)) ≡ commands.turned
    inside_never_in_turn cs a ticket =
        let P = (left q w calls).picture in
        let k = all_step P (the_right q w laid calls) (before ++ arriving r ∷ []) in
        let l = level_after x.id (next_all P (before ++ arriving r ∷ [])) k.right (k.limits ∙ ap (λ (s : State). s.limits) (the_state q w laid calls))
        (k.plain ∙ (λ i. after (the_state q w laid calls i).limits (the_state q w laid calls i).waiting (before ++ arriving r ∷ [])) ∙ commands-append there.limits _ before (arriving r ∷ [])) cs a
        (evicted_level there.limits there.waiting fair r x left_for) in
        ap of_choice (level_turned x.id there.limits (after there.limits since cs) l)

  -- with n words lent r arrives, and is answered that x left
  module _ (r : Request) (n : ℕ) (x : code.Request) (e : reply (carry (arriving r)) (take n (table_after calls (laid_out q w))) ≡ arrived (Ok (choices.Evicted x))) where
    abbrev now : State
    now = history-after.history q w calls

    gone : Gone (short (min n (length w)) now) (choice now.limits now.waiting r.id) x.id
    gone = chosen_evicted (short (min n (length w)) now) _ _ x (sym (next_reply q w laid calls (lent n (carry (arriving r)))) ∙ e)

    -- the history then
    abbrev pub then : State
    then = plain_next (length w) now (lent n (carry (arriving r)))

    then_is : then ≡ state now.limits (history.arrive now.limits now.waiting r)
    then_is = rw gone.enough

    pub no_more : waiting r.id then ≤ waiting x.id then
    no_more =
        rw (then_is, ← gone.named) (evicting.no_more now.limits now.waiting (now_fair q w laid calls) r gone.request gone.is)

    pub stays : 1 ≤ waiting x.id then
    stays =
        rw (then_is, ← gone.named) (evicting.stays now.limits now.waiting (now_fair q w laid calls) r gone.request gone.is)

    -- and after more calls
    abbrev first : Lent
    first = lent n (carry (arriving r))

    abbrev pub later_on : List Lent → State
    later_on later = history-after.history q w (calls ++ first ∷ later)

    then_level : LevelOf x.id then
    then_level = rw (then_is, ← gone.named) (evicted_level now.limits now.waiting (now_fair q w laid calls) r gone.request gone.is)

    later_level : (later : List Lent) → All (λ l. OnlyArrivals l.call) later → LevelOf x.id (later_on later)
    later_level later a =
        let S : Slice = left q w calls in
        let k = comes S (the_right q w laid calls) first in
        let goes : state_of (picture_next S first) ≡ then = k.goes ∙ (λ i. plain_next (the_length q w laid calls i) (the_state q w laid calls i) first) in
        let is : state_of (picture_after (picture_next S first) later) ≡ later_on later = ap state_of (sym (after_append calls (first ∷ later) (fresh q w))) ∙ the_state q w laid (calls ++ first ∷ later) in
        subst (LevelOf x.id) is (level_calls x.id later (picture_next S first) k.right a (subst (LevelOf x.id) (sym goes) then_level))

    -- while these carry out nothing but arrivals, the evicted client is turned away when it arrives; with too few words it is refused as ever
    pub never_in_turn : (later : List Lent) → All (λ l. OnlyArrivals l.call) later → (m ticket : ℕ)
        → reply (carry (arriving (request x.id ticket))) (take m (table_after (calls ++ first ∷ later) (laid_out q w)))
        ≡ said_of (min m (length w)) (later_on later) (says (λ x. arrived (Err x)) (λ L s. arrived (Ok choices.Turned)))
    never_in_turn later a m ticket =
        let s : State = later_on later in
        next_reply q w laid (calls ++ first ∷ later) (lent m (carry (arriving (request x.id ticket))))
        ∙ ap (λ (c : Choice). said_of (min m (length w)) s (says (λ x. arrived (Err x)) (λ L s. arrived (Ok (as_choice c))))) (level_turned x.id s.limits s.waiting (later_level later a))
