-- Where nothing is written, whatever the lent words are: an arrive that is turned away, a serve where nobody waits, a question, any call that is refused.
use mathlib.Core.Bool.{Bool, true, false, cond}
use mathlib.Core.List.{List, [], ◌∷◌, map}
use mathlib.Core.Path.{◌≡◌, refl, ◌∙◌}
use Prim.Native.Nat.{ℕ}
use lib.ListN.{length}
use Rattle.std.specs.Prelude.{Ok, Err}
use Rattle.rules.specs.History as history
use Rattle.rules.specs.History.{Request, Choice, Left, nothing, front, choice}
use Rattle.rules.specs.Picture.{Item, request_of}
use Rattle.rules.specs.Steps as steps
use Rattle.rules.specs.Run.{next_all}
use Rattle.rules.specs.Verdict.{accepts, afterwards, lay_out_number}
use Rattle.answers.specs.Engine.{as_choice, as_left}
use Rattle.answers.specs.Offered.{refusal_on, served_of}
use Rattle.answers.specs.declared.Refusal.{Refusal}
use Rattle.answers.specs.declared.Choice.TheVariants as choices
use Rattle.limiter.specs.Lent.{lent, limits_in, waiting_in}
use Rattle.limiter.specs.Calls.{arrive_answer, serve_answer}
use Rattle.history.specs.Plain.{Question, Call, carry, run, replay, ask, lay_out, carried_by}
use Rattle.history.specs.Words.{words}
use Rattle.history.proofs.Drawn.{refused_stay, all_stay}
use Rattle.history.proofs.Call.{command_words, lay_out_stays}
use Rattle.steps.proofs.Choices.{arrived_by, served_nobody}

-- what an answer says of the choice, and of who left
pub turned_away_lem : (c : Choice) → as_choice c ≡ choices.Turned → c ≡ history.turned
turned_away_lem history.joined e = absurd cc
turned_away_lem (history.evicted r) e = absurd cc
turned_away_lem history.turned e = refl

none_left : (l : Left) (x : Refusal) → served_of (as_left l) ≡ Err x → l ≡ nothing
none_left history.nothing x e = refl
none_left (history.left r) x e = absurd cc

none_waits : (f : Item → Request) (w : List Item) → front (map f w) ≡ nothing → length w ≡ 0
none_waits f [] e = refl
none_waits f (i ∷ w) e = absurd cc

-- t is any lent words
module _ (t : List ℕ) where
  -- an arrive that is turned away
  pub turned_stays : (id ticket : ℕ) → arrive_answer id t ≡ Ok choices.Turned → afterwards (λ P. steps.arrived P id ticket) t ≡ t
  turned_stays id ticket = go (accepts t) refl
    where
      go : (b : Bool) → accepts t ≡ b → cond b (Ok (as_choice (choice (limits_in t) (waiting_in t) id))) (Err (refusal_on t)) ≡ Ok choices.Turned
          → afterwards (λ P. steps.arrived P id ticket) t ≡ t
      go true e h = all_stay (λ P. steps.arrived P id ticket) t (arrived_by (lent t) id ticket (turned_away_lem (choice (limits_in t) (waiting_in t) id) cc))
      go false e h = refused_stay (λ P. steps.arrived P id ticket) t e

  -- a serve that is refused, also with 5 where nobody waits
  pub idle_stays : (x : Refusal) → serve_answer t ≡ Err x → afterwards steps.served t ≡ t
  idle_stays x = go (accepts t) refl
    where
      go : (b : Bool) → accepts t ≡ b → cond b (served_of (as_left (history.served (waiting_in t)))) (Err (refusal_on t)) ≡ Err x
          → afterwards steps.served t ≡ t
      go true e h =
          all_stay steps.served t
          (served_nobody (lent t) (none_waits (request_of (lent t).clients) (lent t).window (none_left (history.served (waiting_in t)) x h)))
      go false e h = refused_stay steps.served t e

  -- a question
  pub asked_stays : (x : Question) → words (ask x) t ≡ t
  asked_stays x = refl

  -- any call but a lay-out where the table is refused
  pub refused_stays : accepts t ≡ false → (c : Call) → ((q : ℕ) → c ≡ lay_out q → ⊥) → words c t ≡ t
  refused_stays n (carry c) other = command_words c t ∙ refused_stay _ t n
  refused_stays n (run day bytes budget) other = refused_stay (λ P. next_all P (carried_by (run day bytes budget))) t n
  refused_stays n (replay bytes first) other = refused_stay (λ P. next_all P (carried_by (replay bytes first))) t n
  refused_stays n (ask x) other = refl
  refused_stays n (lay_out q) other = absurd (other q refl)

  -- a lay-out that is refused
  pub refused_lay_out_stays : (q : ℕ) → (lay_out_number q (length t) ≡ 0 → ⊥) → words (lay_out q) t ≡ t
  refused_lay_out_stays q n = lay_out_stays q t n
