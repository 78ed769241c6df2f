-- The calls, each with its answers, its own refusal and its numbers.
use mathlib.Core.Bool.{Bool, true, false, cond}
use mathlib.Core.List.{[], ◌∷◌, map}
use mathlib.Core.Path.{◌≡◌, refl}
use Prim.Native.Nat.{ℕ}
use lib.Dec.{ltb}
use Rattle.rules.specs.Numbers as number
use Rattle.rules.specs.Rows.{has}
use Rattle.rules.specs.History.{Choice, joined, evicted, turned, Left, nothing, left, Waiting, given, count_of}
use Rattle.rules.specs.History as history
use Rattle.rules.specs.Picture.{limits_of, plain}
use Rattle.answers.specs.Engine.{as_choice, as_left, needed, listing, own_ticket}
use Rattle.answers.specs.Offered.{served_of}
use Rattle.answers.specs.Numbers.{refusal_number, arrived_numbers, slid_numbers, served_numbers, listed_numbers, counted_numbers, told_numbers}
use Rattle.std.specs.Prelude.{Option, Result, Ok, Err}
use Rattle.answers.specs.declared.Refusal.{Refusal}
use Rattle.answers.specs.declared.Refusal.TheVariants as refusals
use Rattle.answers.specs.declared.Request as code
use Rattle.answers.specs.declared.Choice as choice
use Rattle.limiter.specs.Lent.{numbers_of}
use Rattle.limiter.specs.Calls.{choice_values, slide_values, idle, serve_values}
use Rattle.limiter.proofs.Answers.{Call}

-- arrive
pub none_chosen : (x : Refusal) (c : Choice) → arrived_numbers (Err x) ≡ refusal_number x ∷ map (λ _. 0) (choice_values c)
none_chosen x joined = refl
none_chosen x (evicted r) = refl
none_chosen x turned = refl

pub chosen : (c : Choice) → arrived_numbers (Ok (as_choice c)) ≡ numbers_of 0 (choice_values c)
chosen joined = refl
chosen (evicted r) = refl
chosen turned = refl

abbrev pub arriving : ℕ → Call (Result choice.Choice Refusal)
arriving i =
    record {
      refused = Err;
      reply = λ P. Ok (as_choice (history.choice (limits_of P) (plain P) i));
      own = λ P. 0;
      values = λ P. choice_values (history.choice (limits_of P) (plain P) i);
      numbers = arrived_numbers;
      none = λ x P. none_chosen x (history.choice (limits_of P) (plain P) i);
      given = λ P. chosen (history.choice (limits_of P) (plain P) i);
    }

-- slide
pub none_slid : (x : Refusal) (l : Left) → slid_numbers (Err x) ≡ refusal_number x ∷ map (λ _. 0) (slide_values l)
none_slid x nothing = refl
none_slid x (left r) = refl

pub slid_given : (l : Left) → slid_numbers (Ok (as_left l)) ≡ numbers_of 0 (slide_values l)
slid_given nothing = refl
slid_given (left r) = refl

abbrev pub sliding : Call (Result (Option code.Request) Refusal)
sliding =
    record {
      refused = Err;
      reply = λ P. Ok (as_left (history.slide_left (limits_of P) (plain P)));
      own = λ P. 0;
      values = λ P. slide_values (history.slide_left (limits_of P) (plain P));
      numbers = slid_numbers;
      none = λ x P. none_slid x (history.slide_left (limits_of P) (plain P));
      given = λ P. slid_given (history.slide_left (limits_of P) (plain P));
    }

-- serve
pub none_served : (x : Refusal) (l : Left) → served_numbers (Err x) ≡ refusal_number x ∷ map (λ _. 0) (serve_values l)
none_served x nothing = refl
none_served x (left r) = refl

pub served_given : (l : Left) → served_numbers (served_of (as_left l)) ≡ numbers_of (idle l) (serve_values l)
served_given nothing = refl
served_given (left r) = refl

abbrev pub serving : Call (Result code.Request Refusal)
serving =
    record {
      refused = Err;
      reply = λ P. served_of (as_left (history.served (plain P)));
      own = λ P. idle (history.served (plain P));
      values = λ P. serve_values (history.served (plain P));
      numbers = served_numbers;
      none = λ x P. none_served x (history.served (plain P));
      given = λ P. served_given (history.served (plain P));
    }

-- heaviest and lightest, of k clients into an output of n words
pub listed_given : (b : Bool) (w : ℕ) → listed_numbers (cond b (Err refusals.NoRoom) (Ok w)) ≡ numbers_of (cond b number.no_room 0) (w ∷ [])
listed_given true w = refl
listed_given false w = refl

abbrev pub listing_of : ℕ → ℕ → Call (Result ℕ Refusal)
listing_of k n =
    record {
      refused = Err;
      reply = λ P. listing k n (plain P);
      own = λ P. cond (ltb n (needed k (plain P))) number.no_room 0;
      values = λ P. given k (plain P) ∷ [];
      numbers = listed_numbers;
      none = λ x P. refl;
      given = λ P. listed_given (ltb n (needed k (plain P))) (given k (plain P));
    }

-- count
abbrev pub counting : ℕ → Call (Result ℕ Refusal)
counting i =
    record {
      refused = Err;
      reply = λ P. Ok (count_of (plain P) i);
      own = λ P. 0;
      values = λ P. count_of (plain P) i ∷ [];
      numbers = counted_numbers;
      none = λ x P. refl;
      given = λ P. refl;
    }

-- oldest and newest
pub told_given : (b : Bool) (x : ℕ) → told_numbers (cond b (Ok x) (Err refusals.NoClient)) ≡ numbers_of (cond b 0 number.no_client) (x ∷ [])
told_given true x = refl
told_given false x = refl

abbrev pub telling : (Waiting → ℕ → ℕ) → ℕ → Call (Result ℕ Refusal)
telling ticket i =
    record {
      refused = Err;
      reply = λ P. own_ticket ticket (plain P) i;
      own = λ P. cond (has i (plain P).order) 0 number.no_client;
      values = λ P. ticket (plain P) i ∷ [];
      numbers = told_numbers;
      none = λ x P. refl;
      given = λ P. told_given (has i (plain P).order) (ticket (plain P) i);
    }
