-- What count, oldest and newest read in a ready table, by what the lookup answered.
use mathlib.Core.Bool.{Bool, true, false}
use mathlib.Core.List.{List}
use mathlib.Core.Path.{◌≡◌, refl, sym, ap, ◌∙◌, subst}
use Prim.Native.Nat.{ℕ, ◌<◌}
use Rattle.table.specs.Kind as kind
use Rattle.table.specs.Regions.{regions, client_word, ticket_word}
use Rattle.table.specs.Owners.{order_words, window_words}
use Rattle.rules.specs.Rows.{has, In}
use Rattle.rules.specs.History as history
use Rattle.rules.specs.Picture.{client_rows, own_rows, id_of, plain}
use Rattle.rules.specs.Parts.{Own}
use Rattle.rules.specs.Sound.{picture}
use Rattle.rules.specs.Ready.{Ready}
use Rattle.rules.proofs.Decide.{has_decides}
use Rattle.rules.proofs.Look.{id_in_lem}
use Rattle.rules.proofs.Right.{counts_one}
use Rattle.rules.proofs.Rows.{in_below}
use Rattle.rules.proofs.Plain.{count_plain}
use Rattle.rules.proofs.Ready.{ready_right, ready_ordered, ready_queued}
use Rattle.lookup.specs.Promise.{Found}
use Rattle.answers.specs.Engine.{own_ticket}
use Rattle.std.specs.Prelude.{Ok, Err}
use Rattle.answers.specs.declared.Refusal.{Refusal}
use Rattle.questions.specs.Row.{RowOf}
use Rattle.questions.proofs.Ends.{End, oldest_end, newest_end, end_at, end_of, ticket_at}
use Rattle.questions.proofs.Kept.{client_low, found_client, found_nobody}
use Rattle.questions.proofs.Own.{end_in, end_map, end_ticket, count_absent, own_tickets}

has_no : (x : ℕ) (xs : List ℕ) → (In x xs → ⊥) → has x xs ≡ false
has_no x xs n = go (has x xs) refl
  where
    go : (b : Bool) → has x xs ≡ b → has x xs ≡ false
    go true e = absurd (n ((has_decides x xs).0 e))
    go false e = e

-- of a client: the row of its oldest or newest request, and the ticket there
module _ {q : ℕ} {t : List ℕ} (y : Ready q t) (c : ℕ) (i : In c (client_rows (picture t))) where
  abbrev rows : List ℕ
  rows = own_rows c (picture t).window

  own : Own q (window_words (regions q t)) c rows
  own = (ready_queued y).own c (client_low y c i)

  end_row : (e : End) → client_word t q c (end_at e) ≡ end_of e rows
  end_row oldest_end = own.oldest
  end_row newest_end = own.newest

  end_low : (e : End) → client_word t q c (end_at e) < q
  end_low e = in_below q rows own.linked.below _ (rw (end_row e) (end_in e rows (counts_one (picture t) (ready_right y) c i)))

  end_is : (e : End) → ticket_word t (client_word t q c (end_at e)) ≡ ticket_at e (plain (picture t)) (id_of (picture t).clients c)
  end_is e =
      let v = ready_right y in
      ap (ticket_word t) (end_row e)
      ∙ end_map e (ticket_word t) rows (counts_one (picture t) v c i)
      ∙ ap (end_of e) (own_tickets (picture t).clients v.ids c i (ticket_word t) (picture t).window v.owners (ready_queued y).ticket)
      ∙ sym (end_ticket e (plain (picture t)) (id_of (picture t).clients c))

-- the lookup answered row r to the id x
module _ {q x r : ℕ} {t : List ℕ} (y : Ready q t) (found : Found (order_words (regions q t)).id (client_rows (picture t)) x r) where
  pub nobody_counts : r ≡ kind.none → 0 ≡ history.count_of (plain (picture t)) x
  nobody_counts none = sym (count_absent (picture t).clients x (found_nobody y found none) (picture t).window (ready_right y).owners)

  pub client_counts : (r ≡ kind.none → ⊥) → {n : ℕ} → n ≡ client_word t q r kind.count → n ≡ history.count_of (plain (picture t)) x
  client_counts some e =
      let v = ready_right y in
      let (i, name) = found_client y found some in
      e ∙ (ready_ordered y).counted r i ∙ sym (count_plain (picture t).clients v.ids r i (picture t).window v.owners) ∙ ap (history.count_of (plain (picture t))) name

-- what is told of the client x, and where there is no such client
module _ {q : ℕ} {t : List ℕ} (y : Ready q t) (e : End) (x : ℕ) where
  pub nobody_tells : {f : Refusal} → RowOf (picture t) x (Err f) → Err f ≡ own_ticket (ticket_at e) (plain (picture t)) x
  nobody_tells k = rw (k.0, has_no x (plain (picture t)).order k.1)

  module _ (r : ℕ) (k : RowOf (picture t) x (Ok r)) {i : ℕ} (is : i ≡ client_word t q r (end_at e)) where
    pub row_low : i < q
    row_low = rw is (end_low y r k.0 e)

    pub client_tells : {n : ℕ} → n ≡ ticket_word t i → Ok n ≡ own_ticket (ticket_at e) (plain (picture t)) x
    client_tells at =
        let there : has x (plain (picture t)).order ≡ true = (has_decides x (plain (picture t)).order).1 (subst (λ (z : ℕ). In z (plain (picture t)).order) k.1 (id_in_lem (picture t).clients r k.0)) in
        rw there (ap Ok (at ∙ rw is (end_is y r k.0 e) ∙ ap (ticket_at e (plain (picture t))) k.1))
