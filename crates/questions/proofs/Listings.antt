-- A listing of a ready table: how many pairs it has, the rows that it reads, and the output that it leaves.
use mathlib.Core.List.{List, ◌++◌}
use mathlib.Core.Path.{◌≡◌, sym, ap, ◌∙◌, subst}
use Prim.Native.Nat.{ℕ, ◌*◌, ◌≤◌, ◌<◌, min}
use native.Mathlib.Nat.{min-le_right}
use native.Mathlib.Omega.{arith}
use lib.ListN.{length, get_or, take, drop, length-map}
use borrow.Author.Tests.{lt-ltb, le-ltb, ltb-false}
use Rattle.table.specs.Kind as kind
use Rattle.rules.specs.Rows.{Below}
use Rattle.rules.specs.History.{Waiting, pairs, given}
use Rattle.rules.specs.Picture.{client_row, client_id, client_rows, plain}
use Rattle.rules.specs.Sound.{picture}
use Rattle.rules.specs.Ready.{Ready}
use Rattle.rules.proofs.Ready.{ready_ordered}
use Rattle.answers.specs.Engine.{needed, listing}
use Rattle.std.specs.Prelude.{Ok, Err}
use Rattle.answers.specs.declared.Refusal.TheVariants as refusals
use Rattle.questions.specs.Walk.{clients_from, pairs_from}
use Rattle.questions.specs.Output.{listed_words}
use Rattle.questions.proofs.Ends.{Way, start, onward, along, listing_by}
use Rattle.questions.proofs.Order.{from_low, from_pairs}

-- how many pairs a listing has: m is the number of clients that was read, n the smaller of k and m
module _ {q m n : ℕ} {t : List ℕ} (k : ℕ) (y : Ready q t) (clients : m ≡ get_or t kind.clients_at 0) (least : n ≡ min k m) where
  is_given : n ≡ given k (plain (picture t))
  is_given = least ∙ ap (min k) (clients ∙ (ready_ordered y).number ∙ length-map (picture t).clients client_row ∙ sym (length-map (picture t).clients client_id))

  pub given_none : {words : ℕ} → words < 2 * n → Err refusals.NoRoom ≡ listing k words (plain (picture t))
  given_none {words} short = rw (lt-ltb words (needed k (plain (picture t))) (subst (λ (i : ℕ). words < 2 * i) is_given short))

  pub given_all : {words : ℕ} → 2 * n ≤ words → Ok n ≡ listing k words (plain (picture t))
  given_all {words} room = rw (le-ltb words (needed k (plain (picture t))) (subst (λ (i : ℕ). 2 * i ≤ words) is_given room)) (ap Ok is_given)

-- where a listing has n pairs, they are the clients given, and there is room
all_given : (k words : ℕ) (s : Waiting) {n : ℕ} → Ok n ≡ listing k words s → (n ≡ given k s) × (2 * n ≤ words)
all_given k words s {n} g = grind (arith, ltb-false)

module _ {q n : ℕ} {t : List ℕ} (k : ℕ) (out : List ℕ) (y : Ready q t) (g : Ok n ≡ listing k (length out) (plain (picture t))) where
  few : n ≤ length (client_rows (picture t))
  few =
      let P = picture t in
      let same : length (client_rows P) ≡ length (plain P).order = length-map P.clients client_row ∙ sym (length-map P.clients client_id) in
      omega (arith, min-le_right k (length (plain P).order), (all_given k (length out) (plain P) g).0)

  -- h is the first row
  module _ (w : Way) {h : ℕ} (first : h ≡ get_or t (start w) 0) where
    pub listing_low : Below q (clients_from q t (onward w) n h)
    listing_low = rw first (from_low y n few w)

    pub listing_done : {after : List ℕ} → after ≡ pairs_from q t (onward w) n h ++ drop (2 * n) out
        → after ≡ listed_words (listing_by w) k (plain (picture t)) out
    listing_done e =
        let (is, room) = all_given k (length out) (plain (picture t)) g in
        let ps : ℕ → List ℕ = λ i. pairs (plain (picture t)).window (take i (along w (plain (picture t)).order)) in
        let read : pairs_from q t (onward w) n h ≡ ps n = rw first (from_pairs y n few w) in
        rw (le-ltb (length out) (needed k (plain (picture t))) (subst (λ (i : ℕ). 2 * i ≤ length out) is room)) (e ∙ rw read (ap (λ (i : ℕ). ps i ++ drop (2 * i) out) is))
