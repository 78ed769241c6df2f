-- Demand 2: after a lay-out, whatever calls a host makes, lay-outs among them, they answer as the plain history does, and the slice is the drawing of the picture after them and the words beyond it.
use mathlib.Core.List.{List, [], ◌∷◌}
use mathlib.Core.Path.{◌≡◌, refl, sym, ap, ap₂, ◌∙◌}
use Prim.Native.Nat.{ℕ}
use native.Mathlib.Omega.{arith}
use lib.ListN.{length, take, drop, length-append, length-drop}
use Rattle.table.specs.Kind as kind
use Rattle.rules.specs.Picture.{limits_of, plain}
use Rattle.rules.specs.Steps.{empty}
use Rattle.rules.specs.Draw.{draw}
use Rattle.rules.specs.Sound.{Right}
use Rattle.rules.specs.Verdict.{lay_out_number, laid_out}
use Rattle.rules.proofs.Empty.{empty_right}
use Rattle.rules.proofs.Verdict.{drawn_long}
use Rattle.layout.proofs.After.{accepted, laid_is}
use Rattle.history.specs.Plain.{Lent, Reply, State, start, plain_answer, plain_next, plain_replies, plain_after}
use Rattle.history.specs.Words.{reply, replies, table_after, Slice, drawn_out, state_of, fresh, picture_next, picture_after}
use Rattle.history.proofs.Call.{Comes, comes}

-- what calls come to on a slice of n words, where the plain history is s
record Follows (calls : List Lent) (n : ℕ) (s : State) (S : Slice) : Type 0 where
  pub answers : replies calls (drawn_out S) ≡ plain_replies n s calls
  pub leaves : table_after calls (drawn_out S) ≡ drawn_out (picture_after S calls)
  pub long : length (drawn_out (picture_after S calls)) ≡ n
  pub right : Right (picture_after S calls).picture
  pub goes : state_of (picture_after S calls) ≡ plain_after n s calls

follows : (calls : List Lent) (S : Slice) → Right S.picture → {n : ℕ} {s : State} → length (drawn_out S) ≡ n → state_of S ≡ s → Follows calls n s S
follows [] S v long goes = record { answers = refl; leaves = refl; long = long; right = v; goes = goes }
follows (l ∷ calls) S v {n} {s} long goes =
    let c : Comes S l = comes S v l in
    let g = follows calls (picture_next S l) c.right (c.long ∙ long) (c.goes ∙ (λ i. plain_next (long i) (goes i) l)) in
    record {
      answers = ap₂ (λ (r : Reply) (rs : List Reply). r ∷ rs) (c.answers ∙ (λ i. plain_answer (long i) (goes i) l)) (ap (replies calls) c.leaves ∙ g.answers);
      leaves = ap (table_after calls) c.leaves ∙ g.leaves;
      long = g.long;
      right = g.right;
      goes = g.goes;
    }

-- after a lay-out of q places in a slice w, and calls: the slice, and the plain history
abbrev pub left : ℕ → List ℕ → List Lent → Slice
left q w calls = picture_after (fresh q w) calls

abbrev pub history : ℕ → List ℕ → List Lent → State
history q w calls = plain_after (length w) (start q) calls

-- w is any slice in which a table of q places can be laid out
module _ (q : ℕ) (w : List ℕ) (laid : lay_out_number q (length w) ≡ 0) where
  pub fresh_long : length (drawn_out (fresh q w)) ≡ length w
  fresh_long =
      length-append (draw (empty q)) (drop (kind.size q) w) ∙ omega (arith, drawn_long (empty q), length-drop (kind.size q) w, (accepted q (length w) laid).1)

  pub fresh_right : Right (fresh q w).picture
  fresh_right = empty_right q (accepted q (length w) laid).0

module _ (q : ℕ) (w : List ℕ) (laid : lay_out_number q (length w) ≡ 0) (calls : List Lent) where
  all : Follows calls (length w) (start q) (fresh q w)
  all = follows calls (fresh q w) (fresh_right q w laid) (fresh_long q w laid) refl

  -- every reply is the plain history's
  pub the_replies : replies calls (laid_out q w) ≡ plain_replies (length w) (start q) calls
  the_replies = ap (replies calls) (laid_is q w laid) ∙ all.answers

  -- every word is the drawing's, and beyond the table as it was
  pub the_table : table_after calls (laid_out q w) ≡ drawn_out (left q w calls)
  the_table = ap (table_after calls) (laid_is q w laid) ∙ all.leaves

  pub the_length : length (drawn_out (left q w calls)) ≡ length w
  the_length = all.long

  -- the picture is the plain history with its rows: right, and within the same limits
  pub the_state : state_of (left q w calls) ≡ history q w calls
  the_state = all.goes

  pub the_history : plain (left q w calls).picture ≡ (history q w calls).waiting
  the_history = ap (λ (s : State). s.waiting) the_state

  pub the_limits : limits_of (left q w calls).picture ≡ (history q w calls).limits
  the_limits = ap (λ (s : State). s.limits) the_state

  pub the_right : Right (left q w calls).picture
  the_right = all.right

  -- the next reply too, whichever call it is
  pub next_reply : (l : Lent) → reply l.call (take l.words (table_after calls (laid_out q w))) ≡ plain_answer (length w) (history q w calls) l
  next_reply l =
      ap (λ (t : List ℕ). reply l.call (take l.words t)) the_table ∙ (comes (left q w calls) the_right l).answers ∙ (λ i. plain_answer (the_length i) (the_state i) l)

-- two histories that come to the same slice leave equal words
pub same_picture : (q : ℕ) (w : List ℕ) → lay_out_number q (length w) ≡ 0 → (calls others : List Lent) → left q w calls ≡ left q w others
    → table_after calls (laid_out q w) ≡ table_after others (laid_out q w)
same_picture q w laid calls others e = the_table q w laid calls ∙ ap drawn_out e ∙ sym (the_table q w laid others)
