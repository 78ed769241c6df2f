-- Demand 2, the run: the slice after a run, or a replay, is the slice after its commands as single calls, whatever calls came before and come after.
use mathlib.Core.Bool.{Bool, true, false, cond}
use mathlib.Core.List.{List, [], ◌∷◌, ◌++◌}
use mathlib.Core.Path.{◌≡◌, refl, sym, ap, ◌∙◌, subst}
use Prim.Native.Nat.{ℕ, ◌≤◌, min}
use native.Mathlib.Nat.{le-min}
use lib.Dec.{ltb}
use lib.ListN.{length, take, drop}
use lib.Seq.{take_at}
use borrow.Author.Tests.{le-ltb}
use Rattle.table.specs.Kind as kind
use Rattle.rules.specs.History.{Limits}
use Rattle.rules.specs.Picture.{Picture}
use Rattle.rules.specs.Steps.{empty}
use Rattle.rules.specs.Commands.{Command}
use Rattle.rules.specs.Run.{carried, next_all}
use Rattle.rules.specs.Draw.{draw}
use Rattle.rules.specs.Sound.{Right}
use Rattle.rules.specs.Verdict.{lay_out_number, laid_out}
use Rattle.rules.proofs.Run.{next_step, all_step}
use Rattle.rules.proofs.Verdict.{drawn_long}
use Rattle.layout.proofs.After.{accepted}
use Rattle.recording.specs.Replay as recording
use Rattle.history.specs.Plain.{Call, carry, run, replay, Lent, lent, short, carried_by, singles}
use Rattle.history.specs.Words.{table_after, Slice, slice, drawn_out, state_of, fresh, carried_in, picture_step, picture_next, picture_after}
use Rattle.history.proofs.Call.{Comes, comes}
use Rattle.history.proofs.History.{left, fresh_long, fresh_right, the_table, the_right, same_picture}

-- a slice after commands, if enough words are lent
abbrev carried_if : Bool → Slice → List Command → Slice
carried_if few S cs = cond few S (slice (next_all S.picture cs) S.beyond)

-- the slice after single calls, by whether n words of a slice of N words are too few for a table of q places
single_slices : (n N q : ℕ) (b : Bool) → ltb (min n N) (kind.size q) ≡ b → (cs : List Command) (S : Slice) → Right S.picture → length (drawn_out S) ≡ N → S.picture.places ≡ q
    → picture_after S (singles n cs) ≡ carried_if b S cs
single_slices n N q true e [] S v long is = refl
single_slices n N q false e [] S v long is = refl
single_slices n N q true e (c ∷ cs) S v long is =
    let stays : picture_next S (lent n (carry c)) ≡ S = (λ i. carried_if (ltb (min n (long i)) (kind.size (is i))) S (c ∷ [])) ∙ rw e in
    ap (λ (J : Slice). picture_after J (singles n cs)) stays ∙ single_slices n N q true e cs S v long is
single_slices n N q false e (c ∷ cs) S v long is =
    let J : Slice = slice (next_all S.picture (c ∷ [])) S.beyond in
    let goes : picture_next S (lent n (carry c)) ≡ J = (λ i. carried_if (ltb (min n (long i)) (kind.size (is i))) S (c ∷ [])) ∙ rw e in
    let k : Comes S (lent n (carry c)) = comes S v (lent n (carry c)) in
    let l : length (drawn_out J) ≡ N = ap (λ (K : Slice). length (drawn_out K)) (sym goes) ∙ k.long ∙ long in
    let r : Right J.picture = subst (λ (K : Slice). Right K.picture) goes k.right in
    let p : J.picture.places ≡ q = ap (λ (L : Limits). L.places) (next_step S.picture v c).limits ∙ is in
    ap (λ (J : Slice). picture_after J (singles n cs)) goes ∙ single_slices n N q false e cs J r l p

pub after_append : (xs ys : List Lent) (S : Slice) → picture_after S (xs ++ ys) ≡ picture_after (picture_after S xs) ys
after_append [] ys S = refl
after_append (x ∷ xs) ys S = after_append xs ys (picture_next S x)

-- after a lay-out, the calls before, a call that steps as its commands do, and the calls after
module _ (q : ℕ) (w : List ℕ) (laid : lay_out_number q (length w) ≡ 0) (n : ℕ) (before after : List Lent) (c : Call) (steps : (m : ℕ) (S : Slice) → picture_step m S c ≡ carried_in m S (carried_by c)) where
  pub picture_as_singles : left q w (before ++ lent n c ∷ after) ≡ left q w (before ++ (singles n (carried_by c) ++ after))
  picture_as_singles =
      let S : Slice = left q w before in
      let m : ℕ = min n (length (drawn_out S)) in
      let one : picture_next S (lent n c) ≡ picture_after S (singles n (carried_by c)) =
      steps m S ∙ sym (single_slices n (length (drawn_out S)) S.picture.places (short m (state_of S)) refl (carried_by c) S (the_right q w laid before) refl refl) in
      after_append before (lent n c ∷ after) (fresh q w)
      ∙ ap (λ (J : Slice). picture_after J after) one
      ∙ sym (after_append (singles n (carried_by c)) after S)
      ∙ sym (after_append before (singles n (carried_by c) ++ after) (fresh q w))

  pub as_singles : table_after (before ++ lent n c ∷ after) (laid_out q w) ≡ table_after (before ++ (singles n (carried_by c) ++ after)) (laid_out q w)
  as_singles = same_picture q w laid (before ++ lent n c ∷ after) (before ++ (singles n (carried_by c) ++ after)) picture_as_singles

pub run_as_singles : (q : ℕ) (w : List ℕ) (laid : lay_out_number q (length w) ≡ 0) (n : ℕ) (day : Bool) (bytes : List ℕ) (budget : ℕ) (before after : List Lent)
    → table_after (before ++ lent n (run day bytes budget) ∷ after) (laid_out q w) ≡ table_after (before ++ (singles n (carried budget bytes) ++ after)) (laid_out q w)
run_as_singles q w laid n day bytes budget before after = as_singles q w laid n before after (run day bytes budget) (λ m S. refl)

pub replay_as_singles : (q : ℕ) (w : List ℕ) (laid : lay_out_number q (length w) ≡ 0) (n : ℕ) (bytes : List ℕ) (first : ℕ) (before after : List Lent)
    → table_after (before ++ lent n (replay bytes first) ∷ after) (laid_out q w) ≡ table_after (before ++ (singles n (recording.replayed first bytes) ++ after)) (laid_out q w)
replay_as_singles q w laid n bytes first before after = as_singles q w laid n before after (replay bytes first) (λ m S. refl)

-- after a lay-out, lent the table: it is drawn from the picture after the commands, whatever else the slice holds
pub singles_table : (q : ℕ) (w : List ℕ) → lay_out_number q (length w) ≡ 0 → (n : ℕ) → kind.size q ≤ n → (cs : List Command)
    → take (kind.size q) (table_after (singles n cs) (laid_out q w)) ≡ draw (next_all (empty q) cs)
singles_table q w laid n h cs =
    let P : Picture = next_all (empty q) cs in
    let enough : ltb (min n (length w)) (kind.size q) ≡ false = le-ltb (min n (length w)) (kind.size q) (le-min h (accepted q (length w) laid).1) in
    let right = fresh_right q w laid in
    let goes : left q w (singles n cs) ≡ slice P (drop (kind.size q) w) = single_slices n (length w) q false enough cs (fresh q w) right (fresh_long q w laid) refl in
    ap (take (kind.size q)) (the_table q w laid (singles n cs) ∙ ap drawn_out goes)
    ∙ take_at (draw P) (drop (kind.size q) w) (kind.size q) (drawn_long P ∙ ap (λ (L : Limits). kind.size L.places) (all_step (empty q) right cs).limits)
