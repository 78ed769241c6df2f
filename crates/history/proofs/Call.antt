-- One call on a slice that begins with the drawing of a right picture: it answers and steps as the plain history does, and draws the next picture.
use mathlib.Core.Bool.{Bool, true, false, cond}
use mathlib.Core.List.{List, [], ◌∷◌, ◌++◌, append_assoc}
use mathlib.Core.Path.{◌≡◌, refl, sym, ap, ap₂, ◌∙◌}
use Prim.Native.Nat.{ℕ, ◌+◌, ◌-◌, ◌<◌, ◌≤◌, min}
use native.Mathlib.Nat.{min-le_left, min-le_right, min-eq_left, min-eq_right}
use native.Mathlib.Decide.{dec_le}
use native.Mathlib.Omega.{arith}
use lib.Dec.{eqb}
use lib.ListN.{length, take, drop, length-take, length-drop, length-append, take-append-drop}
use lib.Seq.{take-append-add, drop-append-add, drop-append-le}
use borrow.Author.Tests.{ltb-true, ltb-false, eqb-true, eqb-false, ne_eqb}
use Rattle.table.specs.Kind as kind
use Rattle.rules.specs.Numbers as number
use Rattle.rules.specs.History.{Limits}
use Rattle.rules.specs.Picture.{Picture, limits_of}
use Rattle.rules.specs.Steps.{empty}
use Rattle.rules.specs.Commands.{Command, arriving, sliding, serving}
use Rattle.rules.specs.Run.{next_all}
use Rattle.rules.specs.Draw.{draw}
use Rattle.rules.specs.Sound.{Right}
use Rattle.rules.specs.Verdict.{verdict, accepts, afterwards, lay_out_number, laid_out}
use Rattle.rules.proofs.Choose.{side_by_side}
use Rattle.rules.proofs.Run.{all_step}
use Rattle.rules.proofs.Empty.{empty_right}
use Rattle.rules.proofs.Verdict.{drawn_long, long, drawn_accepted, drawn_found, drawn_after, short_refused, refused_by}
use Rattle.layout.proofs.After.{accepted, laid_is}
use Rattle.limiter.specs.Lent.{waiting_in, limits_in, or_refused}
use Rattle.history.specs.Plain.{Question, heaviest, lightest, count, oldest, newest, Call, carry, run, replay, ask, lay_out, Lent, lent, Reply, arrived, slid, served, ran, replayed, listed, counted, told, laid, Says, command_says, run_says, replay_says, question_says, State, state, short, said_of, carried_on, carried_by, plain_answer, plain_next}
use Rattle.history.specs.Words.{reply, words, slice_after, Slice, drawn_out, state_of, carried_in, picture_next}
use Rattle.history.proofs.Drawn.{refused_stay, all_stay}

-- on any lent words a call says what it has to say: to a refusal of the table, or of what waits in it
abbrev said_in : Says → List ℕ → Reply
said_in k t = or_refused k.refused t (k.answer (limits_in t) (waiting_in t))

command_said : (c : Command) (t : List ℕ) → reply (carry c) t ≡ said_in (command_says c) t
command_said (arriving r) t = side_by_side arrived (accepts t) refl refl
command_said (sliding r) t = side_by_side slid (accepts t) refl refl
command_said serving t = side_by_side served (accepts t) refl refl

two_by_two : {A B C : Type 0} (f : A → B → C) (b : Bool) {x y : A} {u v : B} {p q : C} → f x u ≡ p → f y v ≡ q → f (cond b x y) (cond b u v) ≡ cond b p q
two_by_two f true e g = e
two_by_two f false e g = g

question_said : (x : Question) (t : List ℕ) → reply (ask x) t ≡ said_in (question_says x) t
question_said (heaviest k out) t = two_by_two listed (accepts t) refl refl
question_said (lightest k out) t = two_by_two listed (accepts t) refl refl
question_said (count id) t = side_by_side counted (accepts t) refl refl
question_said (oldest id) t = side_by_side told (accepts t) refl refl
question_said (newest id) t = side_by_side told (accepts t) refl refl

-- and a command leaves what the step on the picture leaves
pub command_words : (c : Command) (t : List ℕ) → words (carry c) t ≡ afterwards (λ P. next_all P (c ∷ [])) t
command_words (arriving r) t = refl
command_words (sliding r) t = refl
command_words serving t = refl

-- a call on the slice S that is answered a and leaves the words u: it is answered b, leaves the next slice, of as many words and right, and then this is the plain history
pub record Meets (S : Slice) (a b : Reply) (u : List ℕ) (next : Slice) (s : State) : Type 0 where
  pub answers : a ≡ b
  pub leaves : u ≡ drawn_out next
  pub long : length (drawn_out next) ≡ length (drawn_out S)
  pub right : Right next.picture
  pub goes : state_of next ≡ s

-- what a call comes to
abbrev pub Comes : Slice → Lent → Type 0
Comes S l =
    Meets S (reply l.call (take l.words (drawn_out S))) (plain_answer (length (drawn_out S)) (state_of S) l)
    (slice_after l (drawn_out S)) (picture_next S l) (plain_next (length (drawn_out S)) (state_of S) l)

-- drawings of as many places are as long
same_long : (P Q : Picture) (rest : List ℕ) → limits_of P ≡ limits_of Q → length (draw P ++ rest) ≡ length (draw Q ++ rest)
same_long P Q rest e =
    length-append (draw P) rest ∙ ap (λ (n : ℕ). n + length rest) (drawn_long P ∙ ap (λ (L : Limits). kind.size L.places) e ∙ sym (drawn_long Q)) ∙ sym (length-append (draw Q) rest)

-- of w and m words the fewer are too few for a table that m words hold: so w are
fewer_short : (w m size : ℕ) → size ≤ m → min w m < size → w < size
fewer_short w m size h l =
    elim (dec_le w m) [
      | yes k ↦ omega (arith, min-eq_left k)
      | no g ↦ (let k : m ≤ w = omega (arith, g) in omega (arith, min-eq_right k))
    ]

-- a call that is no lay-out: it has k to say, and leaves what its commands leave
record Carrying (c : Call) (k : Says) : Type 0 where
  pub says : (t : List ℕ) → reply c t ≡ said_in k t
  pub leaves : (t : List ℕ) → words c t ≡ afterwards (λ P. next_all P (carried_by c)) t

-- w words of a slice are lent to it
module _ (S : Slice) (v : Right S.picture) (w : ℕ) (c : Call) (k : Says) (p : Carrying c k) where
  abbrev cs : List Command
  cs = carried_by c

  abbrev P : Picture
  P = S.picture

  abbrev t : List ℕ
  t = drawn_out S

  abbrev n : ℕ
  n = min w (length t)

  abbrev Carries : Type 0
  Carries = Meets S (reply c (take w t)) (said_of n (state_of S) k) (words c (take w t) ++ drop w t) (carried_in n S cs) (carried_on n (state_of S) cs)

  whole_lent : (m : ℕ) → (take (kind.size P.places + m) t ≡ draw P ++ take m S.beyond) × (drop (kind.size P.places + m) t ≡ drop m S.beyond)
  whole_lent m = rw (← drawn_long P) (take-append-add (draw P) S.beyond m, drop-append-add (draw P) S.beyond m)

  long_enough : short n (state_of S) ≡ false → Carries
  long_enough e =
      let m : ℕ = w - kind.size P.places in
      let is : w ≡ kind.size P.places + m = omega (arith, ltb-false n (kind.size P.places) e, min-le_left w (length t)) in
      let (a, b) = whole_lent m in
      let front : take w t ≡ draw P ++ take m S.beyond = ap (λ (k : ℕ). take k t) is ∙ a in
      let beyond : drop w t ≡ drop m S.beyond = ap (λ (k : ℕ). drop k t) is ∙ b in
      let step = all_step P v cs in
      let u : List ℕ = draw P ++ take m S.beyond in
      let yes : accepts u ≡ true = drawn_accepted P v (take m S.beyond) in
      record {
        answers = ap (reply c) front ∙ p.says u ∙ rw (e, yes, drawn_found P v (take m S.beyond));
        leaves = rw (e, front, beyond, p.leaves u, drawn_after P v (take m S.beyond) (λ P. next_all P cs))
            (append_assoc (draw (next_all P cs)) (take m S.beyond) (drop m S.beyond) ∙ ap (λ (r : List ℕ). draw (next_all P cs) ++ r) (take-append-drop m S.beyond));
        long = rw e (same_long (next_all P cs) P S.beyond step.limits);
        right = rw e step.right;
        goes = rw e (ap₂ state step.limits step.plain);
      }

  too_short_lem : short n (state_of S) ≡ true → Carries
  too_short_lem e =
      let h : w < kind.size P.places = fewer_short w (length t) (kind.size P.places) (long P v S.beyond) (ltb-true n (kind.size P.places) e) in
      let two : verdict (take w t) ≡ number.too_short = short_refused P v S.beyond w h in
      let no : accepts (take w t) ≡ false = refused_by (take w t) two in
      record {
        answers = p.says (take w t) ∙ rw (e, no, two);
        leaves = rw (e, p.leaves (take w t), refused_stay (λ P. next_all P cs) (take w t) no) (take-append-drop w t);
        long = rw e refl;
        right = rw e v;
        goes = rw e refl;
      }

  carries : Carries
  carries = go (short n (state_of S)) refl
    where
      go : (b : Bool) → short n (state_of S) ≡ b → Carries
      go true e = too_short_lem e
      go false e = long_enough e

-- a lay-out that is refused leaves the words
pub lay_out_stays : (q : ℕ) (t : List ℕ) → (lay_out_number q (length t) ≡ 0 → ⊥) → laid_out q t ≡ t
unfolding laid_out
lay_out_stays q t n = rw (ne_eqb (lay_out_number q (length t)) 0 n)

-- w words of a slice are lent to a lay-out
module _ (S : Slice) (v : Right S.picture) (w q : ℕ) where
  abbrev all : List ℕ
  all = drawn_out S

  number_is : lay_out_number q (length (take w all)) ≡ lay_out_number q (min w (length all))
  number_is = ap (lay_out_number q) (length-take w all)

  laid_out_lem : eqb (lay_out_number q (min w (length all))) 0 ≡ true → Comes S (lent w (lay_out q))
  laid_out_lem e =
      let zero : lay_out_number q (length (take w all)) ≡ 0 = number_is ∙ eqb-true (lay_out_number q (min w (length all))) 0 e in
      let (r, h) = accepted q (length (take w all)) zero in
      let fits : kind.size q ≤ length all = omega (arith, h, length-take w all, min-le_right w (length all)) in
      record {
        answers = ap laid number_is;
        leaves = rw e
            (ap (λ (u : List ℕ). u ++ drop w all) (laid_is q (take w all) zero)
            ∙ append_assoc (draw (empty q)) (drop (kind.size q) (take w all)) (drop w all)
            ∙ ap (λ (u : List ℕ). draw (empty q) ++ u) (sym (drop-append-le (kind.size q) (take w all) (drop w all) h) ∙ ap (drop (kind.size q)) (take-append-drop w all)));
        long = rw e (length-append (draw (empty q)) (drop (kind.size q) all) ∙ omega (arith, drawn_long (empty q), length-drop (kind.size q) all, fits));
        right = rw e (empty_right q r);
        goes = rw e refl;
      }

  not_laid_out : eqb (lay_out_number q (min w (length all))) 0 ≡ false → Comes S (lent w (lay_out q))
  not_laid_out e =
      record {
        answers = ap laid number_is;
        leaves = rw e (ap (λ (u : List ℕ). u ++ drop w all) (lay_out_stays q (take w all) (λ z. eqb-false (lay_out_number q (min w (length all))) 0 e (sym number_is ∙ z))) ∙ take-append-drop w all);
        long = rw e refl;
        right = rw e v;
        goes = rw e refl;
      }

  lays_out : Comes S (lent w (lay_out q))
  lays_out = go (eqb (lay_out_number q (min w (length all))) 0) refl
    where
      go : (b : Bool) → eqb (lay_out_number q (min w (length all))) 0 ≡ b → Comes S (lent w (lay_out q))
      go true e = laid_out_lem e
      go false e = not_laid_out e

-- whichever call it is
pub comes : (S : Slice) → Right S.picture → (l : Lent) → Comes S l
comes S v l = go l.call l.words
  where
    go : (c : Call) (w : ℕ) → Comes S (lent w c)
    go (carry c) w = carries S v w (carry c) (command_says c) (record { says = command_said c; leaves = command_words c })
    go (run day bytes budget) w = carries S v w (run day bytes budget) (run_says bytes budget) (record { says = λ t. side_by_side ran (accepts t) refl refl; leaves = λ t. refl })
    go (replay bytes first) w = carries S v w (replay bytes first) (replay_says bytes first) (record { says = λ t. side_by_side replayed (accepts t) refl refl; leaves = λ t. refl })
    go (ask x) w =
        let k = carries S v w (ask x) (question_says x) (record { says = question_said x; leaves = λ t. sym (all_stay (λ P. P) t refl) }) in
        record { answers = k.answers; leaves = take-append-drop w (drawn_out S); long = refl; right = v; goes = refl }
    go (lay_out q) w = lays_out S v w q
