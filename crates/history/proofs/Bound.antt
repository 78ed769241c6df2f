-- Demand 3: an arrive alters at most 47 words, a slide 48, a serve 24, a run or a replay 48 for each command that it carries out, a question none, a lay-out the words of its table at most: whatever slice they are made on and however many of its words they are lent.
use mathlib.Core.Bool.{Bool, true, false, cond}
use mathlib.Core.List.{List, [], ◌∷◌, ◌++◌}
use mathlib.Core.Path.{◌≡◌, refl, sym, ap, ◌∙◌, subst}
use Prim.Native.Nat.{ℕ, ◌+◌, ◌*◌, ◌≤◌}
use native.Mathlib.Omega.{arith}
use native.Mathlib.Nat.{mul-suc}
use lib.Dec.{eqb}
use lib.ListN.{length, take, drop, length-append, take-append-drop}
use lib.Seq.{length-take-le}
use borrow.Author.Tests.{eqb-true, eqb-false}
use Rattle.table.specs.Kind as kind
use Rattle.table.specs.Regions.{altered}
use Rattle.table.proofs.Write.{altered_same, altered_trans, altered_before}
use Rattle.rules.specs.History.{Limits}
use Rattle.rules.specs.Picture.{Picture}
use Rattle.rules.specs.Steps.{empty}
use Rattle.rules.specs.Commands.{Command, arriving, sliding, serving, next}
use Rattle.rules.specs.Run.{next_all}
use Rattle.rules.specs.Draw.{draw}
use Rattle.rules.specs.Sound.{picture}
use Rattle.rules.specs.Ready.{Ready}
use Rattle.rules.specs.Verdict.{room, accepts, afterwards, lay_out_number}
use Rattle.rules.proofs.Ready.{ready_right, ready_sized, drawn_ready, drawn_picture}
use Rattle.rules.proofs.Run.{next_step, all_step}
use Rattle.rules.proofs.Verdict.{accepted, drawn_long}
use Rattle.layout.proofs.After.{laid_is}
use Rattle.layout.proofs.After as after-lay-out
use Rattle.limiter.specs.Lent.{lent}
use Rattle.history.specs.Plain.{Call, carry, run, replay, ask, lay_out, Lent, carried_by}
use Rattle.history.specs.Words.{words, slice_after, most_altered}
use Rattle.history.proofs.Call.{command_words, lay_out_stays}
use Rattle.steps.proofs.Few.{unaltered, arrive_few, slide_few, serve_few}

-- no more words are altered than there are
altered_most : (xs ys : List ℕ) → altered xs ys ≤ length xs
altered_most [] [] = omega arith
altered_most [] (y ∷ ys) = omega arith
altered_most (x ∷ xs) [] = omega arith
altered_most (x ∷ xs) (y ∷ ys) = go (eqb x y) (altered_most xs ys)
  where
    go : (b : Bool) → altered xs ys ≤ length xs → cond b 0 1 + altered xs ys ≤ length (x ∷ xs)
    go true h = omega (arith, h)
    go false h = omega (arith, h)

-- one command after another on a ready table
next_few : {q : ℕ} {t : List ℕ} → Ready q t → (c : Command) → altered t (draw (next (picture t) c)) ≤ most_altered (carry c)
next_few y (arriving r) = arrive_few y r.id r.ticket
next_few y (sliding r) = slide_few y r.id r.ticket
next_few y serving = serve_few y

most_of_one : (c : Command) → most_altered (carry c) ≤ 48
most_of_one (arriving r) = omega arith
most_of_one (sliding r) = omega arith
most_of_one serving = omega arith

all_few : {q : ℕ} {t : List ℕ} → Ready q t → (cs : List Command) → altered t (draw (next_all (picture t) cs)) ≤ 48 * length cs
all_few {t = t} y [] = omega (arith, unaltered y)
all_few {q} {t} y (c ∷ cs) =
    let k = next_step (picture t) (ready_right y) c in
    let a : List ℕ = draw (next (picture t) c) in
    let r : Ready (picture t).places a = drawn_ready k refl in
    let rest : altered a (draw (next_all (next (picture t) c) cs)) ≤ 48 * length cs =
    subst (λ (P : Picture). altered a (draw (next_all P cs)) ≤ 48 * length cs) (drawn_picture k refl) (all_few {q = (picture t).places} r cs) in
    rw (mul-suc 48 (length cs))
    (omega (arith, altered_trans t a (draw (next_all (next (picture t) c) cs)) ((ready_sized r).long ∙ ap kind.size y.places ∙ sym (ready_sized y).long), next_few y c, most_of_one c, rest))

-- as many words as before, and at most k of them others
abbrev Few : ℕ → List ℕ → List ℕ → Type 0
Few k t u = (length u ≡ length t) × (altered t u ≤ k)

few_same : (k : ℕ) (t : List ℕ) → Few k t t
few_same k t = (refl, omega (arith, altered_same t))

-- a front part that is altered, and the words after it
few_front : {k : ℕ} (n : ℕ) (t u : List ℕ) → Few k (take n t) u → Few k t (u ++ drop n t)
few_front {k} n t u (l, h) =
    subst (λ (x : List ℕ). Few k x (u ++ drop n t)) (take-append-drop n t)
    (length-append u (drop n t) ∙ ap (λ (m : ℕ). m + length (drop n t)) l ∙ sym (length-append (take n t) (drop n t)), rw (altered_before (take n t) u (drop n t) l) h)

-- commands on lent words, which alter at most k words of a ready table
few_after : (k : ℕ) (cs : List Command) → ((q : ℕ) (t : List ℕ) → Ready q t → altered t (draw (next_all (picture t) cs)) ≤ k) → (t : List ℕ) → Few k t (afterwards (λ P. next_all P cs) t)
unfolding afterwards
few_after k cs few t = go (accepts t) refl
  where
    go : (b : Bool) → accepts t ≡ b → Few k t (cond b (draw (next_all (lent t) cs) ++ drop (room t) t) t)
    go true e =
        let y = (accepted t e).ready in
        let s = (all_step (lent t) (ready_right y) cs).limits in
        few_front (room t) t (draw (next_all (lent t) cs))
        (drawn_long (next_all (lent t) cs) ∙ ap (λ (L : Limits). kind.size L.places) s ∙ ap kind.size y.places ∙ sym (ready_sized y).long, few _ _ y)
    go false e = few_same k t

few_carried : (cs : List Command) (t : List ℕ) → Few (48 * length cs) t (afterwards (λ P. next_all P cs) t)
few_carried cs t = few_after (48 * length cs) cs (λ q t y. all_few y cs) t

-- a lay-out
few_laid : (q : ℕ) (t : List ℕ) → Few (kind.size q) t (words (lay_out q) t)
few_laid q t = go (eqb (lay_out_number q (length t)) 0) refl
  where
    go : (b : Bool) → eqb (lay_out_number q (length t)) 0 ≡ b → Few (kind.size q) t (words (lay_out q) t)
    go true e =
        let z : lay_out_number q (length t) ≡ 0 = eqb-true (lay_out_number q (length t)) 0 e in
        let h : kind.size q ≤ length t = (after-lay-out.accepted q (length t) z).1 in
        let part = length-take-le (kind.size q) t h in
        subst (Few (kind.size q) t) (sym (laid_is q t z))
        (few_front (kind.size q) t (draw (empty q)) (drawn_long (empty q) ∙ sym part, omega (arith, part, altered_most (take (kind.size q) t) (draw (empty q)))))
    go false e = subst (Few (kind.size q) t) (sym (lay_out_stays q t (eqb-false (lay_out_number q (length t)) 0 e))) (few_same (kind.size q) t)

few_words : (c : Call) (t : List ℕ) → Few (most_altered c) t (words c t)
few_words (carry c) t = subst (Few (most_altered (carry c)) t) (sym (command_words c t)) (few_after (most_altered (carry c)) (c ∷ []) (λ q t y. next_few y c) t)
few_words (run day bytes budget) t = few_carried (carried_by (run day bytes budget)) t
few_words (replay bytes first) t = few_carried (carried_by (replay bytes first)) t
few_words (ask x) t = few_same 0 t
few_words (lay_out q) t = few_laid q t

pub words_long : (c : Call) (t : List ℕ) → length (words c t) ≡ length t
words_long c t = (few_words c t).0

pub few_altered : (l : Lent) (t : List ℕ) → altered t (slice_after l t) ≤ most_altered l.call
few_altered l t = (few_front l.words t (words l.call (take l.words t)) (few_words l.call (take l.words t))).1
