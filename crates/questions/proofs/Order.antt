-- The clients of a ready table from either end of their order: the links lead through them, and their words are the plain history's pairs.
use mathlib.Core.List.{List, [], ◌∷◌, map, reverse, reverse_aux}
use mathlib.Core.Path.{◌≡◌, refl, sym, ap, ◌∙◌}
use mathlib.Mathlib.Data.List.Basic.{map-reverse_aux}
use Prim.Native.Nat.{ℕ, zero, suc, ◌≤◌, ◌<◌}
use native.Mathlib.Nat.{not-suc-le-zero}
use native.Mathlib.Omega.{arith}
use lib.ListN.{length, get_or, take, length-reverse}
use Rattle.table.specs.Kind as kind
use Rattle.table.specs.Regions.{client_word}
use Rattle.rules.specs.Rows.{All, Below}
use Rattle.rules.specs.Linked.{Run}
use Rattle.rules.specs.History.{Request, count, pairs}
use Rattle.rules.specs.Picture.{Client, client_row, client_id, client_rows, plain}
use Rattle.rules.specs.Sound.{picture}
use Rattle.rules.specs.Ready.{Ready}
use Rattle.rules.proofs.Rows.{all_reverse, all_take}
use Rattle.rules.proofs.Put.{put_there, all_puts, take_all}
use Rattle.rules.proofs.Right.{clients_distinct}
use Rattle.rules.proofs.Plain.{clients_plain}
use Rattle.rules.proofs.Ready.{ready_right, ready_holds, ready_ordered}
use Rattle.questions.specs.Walk.{rows_from, pairs_at, clients_from, pairs_from}
use Rattle.questions.proofs.Ends.{Way, lightest_first, heaviest_first, start, onward, along}
use Rattle.questions.proofs.Kept.{client_low}

-- rows linked both ways, read from their other end: ys are those that were passed
turned : (b o : ℕ → ℕ) (p h : ℕ) (xs ys : List ℕ) (n l m k : ℕ) → Run b o p h xs n l → Run o b h p ys m k → Run o b n l (reverse_aux xs ys) m k
turned b o p h [] ys n l m k u v = rw (← u.0, u.1) v
turned b o p h (x ∷ xs) ys n l m k u v = turned b o x (o x) xs (x ∷ ys) n l m k u.2 (refl, refl, rw (u.1, ← u.0) v)

-- the links lead through the rows
led : (b o : ℕ → ℕ) (p h : ℕ) (xs : List ℕ) (n l k : ℕ) → Run b o p h xs n l → k ≤ length xs → rows_from o k h ≡ take k xs
led b o p h xs n l zero u m = refl
led b o p h [] n l (suc k) u m = absurd (not-suc-le-zero m)
led b o p h (x ∷ xs) n l (suc k) u m = rw u.0 (ap (λ (l : List ℕ). x ∷ l) (led b o x (o x) xs n l k u.2 (omega arith)))

-- what is taken from an end, by its parts

map_take : {A : Type 0} (f : A → ℕ) (k : ℕ) (xs : List A) → map f (take k xs) ≡ take k (map f xs)
map_take f zero xs = refl
map_take f (suc k) [] = refl
map_take f (suc k) (x ∷ xs) = ap (λ (l : List ℕ). f x ∷ l) (map_take f k xs)

taken : {A : Type 0} (f : A → ℕ) (w : Way) (k : ℕ) (xs : List A) → map f (take k (along w xs)) ≡ take k (along w (map f xs))
taken f lightest_first k xs = map_take f k xs
taken f heaviest_first k xs = map_take f k (reverse xs) ∙ ap (take k) (map-reverse_aux f xs [])

all_taken : {A : Type 0} (F : A → Type 0) (w : Way) (k : ℕ) (xs : List A) → All F xs → All F (take k (along w xs))
all_taken F lightest_first k xs a = all_take F k xs a
all_taken F heaviest_first k xs a = all_take F k (reverse xs) (all_reverse F xs [] a tt)

-- the words show a client, w being the waiting requests
record Shown (q : ℕ) (t : List ℕ) (w : List Request) (c : Client) : Type 0 where
  pub low : c.row < q
  pub id : client_word t q c.row kind.id ≡ c.id
  pub count : client_word t q c.row kind.count ≡ count c.id w

module _ (q : ℕ) (t : List ℕ) (w : List Request) where
  shown_low : (cs : List Client) → All (Shown q t w) cs → Below q (map client_row cs)
  shown_low [] a = tt
  shown_low (c ∷ cs) a = (a.0.low, shown_low cs a.1)

  shown_pairs : (cs : List Client) → All (Shown q t w) cs → pairs_at (client_word t q) (map client_row cs) ≡ pairs w (map client_id cs)
  shown_pairs [] a = refl
  shown_pairs (c ∷ cs) a = rw (a.0.id, a.0.count) (ap (λ (l : List ℕ). c.id ∷ count c.id w ∷ l) (shown_pairs cs a.1))

module _ {q : ℕ} {t : List ℕ} (y : Ready q t) where
  all_shown : All (Shown q t (plain (picture t)).window) (picture t).clients
  all_shown =
      let P = picture t in
      let v = ready_right y in
      all_puts _ P.clients
      (λ c cs p. record {
        low = client_low y c.row (put_there client_row p);
        id = (take_all _ p (ready_holds y).ids).0;
        count = (ready_ordered y).counted c.row (put_there client_row p) ∙ sym (take_all _ p (clients_plain P.clients v.ids P.window (clients_distinct P v) v.owners)).0;
      })

  order_run : Run (λ r. client_word t q r kind.lighter) (λ r. client_word t q r kind.heavier) kind.none (get_or t kind.lightest_at 0) (client_rows (picture t)) kind.none (get_or t kind.heaviest_at 0)
  order_run = (ready_ordered y).linked.run

  -- k of the clients
  module _ (k : ℕ) (few : k ≤ length (client_rows (picture t))) where
    led_from : (w : Way) → clients_from q t (onward w) k (get_or t (start w) 0) ≡ map client_row (take k (along w (picture t).clients))
    led_from lightest_first = led _ _ _ _ (client_rows (picture t)) _ _ k order_run few ∙ sym (taken client_row lightest_first k (picture t).clients)
    led_from heaviest_first =
        led _ _ _ _ (reverse (client_rows (picture t))) _ _ k (turned _ _ _ _ (client_rows (picture t)) [] _ _ _ _ order_run (refl, refl)) (rw length-reverse few)
        ∙ sym (taken client_row heaviest_first k (picture t).clients)

    pub from_low : (w : Way) → Below q (clients_from q t (onward w) k (get_or t (start w) 0))
    from_low w = rw (led_from w) (shown_low q t _ (take k (along w (picture t).clients)) (all_taken _ w k (picture t).clients all_shown))

    pub from_pairs : (w : Way) → pairs_from q t (onward w) k (get_or t (start w) 0) ≡ pairs (plain (picture t)).window (take k (along w (plain (picture t)).order))
    from_pairs w =
        ap (pairs_at (client_word t q)) (led_from w)
        ∙ shown_pairs q t _ (take k (along w (picture t).clients)) (all_taken _ w k (picture t).clients all_shown)
        ∙ ap (pairs (plain (picture t)).window) (taken client_id w k (picture t).clients)
