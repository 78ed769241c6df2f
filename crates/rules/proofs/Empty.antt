-- After a lay-out: the empty picture is right, nobody waits in it, and its drawing is sound.
use mathlib.Core.List.{[]}
use mathlib.Core.Bool.{true}
use mathlib.Core.Path.{◌≡◌, refl, ap}
use mathlib.Core.Logic.{⊎_elim}
use Prim.Native.Nat.{ℕ, zero, suc, ◌+◌, ◌≤◌, ◌<◌}
use native.Mathlib.Omega.{arith}
use lib.ListN.{length, replicate, length-replicate}
use Rattle.table.specs.Kind as kind
use Rattle.rules.specs.Rows.{In, Distinct, Once}
use Rattle.rules.specs.History.{nobody}
use Rattle.rules.specs.Picture.{concat, plain}
use Rattle.rules.specs.Draw.{draw}
use Rattle.rules.specs.Steps.{count_up, empty}
use Rattle.rules.specs.Sound.{picture, Right}
use Rattle.rules.proofs.Rows.{notin, below_in}
use Rattle.rules.proofs.Decide.{range_decides}
use Rattle.rules.proofs.Sound.{picture_draw}

count_up_in : (n a x : ℕ) → In x (count_up n a) → (a ≤ x) × (x < a + n)
count_up_in zero a x i = absurd i
count_up_in (suc n) a x i = ⊎_elim (λ e. omega arith) (λ j. omega (arith, count_up_in n (suc a) x j)) i

count_up_distinct : (n a : ℕ) → Distinct (count_up n a)
count_up_distinct zero a = tt
count_up_distinct (suc n) a =
    (notin a (count_up n (suc a)) (λ i. omega (arith, count_up_in n (suc a) a i)), count_up_distinct n (suc a))

count_up_length : (n a : ℕ) → length (count_up n a) ≡ n
count_up_length zero a = refl
count_up_length (suc n) a = ap suc (count_up_length n (suc a))

pub count_up_once : (q : ℕ) → Once q (count_up q 0)
count_up_once q =
    record {
      distinct = count_up_distinct q 0;
      below = below_in q (count_up q 0) (λ x i. omega (arith, count_up_in q 0 x i));
      long = count_up_length q 0;
    }

concat_empty : (n : ℕ) → concat (replicate n []) ≡ []
concat_empty zero = refl
concat_empty (suc n) = concat_empty n

module _ (q : ℕ) (e : kind.in_range q ≡ true) where
  pub empty_right : Right (empty q)
  empty_right =
      record {
        least = ((range_decides q).0 e).0;
        most = ((range_decides q).0 e).1;
        items = count_up_once q;
        clients = count_up_once q;
        owners = tt;
        counts = tt;
        ids = tt;
        buckets = length-replicate q [];
        stands = tt;
        apart = rw (concat_empty q) tt;
        nobody = rw (concat_empty q) tt;
      }

  pub empty_picture : picture (draw (empty q)) ≡ empty q
  empty_picture = picture_draw (empty q) empty_right

pub empty_plain : (q : ℕ) → plain (empty q) ≡ nobody
empty_plain q = refl
