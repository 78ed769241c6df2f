-- Laws of the parts of lay-out: what each loop makes, and that together they draw the empty picture.
use mathlib.Core.List.{List, [], ◌∷◌, ◌++◌, append-nil, append_assoc}
use mathlib.Core.Bool.{Bool, true, false, cond}
use mathlib.Core.Path.{◌≡◌, refl, sym, ap, ap₂, ◌∙◌}
use Prim.Native.Nat.{ℕ, zero, suc, ◌+◌, ◌*◌, ◌-◌, ◌≤◌, ◌<◌}
use native.Mathlib.Nat.{mul-zero, mul-suc, add_comm, zero-add, not-suc-le-zero}
use native.Mathlib.Omega.{arith}
use lib.Dec.{eqb, ltb}
use lib.ListN.{length, replicate, take, drop, length-replicate, get_or-replicate, length-append, length-drop, replicate-append-replicate}
use lib.Seq.{drop-length, length-take-le, take-length, take_at, drop_at}
use borrow.Rule.Slice.PartMut.{mid_of, post_of, put_mid}
use borrow.Author.Tests.{lt-ltb, le-ltb, eqb-true, eqb-false, ltb-true, ltb-false}
use Rattle.table.specs.Kind as kind
use Rattle.table.specs.Regions.{Regions, upto, rows, words, Sized, Writes, set_item, set_client}
use Rattle.table.proofs.Fields.{header_fields, item_fields, client_fields, count_fields}
use Rattle.table.proofs.Whole.{agree_words}
use Rattle.table.proofs.Write.{then}
use Rattle.rules.specs.Rows.{head_or}
use Rattle.rules.specs.Steps.{empty, count_up}
use Rattle.rules.specs.Draw.{after, after_in, drawn, draw}
use Rattle.layout.specs.Laid.{blank, next_free, chained, headed}

-- clear: the two fills draw the blank regions

upto_alike : (n v : ℕ) → upto n (λ i. v) ≡ replicate n v
unfolding upto
upto_alike zero v = refl
upto_alike (suc n) v = ap (λ (l : List ℕ). v ∷ l) (upto_alike n v)

rows_alike : (k q v : ℕ) → rows k q (λ r f. v) ≡ replicate (k * q) v
unfolding rows
rows_alike k zero v = rw mul-zero
rows_alike k (suc q) v =
    ap₂ ◌++◌ (upto_alike k v) (rows_alike k q v) ∙ replicate-append-replicate k (k * q) v ∙ rw (mul-suc, add_comm k (k * q))

merge : (m n v : ℕ) (l : List ℕ) → replicate m v ++ (replicate n v ++ l) ≡ replicate (m + n) v ++ l
merge m n v l =
    sym (append_assoc (replicate m v) (replicate n v) l) ∙ ap (λ (x : List ℕ). x ++ l) (replicate-append-replicate m n v)

-- over any lengths, so that no literal unfolds
alike : (h i c n q v w : ℕ) → upto h (λ f. v) ++ (rows i q (λ r f. v) ++ (rows c q (λ r f. v) ++ (rows n q (λ r f. w) ++ upto q (λ b. w))))
    ≡ replicate (h + i * q + c * q) v ++ replicate (n * q + q) w
alike h i c n q v w =
    simp (upto_alike h v, upto_alike q w, rows_alike i q v, rows_alike c q v, rows_alike n q w, replicate-append-replicate (n * q) q w)
    (merge h (i * q) v _ ∙ merge (h + i * q) (c * q) v _)

blank_words : (q m n : ℕ) → m ≡ kind.counts_from q → n ≡ (kind.count_words + 1) * q → replicate m 0 ++ replicate n kind.none ≡ words q blank
unfolding words
blank_words q m n f h =
    let upper : m ≡ kind.header_words + kind.item_words * q + kind.client_words * q = omega arith in
    let lower : n ≡ kind.count_words * q + q = omega arith in
    ap₂ (λ (a b : ℕ). replicate a 0 ++ replicate b kind.none) upper lower ∙ sym (alike kind.header_words kind.item_words kind.client_words kind.count_words q 0 kind.none)

pub cleared : (q n : ℕ) (t a b : List ℕ) → Sized q t → n ≡ kind.counts_from q → a ≡ replicate (length (take n t)) 0
    → b ≡ replicate (length (mid_of n (length (a ++ drop n t) - n) (a ++ drop n t))) kind.none
    → put_mid n (length (a ++ drop n t) - n) (a ++ drop n t) b ≡ words q blank
cleared q n t a b s is ea eb =
    let xs = a ++ drop n t in
    let part : length (take n t) ≡ n = length-take-le n t (omega (arith, s.long)) in
    let la : length a ≡ n = ap length ea ∙ length-replicate _ 0 ∙ part in
    let long : length xs - n ≡ length (drop n t) = rw (length-append, la, length-drop) (omega (arith, s.long)) in
    let rest : drop n xs ≡ drop n t = drop_at a (drop n t) n la in
    let mid : length (mid_of n (length xs - n) xs) ≡ length t - n = rw (rest, long) (ap length (take-length (drop n t)) ∙ length-drop n t) in
    let post : post_of n (length xs - n) xs ≡ [] = rw (rest, long) (drop-length (drop n t)) in
    let one : take n xs ≡ replicate n 0 = take_at a (drop n t) n la ∙ ea ∙ ap (λ (m : ℕ). replicate m 0) part in
    let two : b ++ post_of n (length xs - n) xs ≡ replicate (length t - n) kind.none = rw (post, append-nil) (eb ∙ ap (λ (m : ℕ). replicate m kind.none) mid) in
    ap₂ ◌++◌ one two ∙ blank_words q n (length t - n) is (omega (arith, s.long))

-- chain: one row more

module _ (q r : ℕ) where
  joins : (i : ℕ) → cond (eqb i r) (next_free q r) (cond (ltb i r) (next_free q i) 0) ≡ cond (ltb i (r + 1)) (next_free q i) 0
  joins i = go (eqb i r) refl (ltb i r) refl
    where
      go : (s : Bool) → eqb i r ≡ s → (t : Bool) → ltb i r ≡ t → cond s (next_free q r) (cond t (next_free q i) 0) ≡ cond (ltb i (r + 1)) (next_free q i) 0
      go true e t f = let q : i ≡ r = eqb-true i r e in rw (lt-ltb i (r + 1) (omega arith), q)
      go false e true f = let q : i < r = ltb-true i r f in rw (lt-ltb i (r + 1) (omega arith))
      go false e false f = let q : r ≤ i = ltb-false i r f in rw (le-ltb i (r + 1) (omega (arith, eqb-false i r e)))

  one_more_lem : words q (set_client r kind.heavier (next_free q r) (set_item r kind.later (next_free q r) (chained q r))) ≡ words q (chained q (r + 1))
  one_more_lem =
      agree_words (record {
        header = λ f h. refl;
        item = λ i f h k. go (eqb f kind.later) i;
        client = λ i f h k. go (eqb f kind.heavier) i;
        count = λ i f h k. refl;
        bucket = λ b h. refl;
      })
    where
      go : (b : Bool) (i : ℕ) → cond b (cond (eqb i r) (next_free q r) (cond b (cond (ltb i r) (next_free q i) 0) 0)) (cond b (cond (ltb i r) (next_free q i) 0) 0) ≡ cond b (cond (ltb i (r + 1)) (next_free q i) 0) 0
      go true i = joins i
      go false i = refl

pub chain_none : (q : ℕ) → words q blank ≡ words q (chained q 0)
chain_none q =
    agree_words (record {
      header = λ f h. refl;
      item = λ i f h k. unchained (eqb f kind.later) i;
      client = λ i f h k. unchained (eqb f kind.heavier) i;
      count = λ i f h k. refl;
      bucket = λ b h. refl;
    })
  where
    unchained : (b : Bool) (i : ℕ) → 0 ≡ cond b (cond (ltb i 0) (next_free q i) 0) 0
    unchained true i = rw (le-ltb i 0 (omega arith))
    unchained false i = refl

pub chain_on : (q r n : ℕ) {t u v : List ℕ} → n ≡ next_free q r → Writes q t u (set_item r kind.later n) → Writes q u v (set_client r kind.heavier n) → t ≡ words q (chained q r)
    → v ≡ words q (chained q (r + 1))
chain_on q r n e item client d = (then item client).drawn (chained q r) d ∙ rw e (one_more_lem q r)

-- all of it draws the empty picture

-- the row after r in the chain from, from + 1, .. of n rows
after_up : (n from r : ℕ) → from ≤ r → r < from + n → after 0 (count_up n from) r ≡ cond (ltb (r + 1) (from + n)) (r + 1) kind.none
after_up zero from r h k = absurd (omega arith)
after_up (suc n) from r h k = go (eqb from r) refl (after_up n (suc from) r)
  where
    first : (m : ℕ) → from ≡ r → head_or kind.none (count_up m (suc from)) ≡ cond (ltb (r + 1) (from + suc m)) (r + 1) kind.none
    first zero e = rw (le-ltb (r + 1) (from + 1) (omega arith))
    first (suc m) e = let z : suc from ≡ r + 1 = omega arith in rw (lt-ltb (r + 1) (from + suc (suc m)) (omega arith)) z

    go : (b : Bool) → eqb from r ≡ b → (suc from ≤ r → r < suc from + n → after 0 (count_up n (suc from)) r ≡ cond (ltb (r + 1) (suc from + n)) (r + 1) kind.none)
        → cond b (head_or kind.none (count_up n (suc from))) (after 0 (count_up n (suc from)) r) ≡ cond (ltb (r + 1) (from + suc n)) (r + 1) kind.none
    go true e f = first n (eqb-true from r e)
    go false e f =
        let s : suc from + n ≡ from + suc n = omega arith in
        rw s at (f (omega (arith, eqb-false from r e)) (omega arith))

no_next : (n r : ℕ) → 0 ≡ after_in (replicate n []) r
no_next zero r = refl
no_next (suc n) r = no_next n r

pub laid : (q : ℕ) → 1 ≤ q → words q (headed q (chained q q)) ≡ draw (empty q)
unfolding draw
laid zero h = absurd (not-suc-le-zero h)
laid (suc n) h =
    let q = suc n in
    let L : Regions = headed q (chained q q) in
    let D : Regions = drawn (empty q) in
    let link : (r : ℕ) → r < q → cond (ltb r q) (next_free q r) 0 ≡ after 0 (count_up q 0) r = λ r l. rw (lt-ltb r q l) (sym (after_up q 0 r (omega arith) (omega arith) ∙ rw zero-add)) in
    agree_words (record {
      header = header_fields (λ f. L.header f ≡ D.header f) refl refl refl refl refl refl refl refl refl refl (refl, (refl, (refl, (refl, (refl, (refl, tt))))));
      item = λ r f l. item_fields (λ f. L.item r f ≡ D.item r f) refl refl refl (link r l) refl refl f;
      client = λ r f l. client_fields (λ f. L.client r f ≡ D.client r f) refl refl refl (link r l) refl refl (no_next q r) f;
      count = λ r f l. count_fields (λ f. L.count r f ≡ D.count r f) refl refl f;
      bucket = λ b l. ap (head_or kind.none) (sym (get_or-replicate q b [] [] l));
    })
