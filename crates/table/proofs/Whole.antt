-- Every list of `size q` words is drawn from its regions; and two records of regions draw the same words where they agree on the rows that there are, and only there.
use mathlib.Core.List.{List, [], ◌∷◌, ◌++◌}
use mathlib.Core.Path.{◌≡◌, refl, sym, ap, ap₂, ◌∙◌, fun_ext}
use Prim.Native.Nat.{ℕ, zero, suc, ◌+◌, ◌*◌, ◌≤◌, ◌<◌}
use native.Mathlib.Nat.{le_of_suc-le-suc, not-suc-le-zero, mul-suc, mul-zero, add_assoc, zero-add}
use native.Mathlib.Omega.{arith}
use lib.ListN.{length, get_or, take, drop, length-drop}
use lib.Seq.{take-add, get_or-drop, drop-drop, take_all}
use Rattle.table.specs.Kind as kind
use Rattle.table.specs.Regions.{Regions, upto, rows, words, regions}
use Rattle.table.proofs.Draw.{get_header, get_item, get_client, get_count, get_bucket, upto_agree, rows_agree}

upto_take : (n : ℕ) (t : List ℕ) → n ≤ length t → upto n (λ i. get_or t i 0) ≡ take n t
unfolding upto
upto_take zero t h = refl
upto_take (suc n) [] h = absurd (not-suc-le-zero h)
upto_take (suc n) (x ∷ t) h = ap (λ (l : List ℕ). x ∷ l) (upto_take n t (le_of_suc-le-suc h))

rows_take : (k q : ℕ) (t : List ℕ) → k * q ≤ length t → rows k q (λ r f. get_or t (k * r + f) 0) ≡ take (k * q) t
unfolding rows
rows_take k zero t h = rw mul-zero
rows_take k (suc q) t h =
    let whole_row : k + k * q ≡ k * suc q = omega (arith, mul-suc k q) in
    let room : k + k * q ≤ length t = omega (arith, mul-suc k q) in
    let there : (r f : ℕ) → get_or t (k * suc r + f) 0 ≡ get_or (drop k t) (k * r + f) 0 = λ r f. rw (get_or-drop, mul-suc) (ap (λ (n : ℕ). get_or t n 0) (omega arith)) in
    ap₂ (λ (a : ℕ → ℕ) (b : ℕ → ℕ → ℕ). upto k a ++ rows k q b) (fun_ext λ f. rw (mul-zero, zero-add)) (fun_ext λ r. fun_ext λ f. there r f)
    ∙ ap₂ ◌++◌ (upto_take k t (omega arith)) (rows_take k q (drop k t) (rw length-drop (omega arith)))
    ∙ sym (take-add k (k * q) t)
    ∙ ap (λ (n : ℕ). take n t) whole_row

-- the same from a place on
upto_from : (n a : ℕ) (t : List ℕ) → a + n ≤ length t → upto n (λ i. get_or t (a + i) 0) ≡ take n (drop a t)
upto_from n a t h =
    ap (upto n) (fun_ext λ i. sym (get_or-drop a t i 0)) ∙ upto_take n (drop a t) (rw length-drop (omega arith))

rows_from : (k q a : ℕ) (t : List ℕ) → a + k * q ≤ length t → rows k q (λ r f. get_or t (a + k * r + f) 0) ≡ take (k * q) (drop a t)
rows_from k q a t h =
    ap (rows k q) (fun_ext λ r. fun_ext λ f. ap (λ (n : ℕ). get_or t n 0) (add_assoc a (k * r) f) ∙ sym (get_or-drop a t (k * r + f) 0))
    ∙ rows_take k q (drop a t) (rw length-drop (omega arith))

-- a part, and the part after it
next : (a n m : ℕ) (t : List ℕ) (l : List ℕ) → a + n ≡ m → l ≡ drop m t → take n (drop a t) ++ l ≡ drop a t
next a n m t l e h =
    ap (λ (x : List ℕ). take n (drop a t) ++ x) (h ∙ ap (λ (i : ℕ). drop i t) (sym e) ∙ sym (drop-drop n a t)) ∙ lib.ListN.take-append-drop n (drop a t)

pub whole : (q : ℕ) (t : List ℕ) → length t ≡ kind.size q → t ≡ words q (regions q t)
unfolding words
whole q t h =
    sym
    (ap₂ ◌++◌ (upto_take kind.header_words t (omega arith))
    (ap₂ ◌++◌ (rows_from kind.item_words q kind.header_words t (omega arith))
    (ap₂ ◌++◌ (rows_from kind.client_words q (kind.clients_from q) t (omega arith))
    (ap₂ ◌++◌ (rows_from kind.count_words q (kind.counts_from q) t (omega arith)) (upto_from q (kind.buckets_from q) t (omega arith)))))
    ∙ next 0 kind.header_words kind.header_words t _ refl
    (next kind.header_words (kind.item_words * q) (kind.clients_from q) t _ refl
    (next (kind.clients_from q) (kind.client_words * q) (kind.counts_from q) t _ (omega arith)
    (next (kind.counts_from q) (kind.count_words * q) (kind.buckets_from q) t _ (omega arith)
    (take_all q (drop (kind.buckets_from q) t) (rw length-drop (omega arith)))))))

-- regions that agree on the rows of a table of q places
pub record Agree (q : ℕ) (R S : Regions) : Type 0 where
  pub header : (f : ℕ) → f < kind.header_words → R.header f ≡ S.header f
  pub item : (r f : ℕ) → r < q → f < kind.item_words → R.item r f ≡ S.item r f
  pub client : (r f : ℕ) → r < q → f < kind.client_words → R.client r f ≡ S.client r f
  pub count : (r f : ℕ) → r < q → f < kind.count_words → R.count r f ≡ S.count r f
  pub bucket : (b : ℕ) → b < q → R.bucket b ≡ S.bucket b

pub agree_words : {q : ℕ} {R S : Regions} → Agree q R S → words q R ≡ words q S
unfolding words
agree_words {q} a =
    ap₂ ◌++◌ (upto_agree kind.header_words _ _ a.header)
    (ap₂ ◌++◌ (rows_agree kind.item_words q _ _ a.item)
    (ap₂ ◌++◌ (rows_agree kind.client_words q _ _ a.client)
    (ap₂ ◌++◌ (rows_agree kind.count_words q _ _ a.count) (upto_agree q _ _ a.bucket))))

-- what is read from a drawing is what was drawn
pub read_agrees : (q : ℕ) (t : List ℕ) (R : Regions) → t ≡ words q R → Agree q (regions q t) R
read_agrees q t R e =
    record {
      header = λ f h. rw e (get_header q R f h);
      item = λ r f h g. rw e (get_item q R r f h g);
      client = λ r f h g. rw e (get_client q R r f h g);
      count = λ r f h g. rw e (get_count q R r f h g);
      bucket = λ b h. rw e (get_bucket q R b h);
    }

pub words_agree : {q : ℕ} {R S : Regions} → words q R ≡ words q S → Agree q R S
words_agree {q} {R} {S} e =
    let a = read_agrees q (words q R) S e in
    record {
      header = λ f h. sym (get_header q R f h) ∙ a.header f h;
      item = λ r f h g. sym (get_item q R r f h g) ∙ a.item r f h g;
      client = λ r f h g. sym (get_client q R r f h g) ∙ a.client r f h g;
      count = λ r f h g. sym (get_count q R r f h g) ∙ a.count r f h g;
      bucket = λ b h. sym (get_bucket q R b h) ∙ a.bucket b h;
    }
