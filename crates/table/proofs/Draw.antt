-- Reading and writing a word of a table that is drawn from its regions: `rows` once over the row's length, then each region at its place.
use mathlib.Core.List.{List, [], ◌∷◌, ◌++◌, append_assoc}
use mathlib.Core.Bool.{Bool, true, false, cond}
use mathlib.Core.Path.{◌≡◌, refl, sym, ap, ap₂, ◌∙◌, fun_ext}
use Prim.Native.Nat.{ℕ, zero, suc, ◌+◌, ◌*◌, ◌≤◌, ◌<◌}
use native.Mathlib.Nat.{le_of_suc-le-suc, not-suc-le-zero, mul-suc, mul-zero, add_assoc, add_comm, zero-add}
use native.Mathlib.Omega.{arith}
use lib.Dec.{eqb-zero-suc, eqb-suc-zero, eqb-suc-suc}
use lib.ListN.{length, get_or, set, length-append, get_or-append}
use lib.Seq.{get_or-append-add, set-append_left}
use borrow.Author.Tests.{eq-eqb, ne_eqb}
use Rattle.table.specs.Kind as kind
use Rattle.table.specs.Regions.{Regions, upto, rows, words, item_word, client_word, count_word, bucket_word, at, upd, set_header, set_item, set_client, set_count, set_bucket}

pub cond_same : (b : Bool) (x : ℕ) → cond b x x ≡ x
cond_same true x = refl
cond_same false x = refl

pub at_same : (f : ℕ → ℕ) (a v : ℕ) → at f a v a ≡ v
at_same f a v = rw (eq-eqb a a refl)

pub at_other : (f : ℕ → ℕ) (a v i : ℕ) → (i ≡ a → ⊥) → at f a v i ≡ f i
at_other f a v i h = rw (ne_eqb i a h)

-- upto

pub length_upto : (n : ℕ) (f : ℕ → ℕ) → length (upto n f) ≡ n
unfolding upto
length_upto zero f = refl
length_upto (suc n) f = ap suc (length_upto n (λ i. f (suc i)))

pub get_upto : (n : ℕ) (f : ℕ → ℕ) (i : ℕ) → i < n → get_or (upto n f) i 0 ≡ f i
unfolding upto
get_upto zero f i h = absurd (not-suc-le-zero h)
get_upto (suc n) f zero h = refl
get_upto (suc n) f (suc i) h = get_upto n (λ j. f (suc j)) i (le_of_suc-le-suc h)

pub set_upto : (n : ℕ) (f : ℕ → ℕ) (i v : ℕ) → i < n → set (upto n f) i v ≡ upto n (at f i v)
unfolding upto
set_upto zero f i v h = absurd (not-suc-le-zero h)
set_upto (suc n) f zero v h = simp eqb-suc-zero
set_upto (suc n) f (suc i) v h =
    simp (eqb-zero-suc, eqb-suc-suc) (ap (λ (l : List ℕ). f zero ∷ l) (set_upto n (λ j. f (suc j)) i v (le_of_suc-le-suc h)))

pub upto_agree : (n : ℕ) (f g : ℕ → ℕ) → ((i : ℕ) → i < n → f i ≡ g i) → upto n f ≡ upto n g
unfolding upto
upto_agree zero f g h = refl
upto_agree (suc n) f g h =
    ap₂ ◌∷◌ (h zero (omega arith)) (upto_agree n (λ i. f (suc i)) (λ i. g (suc i)) (λ i l. h (suc i) (omega arith)))

-- rows

pub length_rows : (k q : ℕ) (g : ℕ → ℕ → ℕ) → length (rows k q g) ≡ k * q
unfolding rows
length_rows k zero g = sym (mul-zero k)
length_rows k (suc q) g = simp (length-append, length_upto, length_rows k q, mul-suc) (add_comm k (k * q))

-- a place in the row after the first is k further on
over : (k r f : ℕ) → k * suc r + f ≡ k + (k * r + f)
over k r f = rw mul-suc (omega arith)

append_at : (xs ys : List ℕ) (n i : ℕ) → length xs ≡ n → get_or (xs ++ ys) (n + i) 0 ≡ get_or ys i 0
append_at xs ys n i e = rw (← e) (get_or-append-add xs ys i 0)

set_append_add : (xs ys : List ℕ) (i v : ℕ) → set (xs ++ ys) (length xs + i) v ≡ xs ++ set ys i v
set_append_add [] ys i v = rw zero-add
set_append_add (x ∷ xs) ys i v = simp native.Mathlib.Nat.suc-add (ap (λ (l : List ℕ). x ∷ l) (set_append_add xs ys i v))

pub append_set : (xs ys : List ℕ) (n i v : ℕ) → length xs ≡ n → set (xs ++ ys) (n + i) v ≡ xs ++ set ys i v
append_set xs ys n i v e = rw (← e) (set_append_add xs ys i v)

pub get_rows : (k q : ℕ) (g : ℕ → ℕ → ℕ) (r f : ℕ) → r < q → f < k → get_or (rows k q g) (k * r + f) 0 ≡ g r f
unfolding rows
get_rows k zero g r f h hf = absurd (not-suc-le-zero h)
get_rows k (suc q) g zero f h hf =
    rw (mul-zero, zero-add) (get_or-append (upto k (g zero)) _ 0 f (rw length_upto hf) ∙ get_upto k (g zero) f hf)
get_rows k (suc q) g (suc r) f h hf =
    rw over (append_at (upto k (g zero)) _ k (k * r + f) (length_upto k (g zero)) ∙ get_rows k q (λ i. g (suc i)) r f (le_of_suc-le-suc h) hf)

-- the rows after the first, where the first is altered
upd_zero : (g : ℕ → ℕ → ℕ) (f v : ℕ) → ◌≡◌ {A = ℕ → ℕ → ℕ} (λ i. g (suc i)) (λ i. upd g zero f v (suc i))
upd_zero g f v = fun_ext λ i. fun_ext λ j. simp (eqb-suc-zero, cond_same)

-- the first row, and the rows after it, where a later one is altered
upd_suc_head : (g : ℕ → ℕ → ℕ) (r f v : ℕ) → g zero ≡ upd g (suc r) f v zero
upd_suc_head g r f v = fun_ext λ j. simp (eqb-zero-suc, cond_same)

upd_suc : (g : ℕ → ℕ → ℕ) (r f v : ℕ) → ◌≡◌ {A = ℕ → ℕ → ℕ} (upd (λ i. g (suc i)) r f v) (λ i. upd g (suc r) f v (suc i))
upd_suc g r f v = fun_ext λ i. fun_ext λ j. simp eqb-suc-suc

pub set_rows : (k q : ℕ) (g : ℕ → ℕ → ℕ) (r f v : ℕ) → r < q → f < k → set (rows k q g) (k * r + f) v ≡ rows k q (upd g r f v)
unfolding rows
set_rows k zero g r f v h hf = absurd (not-suc-le-zero h)
set_rows k (suc q) g zero f v h hf =
    rw (mul-zero, zero-add)
    (set-append_left (upto k (g zero)) _ f v (rw length_upto hf)
    ∙ ap₂ (λ (a : List ℕ) (b : ℕ → ℕ → ℕ). a ++ rows k q b) (set_upto k (g zero) f v hf) (upd_zero g f v))
set_rows k (suc q) g (suc r) f v h hf =
    rw over
    (append_set (upto k (g zero)) _ k (k * r + f) v (length_upto k (g zero))
    ∙ ap₂ (λ (a : ℕ → ℕ) (b : List ℕ). upto k a ++ b) (upd_suc_head g r f v)
    (set_rows k q (λ i. g (suc i)) r f v (le_of_suc-le-suc h) hf ∙ ap (rows k q) (upd_suc g r f v)))

pub rows_agree : (k q : ℕ) (f g : ℕ → ℕ → ℕ) → ((r i : ℕ) → r < q → i < k → f r i ≡ g r i) → rows k q f ≡ rows k q g
unfolding rows
rows_agree k zero f g h = refl
rows_agree k (suc q) f g h =
    ap₂ ◌++◌ (upto_agree k (f zero) (g zero) (λ i l. h zero i (omega arith) l))
    (rows_agree k q (λ r. f (suc r)) (λ r. g (suc r)) (λ r i m l. h (suc r) i (omega arith) l))

-- a row past the end is not drawn
rows_past : (k q : ℕ) (g : ℕ → ℕ → ℕ) (r f v : ℕ) → q ≤ r → rows k q (upd g r f v) ≡ rows k q g
unfolding rows
rows_past k zero g r f v h = refl
rows_past k (suc q) g zero f v h = absurd (not-suc-le-zero h)
rows_past k (suc q) g (suc r) f v h =
    ap₂ (λ (a : ℕ → ℕ) (b : List ℕ). upto k a ++ b) (sym (upd_suc_head g r f v))
    (ap (rows k q) (sym (upd_suc g r f v)) ∙ rows_past k q (λ i. g (suc i)) r f v (le_of_suc-le-suc h))

-- the regions at their places: a part with n words before it

place_get : (pre mid post : List ℕ) (n i : ℕ) → length pre ≡ n → i < length mid → get_or (pre ++ (mid ++ post)) (n + i) 0 ≡ get_or mid i 0
place_get pre mid post n i e h = append_at pre (mid ++ post) n i e ∙ get_or-append mid post 0 i h

place_set : (pre mid post : List ℕ) (n i v : ℕ) → length pre ≡ n → i < length mid → set (pre ++ (mid ++ post)) (n + i) v ≡ pre ++ (set mid i v ++ post)
place_set pre mid post n i v e h = append_set pre (mid ++ post) n i v e ∙ ap (λ (l : List ℕ). pre ++ l) (set-append_left mid post i v h)

pub length_words : (q : ℕ) (R : Regions) → length (words q R) ≡ kind.size q
unfolding words
length_words q R = simp (length-append, length_upto, length_rows) (omega arith)

module _ (q : ℕ) (R : Regions) where
  pub get_header : (f : ℕ) → f < kind.header_words → get_or (words q R) f 0 ≡ R.header f
  unfolding words
  get_header f h = get_or-append (upto kind.header_words R.header) _ 0 f (rw length_upto h) ∙ get_upto kind.header_words R.header f h

  pub set_header_lem : (f v : ℕ) → f < kind.header_words → set (words q R) f v ≡ words q (set_header f v R)
  unfolding words
  set_header_lem f v h = set-append_left (upto kind.header_words R.header) _ f v (rw length_upto h) ∙ rw (set_upto kind.header_words R.header f v h)

  pub get_item : (r f : ℕ) → r < q → f < kind.item_words → item_word (words q R) r f ≡ R.item r f
  unfolding words
  get_item r f h hf =
      rw (add_assoc kind.header_words (kind.item_words * r) f)
      (place_get (upto kind.header_words R.header) (rows kind.item_words q R.item) _ kind.header_words (kind.item_words * r + f) (length_upto kind.header_words R.header) (rw length_rows (omega arith))
      ∙ get_rows kind.item_words q R.item r f h hf)

  pub set_item_lem : (r f v : ℕ) → r < q → f < kind.item_words → set (words q R) (kind.item_at r f) v ≡ words q (set_item r f v R)
  unfolding words
  set_item_lem r f v h hf =
      rw (add_assoc kind.header_words (kind.item_words * r) f)
      (place_set (upto kind.header_words R.header) (rows kind.item_words q R.item) _ kind.header_words (kind.item_words * r + f) v (length_upto kind.header_words R.header) (rw length_rows (omega arith))
      ∙ rw (set_rows kind.item_words q R.item r f v h hf))

  -- the words before the client rows
  to_clients : List ℕ
  to_clients = upto kind.header_words R.header ++ rows kind.item_words q R.item

  length_to_clients : length to_clients ≡ kind.clients_from q
  unfolding to_clients
  length_to_clients = simp (length-append, length_upto, length_rows)

  split_clients : words q R ≡ to_clients ++ (rows kind.client_words q R.client ++ (rows kind.count_words q R.count ++ upto q R.bucket))
  unfolding words to_clients
  split_clients = sym (append_assoc (upto kind.header_words R.header) _ _)

  pub get_client : (r f : ℕ) → r < q → f < kind.client_words → client_word (words q R) q r f ≡ R.client r f
  get_client r f h hf =
      rw (add_assoc (kind.clients_from q) (kind.client_words * r) f, split_clients)
      (place_get to_clients (rows kind.client_words q R.client) _ (kind.clients_from q) (kind.client_words * r + f) length_to_clients (rw length_rows (omega arith))
      ∙ get_rows kind.client_words q R.client r f h hf)

  -- the words before the count rows
  to_counts : List ℕ
  to_counts = to_clients ++ rows kind.client_words q R.client

  length_to_counts : length to_counts ≡ kind.counts_from q
  unfolding to_counts
  length_to_counts = simp (length-append, length_to_clients, length_rows) (omega arith)

  split_counts : words q R ≡ to_counts ++ (rows kind.count_words q R.count ++ upto q R.bucket)
  unfolding to_counts
  split_counts = split_clients ∙ sym (append_assoc to_clients _ _)

  pub get_count : (r f : ℕ) → r < q → f < kind.count_words → count_word (words q R) q r f ≡ R.count r f
  get_count r f h hf =
      rw (add_assoc (kind.counts_from q) (kind.count_words * r) f, split_counts)
      (place_get to_counts (rows kind.count_words q R.count) _ (kind.counts_from q) (kind.count_words * r + f) length_to_counts (rw length_rows (omega arith))
      ∙ get_rows kind.count_words q R.count r f h hf)

  -- the words before the buckets
  to_buckets : List ℕ
  to_buckets = to_counts ++ rows kind.count_words q R.count

  length_to_buckets : length to_buckets ≡ kind.buckets_from q
  unfolding to_buckets
  length_to_buckets = simp (length-append, length_to_counts, length_rows) (omega arith)

  split_buckets : words q R ≡ to_buckets ++ upto q R.bucket
  unfolding to_buckets
  split_buckets = split_counts ∙ sym (append_assoc to_counts _ _)

  pub get_bucket : (b : ℕ) → b < q → bucket_word (words q R) q b ≡ R.bucket b
  get_bucket b h =
      rw split_buckets (append_at to_buckets (upto q R.bucket) (kind.buckets_from q) b length_to_buckets ∙ get_upto q R.bucket b h)

module _ (q : ℕ) (R : Regions) where
  pub set_client_lem : (r f v : ℕ) → r < q → f < kind.client_words → set (words q R) (kind.client_at q r f) v ≡ words q (set_client r f v R)
  unfolding to_clients
  set_client_lem r f v h hf =
      rw (add_assoc (kind.clients_from q) (kind.client_words * r) f, split_clients q R)
      (place_set (to_clients q R) (rows kind.client_words q R.client) _ (kind.clients_from q) (kind.client_words * r + f) v (length_to_clients q R) (rw length_rows (omega arith))
      ∙ rw (set_rows kind.client_words q R.client r f v h hf) (sym (split_clients q (set_client r f v R))))

  pub set_count_lem : (r f v : ℕ) → r < q → f < kind.count_words → set (words q R) (kind.count_at q r f) v ≡ words q (set_count r f v R)
  unfolding to_counts to_clients
  set_count_lem r f v h hf =
      rw (add_assoc (kind.counts_from q) (kind.count_words * r) f, split_counts q R)
      (place_set (to_counts q R) (rows kind.count_words q R.count) _ (kind.counts_from q) (kind.count_words * r + f) v (length_to_counts q R) (rw length_rows (omega arith))
      ∙ rw (set_rows kind.count_words q R.count r f v h hf) (sym (split_counts q (set_count r f v R))))

  pub set_bucket_lem : (b v : ℕ) → b < q → set (words q R) (kind.bucket_at q b) v ≡ words q (set_bucket b v R)
  unfolding to_buckets to_counts to_clients
  set_bucket_lem b v h =
      rw (split_buckets q R)
      (append_set (to_buckets q R) (upto q R.bucket) (kind.buckets_from q) b v (length_to_buckets q R)
      ∙ rw (set_upto q R.bucket b v h) (sym (split_buckets q (set_bucket b v R))))

  pub item_past : (r f v : ℕ) → q ≤ r → words q (set_item r f v R) ≡ words q R
  unfolding words
  item_past r f v h = rw (rows_past kind.item_words q R.item r f v h)

  pub client_past : (r f v : ℕ) → q ≤ r → words q (set_client r f v R) ≡ words q R
  unfolding words
  client_past r f v h = rw (rows_past kind.client_words q R.client r f v h)

  pub count_past : (r f v : ℕ) → q ≤ r → words q (set_count r f v R) ≡ words q R
  unfolding words
  count_past r f v h = rw (rows_past kind.count_words q R.count r f v h)

  pub bucket_past : (b v : ℕ) → q ≤ b → words q (set_bucket b v R) ≡ words q R
  unfolding words
  bucket_past b v h = rw (upto_agree q (at R.bucket b v) R.bucket (λ i l. at_other R.bucket b v i (λ e. omega (arith, h, l, e))))
