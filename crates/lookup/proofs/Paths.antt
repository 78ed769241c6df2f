-- Where every client is come to in its bucket and no more pointers than that hold a row, the clients are filed.
use mathlib.Core.List.{List, [], ◌∷◌, ◌++◌, map}
use mathlib.Core.Bool.{Bool, true, false, cond}
use mathlib.Core.Path.{◌≡◌, refl, sym, ap, subst, ◌∙◌}
use mathlib.Core.Logic.{⊎_elim, inl, inr}
use Prim.Native.Nat.{ℕ, zero, suc, ◌+◌, ◌≤◌, ◌<◌}
use native.Mathlib.Nat.{not-suc-le-zero}
use native.Mathlib.Decide.{ℕ_discrete}
use native.Mathlib.Omega.{arith}
use lib.Dec.{eqb}
use lib.ListN.{length, length-append, length-map}
use borrow.Author.Tests.{eqb-true, ne_eqb}
use Rattle.table.specs.Kind as kind
use Rattle.table.specs.Regions.{regions, bucket_word}
use Rattle.table.specs.Owners.{lookup_words, order_words}
use Rattle.rules.specs.Rows.{In, NotIn, All, Distinct, without}
use Rattle.rules.specs.Linked.{Chain}
use Rattle.rules.specs.Spread.{bucket}
use Rattle.rules.specs.Parts.{Present}
use Rattle.rules.proofs.Put.{take_distinct, without_put}
use Rattle.rules.proofs.Rows.{not_both, notin, other, in_left, in_right, distinct_left, distinct_right, apart_right, in_below, below_in, in_without, without_length, gone, Within, fewer, all_there, all_in}
use Rattle.rules.proofs.Columns.{followed}
use Rattle.rules.proofs.Clients.{bucket_below}
use Rattle.lookup.specs.Inside.Filed.{Filed}
use Rattle.lookup.specs.Inside.Reading.{id_of, next_of, Path, most_steps, filled, Other, Comes, Stands, onward, Reached}
use Rattle.lookup.specs.Inside.Filing.{id_in_lem, ids_by, ids_tell}
use Rattle.lookup.proofs.Checking.{chains, unchained}

-- a number below k at which the column does not hold none
filled_in : (f : ℕ → ℕ) (k x : ℕ) → x < k → (f x ≡ kind.none → ⊥) → In x (filled f k)
filled_in f zero x h n = absurd (not-suc-le-zero h)
filled_in f (suc k) x h n = go (eqb (f k) kind.none) refl (λ l. filled_in f k x l n)
  where
    go : (b : Bool) → eqb (f k) kind.none ≡ b → (x < k → In x (filled f k)) → In x (cond b (filled f k) (k ∷ filled f k))
    go true e more = elim (ℕ_discrete x k) [ yes i ↦ absurd (n (ap f i ∙ eqb-true (f k) kind.none e)) | no d ↦ more (omega arith) ]
    go false e more = elim (ℕ_discrete x k) [ yes i ↦ inl i | no d ↦ inr (more (omega arith)) ]

-- a list that is no longer than distinct rows, and holds them all, holds nobody twice
all_distinct : (zs xs : List ℕ) → Distinct xs → Within xs zs → length zs ≤ length xs → Distinct zs
all_distinct [] xs d w h = tt
all_distinct (z ∷ zs) xs d w h =
    let back : Within (z ∷ zs) xs = all_there xs (z ∷ zs) d w h in
    let here : In z xs = back z (inl refl) in
    let fresh : NotIn z zs = notin z zs (λ i. absurd (omega (arith, h, fewer xs zs d (λ x j. ⊎_elim (λ e. rw e i) (λ k. k) (w x j))))) in (
      fresh,
      all_distinct zs (without z xs) (take_distinct (without_put z xs here) d).1
          (λ x i. ⊎_elim (λ e. absurd (other z x (without z xs) (gone z xs here d) i (sym e))) (λ k. k) (w x (in_without z x xs i)))
          (omega (arith, h, without_length z xs here)),
    )

-- a chain holds what its pointers hold
chain_first : (o : ℕ → ℕ) (h : ℕ) (xs : List ℕ) → Chain o h xs → (h ≡ kind.none → ⊥) → In h xs
chain_first o h [] c n = absurd (n c)
chain_first o h (x ∷ xs) c n = inl c.0

chain_next : (o : ℕ → ℕ) (h x : ℕ) (xs : List ℕ) → Chain o h xs → In x xs → (o x ≡ kind.none → ⊥) → In (o x) xs
chain_next o h x [] c i n = absurd i
chain_next o h x (y ∷ xs) c i n =
    inr (⊎_elim (λ e. subst (λ (z : ℕ). In (o z) xs) (sym e) (chain_first o (o y) xs c.1 (λ k. n (ap o e ∙ k)))) (λ j. chain_next o (o y) x xs c.1 j n) i)

path_so : (P Q : ℕ → Type 0) (o : ℕ → ℕ) (h : ℕ) → ((x : ℕ) → P x → Q x) → (k r : ℕ) → Path P o h k r → Path Q o h k r
path_so P Q o h f zero r p = p
path_so P Q o h f (suc k) r p = (p.0, f p.0 p.1, path_so P Q o h f k p.0 p.2, p.3)

module _ (P : ℕ → Type 0) (o : ℕ → ℕ) (h : ℕ) where
  -- as many steps come to one row
  path_same : (k r s : ℕ) → Path P o h k r → Path P o h k s → r ≡ s
  path_same zero r s p e = sym p ∙ e
  path_same (suc k) r s p e = sym p.3 ∙ ap o (path_same k p.0 e.0 p.2 e.2) ∙ e.3

  -- a row that is come to earlier is one of those on the way
  path_by : (j k r s : ℕ) → Path P o h j s → k < j → Path P o h k r → P r
  path_by zero k r s p l e = absurd (not-suc-le-zero l)
  path_by (suc j) k r s p l e =
      elim (ℕ_discrete k j) [
        | yes i ↦ subst P (path_same j p.0 r p.2 (rw i at e)) p.1
        | no n ↦ path_by j k r p.0 p.2 (omega arith) e
      ]

-- of two rows of one id neither is on the way to the other, so they are one
comes_one : {q : ℕ} (t : List ℕ) (h x r s : ℕ) → Comes q t h r x → Comes q t h s x → id_of q t r ≡ x → id_of q t s ≡ x → r ≡ s
comes_one {q} t h x r s a b i j =
    let less : a.steps < b.steps → ⊥ = λ l. (path_by (Other q t x) (next_of q t) h b.steps a.steps r s b.path l a.path).other i in
    let more : b.steps < a.steps → ⊥ = λ l. (path_by (Other q t x) (next_of q t) h a.steps b.steps s r a.path l b.path).other j in
    let same : a.steps ≡ b.steps = omega (arith, less, more) in
    path_same (Other q t x) (next_of q t) h a.steps r s a.path (rw same b.path)

module _ {q : ℕ} (hq : q ≤ kind.none) (t : List ℕ) {cs : List ℕ} (w : Present q (regions q t) cs) (m : Reached q t (length cs)) where
  abbrev first : ℕ → ℕ
  first b = bucket_word t q b

  abbrev next : ℕ → ℕ
  next r = next_of q t r

  abbrev home : ℕ → ℕ
  home r = bucket q (id_of q t r)

  low : (r : ℕ) → In r cs → r < q
  low = in_below q cs w.below

  home_low : (r : ℕ) → In r cs → home r < q
  home_low r i = bucket_below q (id_of q t r) (omega (arith, low r i))

  some : (r : ℕ) → In r cs → r ≡ kind.none → ⊥
  some r i e = omega (arith, low r i, hq)

  -- what the pointers hold: as many rows as there are clients
  abbrev firsts : List ℕ
  firsts = map first (filled first q)

  abbrev nexts : List ℕ
  nexts = map (onward q t) (filled (onward q t) q)

  on_is : (r : ℕ) → In r cs → onward q t r ≡ next r
  on_is r i = rw (ne_eqb ((order_words (regions q t)).count r) 0 (w.counted r i))

  first_held : (b : ℕ) → b < q → (first b ≡ kind.none → ⊥) → In (first b) firsts
  first_held b h n = id_in_lem first b (filled first q) (filled_in first q b h n)

  next_filled : (r : ℕ) → In r cs → (next r ≡ kind.none → ⊥) → In r (filled (onward q t) q)
  next_filled r i n = filled_in (onward q t) q r (low r i) (λ e. n (sym (on_is r i) ∙ e))

  next_held : (r : ℕ) → In r cs → (next r ≡ kind.none → ⊥) → In (next r) nexts
  next_held r i n = rw (← on_is r i) (id_in_lem (onward q t) r (filled (onward q t) q) (next_filled r i n))

  -- row r is come to in k steps from bucket b, by clients
  abbrev Come : ℕ → ℕ → ℕ → Type 0
  Come b k r = Path (λ x. In x cs) next (first b) k r

  steps : (r : ℕ) → In r cs → Stands q t r
  steps r i = m.stands r (low r i) (w.counted r i)

  come : (r : ℕ) (i : In r cs) → Come (home r) (steps r i).steps r
  come r i = path_so (Other q t (id_of q t r)) (λ x. In x cs) next (first (home r)) (λ x o. w.others x o.low o.counts) (steps r i).steps r (steps r i).path

  come_held : (b k r : ℕ) → b < q → In r cs → Come b k r → In r (firsts ++ nexts)
  come_held b zero r h i p = in_left r firsts nexts (rw p at (first_held b h (λ e. some r i (sym p ∙ e))))
  come_held b (suc k) r h i p =
      in_right r firsts nexts (rw p.3 at (next_held p.0 p.1 (λ e. some r i (sym p.3 ∙ e))))

  all_held : Within cs (firsts ++ nexts)
  all_held r i = come_held (home r) (steps r i).steps r (home_low r i) i (come r i)

  few : length (firsts ++ nexts) ≤ length cs
  few = rw (length-append firsts nexts, length-map (filled first q) first, length-map (filled (onward q t) q) (onward q t)) (omega (arith, m.many))

  -- so each holds a client, and no two hold the same
  clients : Within (firsts ++ nexts) cs
  clients = all_there cs (firsts ++ nexts) w.distinct all_held few

  apart : Distinct (firsts ++ nexts)
  apart = all_distinct (firsts ++ nexts) cs w.distinct all_held few

  first_client : (b : ℕ) → b < q → (first b ≡ kind.none → ⊥) → In (first b) cs
  first_client b h n = clients (first b) (in_left (first b) firsts nexts (first_held b h n))

  next_client : (r : ℕ) → In r cs → (next r ≡ kind.none → ⊥) → In (next r) cs
  next_client r i n = clients (next r) (in_right (next r) firsts nexts (next_held r i n))

  -- none is both a first and a next
  never : (b x r : ℕ) → b < q → In x cs → In r cs → first b ≡ r → next x ≡ r → ⊥
  never b x r h j i e f =
      not_both r firsts (rw e at (first_held b h (λ n. some r i (sym e ∙ n))))
      (apart_right r firsts nexts apart (rw f at (next_held x j (λ n. some r i (sym f ∙ n)))))

  -- a row is come to from one bucket only, and in one number of steps
  one_way : (k j b d r : ℕ) → b < q → d < q → In r cs → Come b k r → Come d j r → (b ≡ d) × (k ≡ j)
  one_way zero zero b d r h g i p e =
      let full : (c : ℕ) → c < q → first c ≡ r → In c (filled first q) = λ c l z. filled_in first q c l (λ n. some r i (sym z ∙ n)) in
      (ids_tell first (filled first q) (distinct_left firsts nexts apart) b d (full b h p) (full d g e) (p ∙ sym e), refl)
  one_way zero (suc j) b d r h g i p e = absurd (never b e.0 r h e.1 i p e.3)
  one_way (suc k) zero b d r h g i p e = absurd (never d p.0 r g p.1 i e p.3)
  one_way (suc k) (suc j) b d r h g i p e =
      let full : (x : ℕ) → In x cs → next x ≡ r → In x (filled (onward q t) q) = λ x l z. next_filled x l (λ n. some r i (sym z ∙ n)) in
      let on : (x : ℕ) → In x cs → next x ≡ r → onward q t x ≡ r = λ x l z. on_is x l ∙ z in
      let same : p.0 ≡ e.0 =
      ids_tell (onward q t) (filled (onward q t) q) (distinct_right firsts nexts apart) p.0 e.0 (full p.0 p.1 p.3) (full e.0 e.1 e.3)
      (on p.0 p.1 p.3 ∙ sym (on e.0 e.1 e.3)) in
      let back = one_way k j b d p.0 h g p.1 p.2 (rw same e.2) in
      (back.0, ap suc back.1)

  -- what is left of bucket b's chain from h on
  record Tail (b h : ℕ) : Type 0 where
    rows : List ℕ
    chain : Chain next h rows
    each : All (λ r. In r cs × (home r ≡ b)) rows

  tail : (f k b h : ℕ) → b < q → f + k ≡ suc most_steps → ((h ≡ kind.none → ⊥) → In h cs) → Come b k h → Tail b h
  tail zero k b h l s i p =
      elim (ℕ_discrete h kind.none) [
        | yes e ↦ record { rows = []; chain = e; each = tt }
        | no n ↦ absurd (omega (arith, s, (steps h (i n)).few, (one_way k (steps h (i n)).steps b (home h) h l (home_low h (i n)) (i n) p (come h (i n))).1))
      ]
  tail (suc f) k b h l s i p =
      elim (ℕ_discrete h kind.none) [
        | yes e ↦ record { rows = []; chain = e; each = tt }
        | no n ↦
            let is = one_way k (steps h (i n)).steps b (home h) h l (home_low h (i n)) (i n) p (come h (i n)) in
            let rest = tail f (suc k) b (next h) l (omega (arith, s)) (next_client h (i n)) (h, i n, p, refl) in
            record { rows = h ∷ rest.rows; chain = (refl, rest.chain); each = ((i n, sym is.0), rest.each) }
      ]

  whole : (b : ℕ) → b < q → Tail b (first b)
  whole b l = tail (suc most_steps) 0 b (first b) l refl (first_client b l) refl

  whole_is : (b : ℕ) (l : b < q) → chains q t b ≡ (whole b l).rows
  whole_is b l =
      let c = whole b l in
      followed q hq next (first b) c.rows (below_in q c.rows (λ r j. low r (all_in (λ x. In x cs × (home x ≡ b)) c.rows c.each r j).0)) c.chain

  -- whoever is come to stands in it
  come_in : (b : ℕ) (l : b < q) (k r : ℕ) → In r cs → Come b k r → In r (whole b l).rows
  come_in b l zero r i p = rw p at (chain_first next (first b) (whole b l).rows (whole b l).chain (λ e. some r i (sym p ∙ e)))
  come_in b l (suc k) r i p =
      rw p.3 at (chain_next next (first b) p.0 (whole b l).rows (whole b l).chain (come_in b l k p.0 p.1 p.2) (λ e. some r i (sym p.3 ∙ e)))

  own_id : (r s : ℕ) → In r cs → In s cs → id_of q t r ≡ id_of q t s → r ≡ s
  own_id r s i j e =
      comes_one t (first (home r)) (id_of q t r) r s (steps r i) (subst (λ (y : ℕ). Comes q t (first (bucket q y)) s y) (sym e) (steps s j)) refl (sym e)

  pub reached_filed : Filed q (lookup_words (regions q t)) (id_of q t) cs (chains q t)
  reached_filed =
      record {
        chained = λ b h. rw (whole_is b h) (whole b h).chain;
        stands = λ r i. rw (whole_is (home r) (home_low r i)) (come_in (home r) (home_low r i) (steps r i).steps r i (come r i));
        only = λ b r h i. all_in (λ x. In x cs × (home x ≡ b)) (whole b h).rows (whole b h).each r (rw (whole_is b h) at i);
        ids = ids_by (id_of q t) cs w.distinct own_id;
        below = low;
        unchained = unchained hq t w;
      }
