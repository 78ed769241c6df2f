-- Free rows: the code's writes, word by word, are taking and freeing.
use mathlib.Core.List.{List}
use mathlib.Core.Bool.{Bool, true, false, cond}
use mathlib.Core.Path.{◌≡◌, refl, sym, ap, ◌∙◌, subst}
use Prim.Native.Nat.{ℕ, zero, suc, ◌+◌, ◌-◌, ◌*◌, ◌≤◌, ◌<◌}
use native.Mathlib.Nat.{add-zero, not-suc-le-zero}
use native.Mathlib.Numerals.{add-one}
use native.Mathlib.Omega.{arith}
use lib.Dec.{eqb}
use lib.ListN.{length, get_or, set, replicate, take, drop}
use borrow.Rule.Slice.PartMut.{put_mid}
use Rattle.std.proofs.lemmas.Slice.{put_mid-paste}
use Rattle.std.proofs.lemmas.List.{length-take, length-drop, length-replicate}
use Rattle.std.proofs.Math.Seq.{paste}
use Rattle.std.proofs.lemmas.List.Edits.{paste_none, fill_from_more}
use borrow.Author.Tests.{eqb-true, eqb-false}
use Rattle.table.specs.Kind as kind
use Rattle.table.specs.Regions.{words, upd, set_header, Writes}
use Rattle.table.proofs.Draw.{cond_same}
use Rattle.table.proofs.Write.{nothing, one, then, drawn_so, so_read, read_header}
use Rattle.links.specs.Strands.{Region, place, put}
use Rattle.links.specs.Pools.{Pool, blank, take_from, free_into}
use Rattle.links.proofs.Strands.{Stands, upd_other}

-- a row is blanked word by word

abbrev pub wipe : (ℕ → ℕ → ℕ) → ℕ → ℕ → ℕ → ℕ → ℕ → ℕ → ℕ
wipe g r c v zero = g
wipe g r c v (suc n) = upd (wipe g r c v n) r n (cond (eqb n c) v 0)

wipe_other : (g : ℕ → ℕ → ℕ) (r c v n i j : ℕ) → (i ≡ r → ⊥) → wipe g r c v n i j ≡ g i j
wipe_other g r c v zero i j m = refl
wipe_other g r c v (suc n) i j m = upd_other (wipe g r c v n) r n (cond (eqb n c) v 0) i j m ∙ wipe_other g r c v n i j m

pub wipe_blank : (g : ℕ → ℕ → ℕ) (r c v n i j : ℕ) → j < n → wipe g r c v n i j ≡ blank g r c v i j
wipe_blank g r c v zero i j h = absurd (not-suc-le-zero h)
wipe_blank g r c v (suc n) i j h = go (eqb j n) refl (eqb i r) refl (λ l. wipe_blank g r c v n i j l)
  where
    go : (a : Bool) → eqb j n ≡ a → (b : Bool) → eqb i r ≡ b → (j < n → wipe g r c v n i j ≡ cond (eqb j c) (cond b v (g i j)) (cond b 0 (g i j)))
        → cond a (cond b (cond (eqb n c) v 0) (wipe g r c v n i j)) (wipe g r c v n i j) ≡ cond (eqb j c) (cond b v (g i j)) (cond b 0 (g i j))
    go true e true f ih = rw (eqb-true j n e)
    go true e false f ih = wipe_other g r c v n i j (eqb-false i r f) ∙ sym (cond_same (eqb j c) (g i j))
    go false e b f ih = ih (omega (arith, eqb-false j n e))

-- a word of a row that was cleared before v was written in it
cleared : (a b : Bool) (v x y : ℕ) → x ≡ cond b 0 y → cond a (cond b v x) x ≡ cond a (cond b v y) (cond b 0 y)
cleared a true v x y e = rw e refl
cleared a false v x y e = rw e refl

-- the code clears a row, and writes v in its word c
module _ {q : ℕ} {g : Region} (K : Stands q g) (t : List ℕ) (r c v : ℕ) (hr : r < g.number q) (hc : c < g.width) where
  abbrev start : ℕ
  start = g.from q + g.width * r

  clears : (n : ℕ) → n ≤ g.width → start + n ≤ length t → Writes q t (paste t start (replicate n 0) n) (λ R. g.with (wipe (g.word R) r g.width 0 n) R)
  clears zero h l =
      subst (λ (a : List ℕ). Writes q t a (λ R. g.with (g.word R) R)) (paste_none t start (replicate 0 0))
      (drawn_so (nothing q t) (λ R. ap (words q) (sym (K.whole R))))
  clears (suc n) h l =
      let more = fill_from_more t start n 0 (omega arith) ∙ ap (λ (m : ℕ). paste t start (replicate m 0) m) (add-one n) in
      subst (λ (a : List ℕ). Writes q t a (λ R. g.with (wipe (g.word R) r g.width 0 (suc n)) R)) more
      (drawn_so (then (clears n (omega arith) (omega arith)) (one q _ (place q g r n) 0 (put g r n 0) (λ R. K.write R r n 0 hr (omega arith))))
      (λ R. ap (words q) (K.again R (wipe (g.word R) r g.width 0 n) r n 0 ∙ ap (λ (w : ℕ). g.with (upd (wipe (g.word R) r g.width 0 n) r n w) R) (sym (cond_same (eqb n g.width) 0)))))

  blank_writes : start + g.width ≤ length t → Writes q t (set (paste t start (replicate g.width 0) g.width) (start + c) v) (λ R. g.with (blank (g.word R) r c v) R)
  blank_writes l =
      drawn_so (then (clears g.width (omega arith) l) (one q _ (place q g r c) v (put g r c v) (λ R. K.write R r c v hr hc)))
      (λ R.
      let a = wipe (g.word R) r g.width 0 g.width in
      ap (words q) (K.again R a r c v)
      ∙ K.agree R _ _ (λ i j hi hj. cleared (eqb j c) (eqb i r) v (a i j) (g.word R i j) (wipe_blank (g.word R) r g.width 0 g.width i j hj ∙ cond_same (eqb j g.width) (cond (eqb i r) 0 (g.word R i j)))))

-- n words from a place on, taken out and filled with 0, are cleared
pub filled : (t ys : List ℕ) (from n : ℕ) → from + n ≤ length t → ys ≡ replicate (length (take (from + n - from) (drop from t))) 0
    → put_mid from (from + n - from) t ys ≡ paste t from (replicate n 0) n
filled t ys from n h e =
    let long : length (take (from + n - from) (drop from t)) ≡ n = omega (arith, length-take (from + n - from) (drop from t), length-drop from t) in
    put_mid-paste from (from + n - from) t ys (replicate n 0) n (e ∙ ap (λ (m : ℕ). replicate m 0) long) (omega arith) (sym (length-replicate n 0))

-- taking and freeing, once for both kinds of rows
module _ {q : ℕ} {P : Pool} (K : Stands q P.rows) (head : P.head < kind.header_words) (link : P.link < P.rows.width) {t b : List ℕ} (r : ℕ) (hr : r < P.rows.number q) where
  pub take_writes : (n : ℕ) → r ≡ get_or t P.head 0 → n ≡ get_or t (place q P.rows r P.link) 0
      → Writes q t b (set_header P.head n) → Writes q t b (take_from P)
  take_writes n er en w =
      so_read w
      (λ R d.
      let first : r ≡ R.header P.head = er ∙ read_header q R P.head d head in
      let next : n ≡ P.rows.word R r P.link = en ∙ ap (λ (l : List ℕ). get_or l (place q P.rows r P.link) 0) d ∙ K.read R r P.link hr link in
      ap (λ (m : ℕ). set_header P.head m R) (next ∙ ap (λ (x : ℕ). P.rows.word R x P.link) first))

  pub free_writes : {a : List ℕ} (v from : ℕ) → v ≡ get_or t P.head 0 → from ≡ place q P.rows r 0 → from + P.rows.width ≤ length t
      → a ≡ set (paste t from (replicate P.rows.width 0) P.rows.width) (from + P.link) v → Writes q a b (set_header P.head r) → Writes q t b (free_into P r)
  free_writes {a} v from ev ef l ea w =
      let e : from ≡ P.rows.from q + P.rows.width * r = ef ∙ add-zero (P.rows.from q + P.rows.width * r) in
      let blanks : Writes q t a (λ R. P.rows.with (blank (P.rows.word R) r P.link v) R) = rw (ea, e) (blank_writes K t r P.link v hr link (rw e at l)) in
      so_read (then blanks w)
      (λ R d. ap (λ (m : ℕ). set_header P.head r (P.rows.with (blank (P.rows.word R) r P.link m) R)) (ev ∙ read_header q R P.head d head))
