-- A row that goes out of its list and comes in again between the neighbours that it had: the words are as they were.
use mathlib.Core.List.{List}
use mathlib.Core.Path.{◌≡◌, refl, sym, ◌∙◌}
use Prim.Native.Nat.{ℕ, ◌<◌}
use native.Mathlib.Decide.{ℕ_discrete}
use lib.ListN.{length, get_or, set, length-set}
use lib.Seq.{get_or-set_same, get_or-set_other, ext_get_or}
use borrow.Author.Tests.{eq-eqb, ne_eqb}
use Rattle.table.specs.Kind as kind
use Rattle.table.specs.Regions.{Regions, words, at}
use Rattle.table.proofs.Write.{then}
use Rattle.rules.specs.Rows.{In}
use Rattle.rules.specs.Linked.{Link, Links, Linked}
use Rattle.rules.proofs.Rows.{in_below}
use Rattle.links.specs.declared.Places.{Places}
use Rattle.links.specs.Strands.{place, Strand, unlink_in, insert_in}
use Rattle.links.specs.Places.{places, word_at, link_at, back_word, on_word, turned, inserted}
use Rattle.links.proofs.Lists.{neighbour_links, there_and_back}
use Rattle.links.proofs.Strands.{Lens, turn_writes, insert_writes}

-- a word written back: the lists agree there, and elsewhere if they did
written : (t u : List ℕ) (i v j : ℕ) → j < length u → v ≡ get_or t i 0 → ((j ≡ i → ⊥) → get_or u j 0 ≡ get_or t j 0) → get_or (set u i v) j 0 ≡ get_or t j 0
written t u i v j h e k =
    elim (ℕ_discrete j i) [
      | yes z ↦ rw z (get_or-set_same u i v 0 (rw z at h) ∙ e)
      | no n ↦ get_or-set_other u i j v 0 n ∙ k n
    ]

-- what the one code writes last is what stood there, whichever of the places are the same
again : (p : Places) (r e l : ℕ) (t : List ℕ) → e ≡ back_word p t r → l ≡ on_word p t r
    → r ≡ get_or t (link_at p p.on p.first e) 0 → r ≡ get_or t (link_at p p.back p.last l) 0 → inserted p r e l (turned p e l l e t) ≡ t
again p r e l t he hl on back =
    let A = link_at p p.on p.first e in
    let B = link_at p p.back p.last l in
    let out = turned p e l l e t in
    let one = set out (word_at p r p.back) e in
    let two = set one (word_at p r p.on) l in
    ext_get_or 0 (inserted p r e l out) t (simp length-set)
    (λ j h.
    let low : j < length t = simp length-set at h in
    written t (set two A r) B r j (simp length-set low) back
    (λ b. written t two A r j (simp length-set low) on
    (λ a. written t one (word_at p r p.on) l j (simp length-set low) hl
    (λ _. written t out (word_at p r p.back) e j (simp length-set low) he
    (λ _. get_or-set_other (set t A l) B j e 0 b ∙ get_or-set_other t A j l 0 a)))))

-- the links of a strand
abbrev pub links_of : Strand → Regions → Links
links_of s R =
    record {
      back = λ x. s.rows.word R x s.back;
      on = λ x. s.rows.word R x s.on;
      first = s.ends.word R s.holder s.first;
      last = s.ends.word R s.holder s.last;
    }

module _ {q : ℕ} {s : Strand} (K : Lens q s) (held : s.holder < s.ends.number q) (R : Regions) where
  -- a link is read at its place: in the row, or at the end
  link_read : (f a e : ℕ) → f < s.rows.width → a < s.ends.width → Link (s.rows.number q) e
      → at (λ x. s.rows.word R x f) kind.none (s.ends.word R s.holder a) e ≡ get_or (words q R) (link_at (places q s) f (place q s.ends s.holder a) e) 0
  link_read f a e hf ha k =
      elim (ℕ_discrete e kind.none) [
        | yes z ↦ rw (eq-eqb e kind.none z, eq-eqb kind.none e (sym z)) (sym (K.ends.read R s.holder a held ha))
        | no n ↦ rw (ne_eqb e kind.none n, ne_eqb kind.none e (λ z. n (sym z))) (sym (K.rows.read R e f (k n) hf))
      ]

  module _ (r : ℕ) (hr : r < s.rows.number q) where
    -- where the row before it, or the first, links to it, and the row after it, or the last
    pub in_place : Link (s.rows.number q) ((links_of s R).back r) → Link (s.rows.number q) ((links_of s R).on r)
        → at (links_of s R).on kind.none (links_of s R).first ((links_of s R).back r) ≡ r
        → at (links_of s R).back kind.none (links_of s R).last ((links_of s R).on r) ≡ r
        → words q (insert_in s r ((links_of s R).back r) ((links_of s R).on r) (unlink_in s r R)) ≡ words q R
    in_place ke kl on back =
        let e = (links_of s R).back r in
        let l = (links_of s R).on r in
        let w = then (turn_writes K held (words q R) e l l e ke kl) (insert_writes K held _ r e l hr ke kl) in
        sym (w.drawn R refl)
        ∙ again (places q s) r e l (words q R) (sym (K.rows.read R r s.back hr K.back)) (sym (K.rows.read R r s.on hr K.on))
        (sym on ∙ link_read s.on s.first e K.on K.first ke) (sym back ∙ link_read s.back s.last l K.back K.last kl)

  -- and so of each row of a list
  pub linked_in_place : (rs : List ℕ) (r : ℕ) → Linked (s.rows.number q) (links_of s R) rs → In r rs
      → words q (insert_in s r ((links_of s R).back r) ((links_of s R).on r) (unlink_in s r R)) ≡ words q R
  linked_in_place rs r k i =
      let (ke, kl) = neighbour_links k r i in
      let (on, back) = there_and_back (s.rows.number q) K.small (links_of s R) rs r k i in
      in_place r (in_below (s.rows.number q) rs k.below r i) ke kl on back
