-- A test that fails shows that the table is not sound; all of them passed show that it is.
use mathlib.Core.List.{List, ◌∷◌}
use mathlib.Core.Bool.{Bool, true, false}
use mathlib.Core.Path.{◌≡◌, refl, sym, ap, ap₂, ◌∙◌, subst}
use Prim.Native.Nat.{ℕ, zero, suc, ◌+◌, ◌≤◌, ◌<◌}
use native.Mathlib.Nat.{suc-add}
use native.Mathlib.Omega.{arith}
use native.Mathlib.Numerals.{unary_clauses}
use lib.ListN.{length, get_or, take, drop, replicate, get_or-replicate}
use Rattle.std.proofs.lemmas.List.{length-take-le, length-drop, get_or-take, get_or-drop}
use Rattle.table.specs.Kind as kind
use Rattle.table.specs.Regions.{regions, Sized}
use Rattle.table.specs.Owners.{FixedWords, from, fixed_words, lookup_words}
use Rattle.rules.specs.Tells.{Tells}
use Rattle.rules.specs.Picture.{client_rows}
use Rattle.rules.specs.Sound.{picture, sound, fixed_of}
use Rattle.rules.specs.Ready.{Ready}
use Rattle.rules.proofs.Decide.{no_true}
use Rattle.rules.proofs.Tells.{refuted}
use Rattle.rules.proofs.Sound.{clauses_sound}
use Rattle.rules.proofs.Ready.{ready_fixed, ready_sized}
use Rattle.order_check.specs.Clients.{Clients}
use Rattle.order_check.specs.Clients as order
use Rattle.items_check.specs.Items as items
use Rattle.lookup.specs.Promise as lookup
use Rattle.lookup.specs.Promise.{chains_of, ready_keeps}
use Rattle.verdict.specs.Zeros.{Zeros}
use Rattle.verdict.proofs.Together.{parts_sound, ready_clients, ready_present, ready_number, ready_items}

-- what is not so is false
not_so : (b : Bool) → (b ≡ true → ⊥) → false ≡ b
not_so true n = absurd (n refl)
not_so false n = refl

-- values that are all 0, one by one and as a list
zeros_list : (n a : ℕ) (f : ℕ → ℕ) → ((i : ℕ) → i < n → f (a + i) ≡ 0) → from n a f ≡ replicate n 0
zeros_list zero a f h = refl
zeros_list (suc n) a f h =
    ap₂ ◌∷◌ (simp unary_clauses at (h 0 (omega arith))) (zeros_list n (suc a) f (λ i l. rw suc-add (simp unary_clauses at (h (suc i) (omega arith)))))

from_at : (n a : ℕ) (f : ℕ → ℕ) (i : ℕ) → i < n → get_or (from n a f) i 0 ≡ f (a + i)
from_at zero a f i l = absurd (omega arith)
from_at (suc n) a f zero l = simp unary_clauses
from_at (suc n) a f (suc i) l = simp unary_clauses (rw suc-add at (from_at n (suc a) f i (omega arith)))

zeros_each : (n a : ℕ) (f : ℕ → ℕ) → from n a f ≡ replicate n 0 → (i : ℕ) → i < n → f (a + i) ≡ 0
zeros_each n a f e i l = sym (from_at n a f i l) ∙ ap (λ (v : List ℕ). get_or v i 0) e ∙ get_or-replicate n i 0 0 l

-- the header's zeros are so many words of a table
abbrev header_zeros : List ℕ → List ℕ
header_zeros t = take kind.zeros (drop kind.zeros_at t)

zeros_length : {q : ℕ} {t : List ℕ} → Sized q t → length (header_zeros t) ≡ kind.zeros
zeros_length {t = t} z = length-take-le kind.zeros (drop kind.zeros_at t) (rw length-drop (omega (arith, z.long)))

zeros_at : (t : List ℕ) (i : ℕ) → i < kind.zeros → get_or (header_zeros t) i 0 ≡ get_or t (kind.zeros_at + i) 0
zeros_at t i l = get_or-take kind.zeros (drop kind.zeros_at t) i 0 l ∙ get_or-drop kind.zeros_at t i 0

module _ {q : ℕ} (t : List ℕ) (size : get_or t kind.places_at 0 ≡ q) where
  sound_ready : sound t ≡ true → Ready q t
  unfolding picture
  sound_ready e = record { sound = e; places = size }

  zeros_held : Ready q t → Zeros (header_zeros t)
  zeros_held y i l =
      let few : i < kind.zeros = subst (λ (n : ℕ). i < n) (zeros_length (ready_sized y)) l in
      zeros_at t i few ∙ zeros_each kind.zeros kind.zeros_at (λ n. get_or t n 0) (ap (λ (F : FixedWords). F.zeros) (ready_fixed y)) i few

  pub zeros_fail : {ok : Bool} → Tells ok (Zeros (header_zeros t)) → ok ≡ false → false ≡ sound t
  zeros_fail a e = not_so (sound t) (λ s. refuted a e (zeros_held (sound_ready s)))

  pub clients_fail : {ok : Bool} → order.Checked q t ok → ok ≡ false → false ≡ sound t
  clients_fail a e = not_so (sound t) (λ s. refuted a e (ready_clients (sound_ready s)))

  module _ (n : ℕ) (number : n ≡ get_or t kind.clients_at 0) where
    pub lookup_fail : {ok : Bool} → lookup.Checked q t n ok → ok ≡ false → false ≡ sound t
    lookup_fail a e =
        not_so (sound t)
        (λ s. let y = sound_ready s in no_true (sym e ∙ a.passes (client_rows (picture t)) _ (ready_present y) (ready_number y ∙ sym number) (ready_keeps y)))

    -- the items' answer is the whole answer
    pub items_tell : {b c : Bool} → Sized q t → 1 ≤ q → get_or t kind.mark_at 0 ≡ kind.mark → Zeros (header_zeros t) → (k : Clients q (regions q t))
        → lookup.Checked q t n b → b ≡ true → items.Checked q t c → c ≡ sound t
    items_tell {b = b} {c} z least mark zeros k l lb i = go c refl
      where
        fixed : fixed_words (regions q t) ≡ fixed_of q
        fixed =
            let all = zeros_list kind.zeros kind.zeros_at (λ n. get_or t n 0) (λ i l. sym (zeros_at t i l) ∙ zeros i (rw (zeros_length z) l)) in
            λ j. record { mark = mark j; places = size j; zeros = all j }

        go : (d : Bool) → c ≡ d → d ≡ sound t
        go true e =
            sym (clauses_sound t
            (parts_sound z least k (chains_of q (lookup_words (regions q t))) (l.right k.rows k.present (sym k.ordered.number ∙ sym number) lb) ((i k.rows k.present).right e) fixed))
        go false e = not_so (sound t) (λ s. let y = sound_ready s in no_true (sym e ∙ (i (client_rows (picture t)) (ready_present y)).passes (ready_items y)))
