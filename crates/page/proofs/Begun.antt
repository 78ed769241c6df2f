-- A text that is put part by part, as a loop puts it: what its turns keep.
use mathlib.Core.List.{List, [], ◌++◌, append_assoc, append-nil}
use mathlib.Core.Path.{◌≡◌, refl, ◌∙◌}
use Prim.Native.Nat.{ℕ}
use native.Mathlib.Omega.{arith}
use lib.Seq.{paste-zero}
use Rattle.page.specs.Put.{written, Room, Put}
use Rattle.page.proofs.Put.{room_first, room_next, put_then}

-- of the text whole, which goes into out₀ from place at on, a part is put: that left out, the next place is i, and rest is to come
pub record Begun (out₀ : List ℕ) (at : ℕ) (whole out : List ℕ) (i : ℕ) (rest : List ℕ) : Type 0 where
  pub room : Room out₀ at whole
  pub done : List ℕ
  pub put : Put out₀ at done out i
  pub all : done ++ rest ≡ whole

written_none : (at : ℕ) (out : List ℕ) → out ≡ written at [] out
unfolding written
written_none at out = paste-zero out at []

-- nothing is put yet
pub begin : {out : List ℕ} {at : ℕ} {s : List ℕ} → Room out at s → Begun out at s out at s
begin {out} {at} h =
    record {
      room = h;
      done = [];
      put = record { room = record { fits = omega arith }; bytes = written_none at out; place = omega arith };
      all = refl;
    }

module _ {out₀ : List ℕ} {at : ℕ} {whole out : List ℕ} {i : ℕ} where
  module _ {s : List ℕ} (t : List ℕ) (b : Begun out₀ at whole out i (s ++ t)) where
    -- the next part has room
    pub begun_room : Room out i s
    begun_room = room_first t (room_next b.put (rw b.all b.room))

    -- it is put, and what is behind it is to come
    pub begun_next : {out' : List ℕ} {i' : ℕ} → Put out i s out' i' → Begun out₀ at whole out' i' t
    begun_next p =
        record { room = b.room; done = b.done ++ s; put = put_then b.put p; all = append_assoc b.done s t ∙ b.all }

  -- nothing is to come
  pub begun_end : Begun out₀ at whole out i [] → Put out₀ at whole out i
  begun_end b = rw (← b.all, append-nil) b.put
