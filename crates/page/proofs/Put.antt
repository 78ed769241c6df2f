-- Texts that are put into bytes, one after the other.
use mathlib.Core.List.{List, ◌++◌, append_assoc}
use mathlib.Core.Path.{◌≡◌, refl}
use Prim.Native.Nat.{ℕ, ◌+◌, ◌-◌, ◌≤◌}
use native.Mathlib.Nat.{add_assoc}
use native.Mathlib.Omega.{arith}
use lib.ListN.{length, take, drop, length-append, length-drop}
use lib.Seq.{length-take-le, take_at, drop-drop, drop-append-add}
use borrow.Rule.Slice.PartMut.{put_mid}
use Rattle.page.specs.Put.{written, Room, Put}

-- the bytes up to the end of what is written
head : (at : ℕ) (s out : List ℕ) → at ≤ length out → length (take at out ++ s) ≡ at + length s
head at s out h = rw (length-append, length-take-le at out h)

pub take_written : (at : ℕ) (s out : List ℕ) → at ≤ length out → take (at + length s) (written at s out) ≡ take at out ++ s
unfolding written
take_written at s out h = take_at (take at out ++ s) _ _ (head at s out h)

drop_written : (at : ℕ) (s : List ℕ) (n : ℕ) (out : List ℕ) → at ≤ length out → drop (at + length s + n) (written at s out) ≡ drop (at + length s + n) out
unfolding written
drop_written at s n out h = rw (← head at s out h, drop-append-add, drop-drop)

pub length_written : (at : ℕ) (s out : List ℕ) → at + length s ≤ length out → length (written at s out) ≡ length out
unfolding written
length_written at s out h = simp (length-append, length-take-le at out (omega arith), length-drop) (omega arith)

split : (at : ℕ) (s out : List ℕ) → written at s out ≡ take at out ++ s ++ drop (at + length s) out
unfolding written
split at s out = refl

-- a part that is as long as s, once s is copied into it
pub copied : (at : ℕ) (s out part : List ℕ) → part ≡ s → put_mid at (at + length s - at) out part ≡ written at s out
unfolding written
copied at s out part e =
    let long : at + length s - at ≡ length s = omega arith in
    rw (e, long, drop-drop, append_assoc)

-- one text after the other is both at once
pub written_append : (at : ℕ) (s t out : List ℕ) → at ≤ length out → written (at + length s) t (written at s out) ≡ written at (s ++ t) out
written_append at s t out h =
    rw (split (at + length s) t (written at s out), split at (s ++ t) out, take_written at s out, drop_written at s (length t) out)
    (simp (append_assoc, length-append, add_assoc))

-- what has room has room for its first part
pub room_first : {out : List ℕ} {at : ℕ} {s : List ℕ} (t : List ℕ) → Room out at (s ++ t) → Room out at s
room_first {s = s} t h = record { fits = omega (arith, length-append s t) }

module _ {out : List ℕ} {at : ℕ} {s out' : List ℕ} {r : ℕ} (p : Put out at s out' r) where
  -- a text that is put makes the bytes no longer
  pub put_length : length out' ≡ length out
  put_length = rw p.bytes (length_written at s out p.room.fits)

  -- once the first part is put, what is behind it has room
  pub room_next : {t : List ℕ} → Room out at (s ++ t) → Room out' r t
  room_next {t} h = record { fits = omega (arith, put_length, length-append s t) }

  -- one text is put after the other
  pub put_then : {t out'' : List ℕ} {r'' : ℕ} → Put out' r t out'' r'' → Put out at (s ++ t) out'' r''
  put_then {t} q =
      record {
        room = record { fits = omega (arith, put_length, length-append s t) };
        bytes = cc (written_append at s t out (omega arith));
        place = omega (arith, length-append s t);
      }
