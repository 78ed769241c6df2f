-- A block that is filled command by command: what `fill`'s loop keeps, its turn, and its ends.
use mathlib.Core.Bool.{cond}
use mathlib.Core.List.{List, [], ◌∷◌, ◌++◌}
use mathlib.Core.Logic.{by_cases}
use mathlib.Core.Path.{◌≡◌, refl, sym, ap, ap₂, ◌∙◌}
use Prim.Native.Nat.{ℕ, zero, suc, ◌+◌, ◌*◌, ◌/◌, ◌%◌, ◌≤◌, ◌<◌}
use native.Mathlib.Decide.{dec_lt, ℕ_discrete}
use native.Mathlib.Numerals.{add-one}
use native.Mathlib.Omega.{arith}
use lib.Dec.{eqb}
use lib.ListN.{length, get_or, take, drop, length-drop}
use lib.Seq.{take-add, length-take-le, get_or-drop, drop-drop}
use borrow.Author.Tests.{ne_eqb, lt-ltb, le-ltb}
use Rattle.std.specs.Prelude.{Result, Ok, Err}
use Rattle.rules.specs.Numbers as number
use Rattle.rules.specs.Run.{command_bytes, four_bytes, kind_of, id_in, ticket_in, known}
use Rattle.rules.proofs.Choose.{either_way}
use Rattle.answers.specs.declared.Refusal.{Refusal}
use Rattle.answers.specs.declared.Stop.{Stop}
use Rattle.answers.specs.declared.Stop.TheVariants as stops
use Rattle.answers.specs.Numbers.{refusal_number, done_number, stop_number}
use Rattle.answers.proofs.Numbered.{some_number}
use Rattle.recording.specs.Kind as kind
use Rattle.recording.specs.Block.{four_of, nine, sealed}
use Rattle.recording.proofs.Torn.{four_back}
use Rattle.recording.proofs.Written.{sealed_front, sealed_length}
use Rattle.recorder.specs.Record.{record_number, one_more, record_block}
use Rattle.record.specs.Fills.{Fills}

abbrev Bytes : List ℕ → Type 0
Bytes s = (i : ℕ) → get_or s i 0 < 256

bytes_drop : (n : ℕ) (s : List ℕ) → Bytes s → Bytes (drop n s)
bytes_drop n s b i = rw get_or-drop (b (n + i))

-- bytes come back from what they say: one, four, and the nine of a command
one_kept : (s : List ℕ) → 1 ≤ length s → get_or s 0 0 ∷ [] ≡ take 1 s
one_kept [] h = absurd (omega arith)
one_kept (a ∷ s) h = refl

firsts : (s : List ℕ) → 4 ≤ length s → get_or s 0 0 ∷ get_or s 1 0 ∷ get_or s 2 0 ∷ get_or s 3 0 ∷ [] ≡ take 4 s
firsts [] h = absurd (omega arith)
firsts (a ∷ []) h = absurd (omega arith)
firsts (a ∷ b ∷ []) h = absurd (omega arith)
firsts (a ∷ b ∷ c ∷ []) h = absurd (omega arith)
firsts (a ∷ b ∷ c ∷ d ∷ s) h = refl

four_kept : (s : List ℕ) → Bytes s → 4 ≤ length s → four_of (four_bytes s) ≡ take 4 s
four_kept s b h = four_back (get_or s 0 0) (get_or s 1 0) (get_or s 2 0) (get_or s 3 0) (b 0) (b 1) (b 2) (b 3) ∙ firsts s h

nine_kept : (s : List ℕ) → Bytes s → command_bytes ≤ length s → nine (kind_of s) (id_in s) (ticket_in s) ≡ take command_bytes s
nine_kept s b h =
    let id = four_kept (drop 1 s) (bytes_drop 1 s b) (simp length-drop (omega arith)) in
    let ticket = four_kept (drop 5 s) (bytes_drop 5 s b) (simp length-drop (omega arith)) in
    let parts : take command_bytes s ≡ take 1 s ++ (take 4 (drop 1 s) ++ take 4 (drop 5 s)) = rw (take-add 1 8 s, take-add 4 4 (drop 1 s), drop-drop 4 1 s) in
    ap₂ ◌++◌ (one_kept s (omega arith)) (ap₂ ◌++◌ id ticket) ∙ sym parts

-- the first k commands of s are recorded in the block n
pub record Filling (n : ℕ) (s b : List ℕ) (k : ℕ) : Type 0 where
  pub room : kind.commands * n + k ≤ kind.most_commands
  pub long : length b ≡ kind.block_bytes
  pub bytes : 0 < k → b ≡ sealed (take (command_bytes * k) s) k n

pub none_filled : (n : ℕ) (s : List ℕ) {b : List ℕ} → n ≤ kind.blocks → length b ≡ kind.block_bytes → Filling n s b 0
none_filled n s few h = record { room = omega arith; long = h; bytes = λ some. absurd (omega arith) }

-- so it begins with their bytes
begins : {n : ℕ} {s b : List ℕ} (k : ℕ) → Filling n s b k → command_bytes * k ≤ length s → take (command_bytes * k) b ≡ take (command_bytes * k) s
begins zero f h = refl
begins {n} {s} (suc k) f h =
    let m : ℕ = command_bytes * suc k in
    ap (take m) (f.bytes (omega arith)) ∙ sealed_front (take m s) (suc k) n m (length-take-le m s h)

-- where the recorder takes a command there is room for it
has_room : (n k i t : ℕ) → record_number n k i t ≡ 0 → n < kind.most_commands
unfolding record_number
has_room n k i t e =
    by_cases (dec_lt n kind.most_commands) (λ h. h)
    (λ h. absurd (either_way (λ (r : ℕ). r ≡ 0 → ⊥) (known k i t) (λ z. omega arith) (λ z. omega arith) (rw (le-ltb n kind.most_commands (omega arith)) at e)))

-- the recorder is asked for the bytes behind them, answers r and leaves b'
module _ (n : ℕ) (s : List ℕ) {b : List ℕ} {k : ℕ} (f : Filling n s b k) (inside : command_bytes * k + command_bytes ≤ length s) (short : length s ≤ kind.used_at) where
  abbrev rest : List ℕ
  rest = drop (command_bytes * k) s

  rest_long : command_bytes ≤ length rest
  rest_long = simp length-drop (omega arith)

  module _ (r : Result (Unit {0}) Refusal) (told : done_number r ≡ record_number (kind.commands * n + k) (kind_of rest) (id_in rest) (ticket_in rest))
      {b' : List ℕ} (left : b' ≡ record_block (kind.commands * n + k) (kind_of rest) (id_in rest) (ticket_in rest) b) where
    is_taken : done_number r ≡ 0 → b' ≡ one_more (kind.commands * n + k) (kind_of rest) (id_in rest) (ticket_in rest) b
    unfolding record_block
    is_taken e = left ∙ rw (← told, e)

    is_kept : (done_number r ≡ 0 → ⊥) → b' ≡ b
    unfolding record_block
    is_kept e = left ∙ rw (← told, ne_eqb (done_number r) 0 e)

    taken : Bytes s → done_number r ≡ 0 → Filling n s b' (k + 1)
    taken small e =
        let place : (kind.commands * n + k) % kind.commands ≡ k = omega arith in
        let block : (kind.commands * n + k) / kind.commands ≡ n = omega arith in
        let on : command_bytes * k + command_bytes ≡ command_bytes * (k + 1) = omega arith in
        let put : nine (kind_of rest) (id_in rest) (ticket_in rest) ≡ take command_bytes rest = nine_kept rest (bytes_drop (command_bytes * k) s small) rest_long in
        let front : take (command_bytes * k) b ++ nine (kind_of rest) (id_in rest) (ticket_in rest) ≡ take (command_bytes * (k + 1)) s =
        ap₂ ◌++◌ (begins k f (omega arith)) put ∙ sym (take-add (command_bytes * k) command_bytes s) ∙ ap (λ (m : ℕ). take m s) on in
        let is : b' ≡ sealed (take (command_bytes * (k + 1)) s) (k + 1) n =
        is_taken e
        ∙ (λ i. sealed (take (command_bytes * place i) b ++ nine (kind_of rest) (id_in rest) (ticket_in rest)) (suc (place i)) (block i))
        ∙ (λ i. sealed (front i) (sym (add-one k) i) n) in
        record {
          room = omega (arith, has_room _ _ _ _ (sym told ∙ e));
          long = ap length is ∙ sealed_length (take (command_bytes * (k + 1)) s) (k + 1) n (rw (length-take-le (command_bytes * (k + 1)) s (omega arith)) (omega arith));
          bytes = λ some. is;
        }

    pub one_filled : Bytes s → {u : Unit {0}} → r ≡ Ok u → Filling n s b' (k + 1)
    one_filled small e = taken small (ap done_number e)

    pub refused_there : {x : Refusal} → r ≡ Err x → Fills n s (record { commands = k; stop = stops.Block x }) b'
    refused_there {x} e =
        let said : done_number r ≡ refusal_number x = ap done_number e in
        let refused : refusal_number x ≡ 0 → ⊥ = some_number x in
        let kept : b' ≡ b = is_kept (λ z. refused (sym said ∙ z)) in
        record {
          few = omega arith;
          room = f.room;
          long = sym (ap length kept ∙ f.long);
          bytes = λ some. kept ∙ f.bytes some;
          refused = sym said ∙ told ∙ rw (ne_eqb (length rest) 0 (λ z. omega (arith, rest_long)), le-ltb (length rest) command_bytes rest_long);
          all = λ z. absurd (refused z);
        }

-- no whole command is left
pub all_filled : (n : ℕ) (s : List ℕ) {b : List ℕ} {k : ℕ} {o : Stop} → Filling n s b k → k ≡ length s / command_bytes → length s ≤ kind.used_at
    → stop_number o ≡ cond (eqb (length s % command_bytes) 0) number.ended number.cut → Fills n s (record { commands = length s / command_bytes; stop = o }) b
all_filled n s f e short told =
    let k : ℕ = length s / command_bytes in
    let all : Filling n s _ k = rw e at f in
    let left : length (drop (command_bytes * k) s) ≡ length s % command_bytes = simp length-drop (omega arith) in
    record {
      few = omega arith;
      room = all.room;
      long = sym all.long;
      bytes = all.bytes;
      refused = told ∙ rw (left, lt-ltb (length s % command_bytes) command_bytes (omega arith));
      all = λ z. by_cases (ℕ_discrete (length s % command_bytes) 0) (λ y. omega arith) (λ y. absurd (omega (arith, rw (ne_eqb (length s % command_bytes) 0 y) at (sym told ∙ z))));
    }
