-- Every output of the printer fits its buffer.
use mathlib.Core.Bool.{Bool, true, false, cond}
use mathlib.Core.List.{List, reverse}
use mathlib.Core.Path.{◌≡◌, refl}
use Prim.Native.Nat.{ℕ, ◌≤◌, ◌<◌}
use native.Mathlib.Omega.{arith}
use lib.Dec.{ltb}
use lib.ListN.{length, length-append}
use Rattle.table.specs.Kind as kind
use Rattle.rules.specs.Numbers as number
use Rattle.rules.specs.History.{Waiting, nobody, limits}
use Rattle.rules.specs.Run.{carried, after}
use Rattle.rules.proofs.Choose.{either_way}
use Rattle.rules.proofs.Decide.{◌&◌, leb_decides, range_decides}
use Rattle.printed.specs.Printed.{most_bytes, most_places, budget, in_range, places_in, commands_in, refused, report, clients, session, longest, printed}
use Rattle.printed.proofs.Waits.{Bytes, bytes_drop, carried_low, everyone, clients_most, clients_low}
use Rattle.printed.proofs.Report.{report_small}
use Rattle.printed.proofs.Lines.{refused_line, report_line, client_lines_lem}

report_short : (q : ℕ) (s : List ℕ) → length (report q s) ≤ 91
report_short q s = report_line _ _ _ _ _ _ _ _ (report_small q s)

clients_short : (q : ℕ) (s : List ℕ) → in_range q ≡ true → Bytes s → length (clients q s) ≤ 3840
clients_short q s e h =
    let (least, most) = (leb_decides 1 q & leb_decides q most_places).0 e in
    let range : kind.in_range q ≡ true = (range_decides q).1 (least, omega arith) in
    let cs = carried budget s in
    let w : Waiting = after (limits q) nobody cs in
    rw (everyone q range cs)
    (omega (arith, client_lines_lem q (omega arith) w.window (reverse w.order) (clients_low q range cs (carried_low budget s h)), clients_most q range cs))

abbrev Fits : List ℕ → Type 0
Fits out = length out ≤ longest

refused_fits : (n : ℕ) → n < 10 → Fits (refused n)
refused_fits n h = omega (arith, refused_line n h)

pub short : (s : List ℕ) → Bytes s → length (printed s) ≤ longest
unfolding printed
short s h =
    either_way Fits (ltb most_bytes (length s)) (refused_fits _ (omega arith))
    (either_way Fits (ltb (length s) 2) (refused_fits _ (omega arith)) (go (in_range (places_in s)) refl))
  where
    go : (b : Bool) → in_range (places_in s) ≡ b → Fits (cond b (session (places_in s) (commands_in s)) (refused number.out_of_range))
    go true e =
        rw length-append (omega (arith, report_short (places_in s) (commands_in s), clients_short (places_in s) (commands_in s) e (bytes_drop 2 s h)))
    go false e = refused_fits _ (omega arith)
