-- What the batch printer prints: document 01's bytes for an input, a function of the input's bytes alone, by the plain history.
use Prim.Native.Char.{code}
use Prim.Native.String.{String, [] as []ᵀ, ◌∷◌ as ◌∷ᵀ◌}
use Rattle.std.specs.Prelude.{Bool, cond, ◌&&◌, List, [], ◌∷◌, ◌++◌, ℕ, ◌+◌, ◌*◌, leb, ltb, length, get_or, drop}
use Rattle.rules.specs.Numbers as number
use Rattle.rules.specs.History.{nobody, limits, heaviest}
use Rattle.rules.specs.Commands.{Outcome}
use Rattle.rules.specs.Run.{stop, carried, after, outcomes, total}
use Rattle.page.specs.Form.{filled}

-- the most bytes that it takes
abbrev pub most_bytes : ℕ
most_bytes = 9002

-- the budget of its run
abbrev pub budget : ℕ
budget = 1000

-- its largest window
abbrev pub most_places : ℕ
most_places = 256

-- whether it takes a window of q places
abbrev pub in_range : ℕ → Bool
in_range q = leb 1 q && leb q most_places

-- Q in the first 2 bytes, lowest first; the rest are commands
abbrev pub places_in : List ℕ → ℕ
places_in s = get_or s 0 0 + 256 * get_or s 1 0

abbrev pub commands_in : List ℕ → List ℕ
commands_in s = drop 2 s

-- the bytes of a text
abbrev pub bytes : String → List ℕ
bytes []ᵀ = []
bytes (c ∷ᵀ s) = code c ∷ bytes s

-- the forms of its lines
abbrev pub refused_form : List ℕ
refused_form = bytes "refused #\n"

abbrev pub report_form : List ℕ
report_form = bytes "stop # done # joined # evicted # passed # served # turned # idle #\n"

abbrev pub client_form : List ℕ
client_form = bytes "# #\n"

-- the line of a refusal
abbrev pub refused : ℕ → List ℕ
refused n = filled refused_form (n ∷ [])

-- the report of a run of the bytes s in a window of q places where nobody waits: the stop, the commands carried out, and the six totals
abbrev pub report_numbers : ℕ → List ℕ → List ℕ
report_numbers q s =
    let os : List Outcome = outcomes (limits q) nobody (carried budget s) in
    stop budget s
    ∷ length (carried budget s)
    ∷ total (λ t. t.joined) os
    ∷ total (λ t. t.evicted) os
    ∷ total (λ t. t.passed) os
    ∷ total (λ t. t.served) os
    ∷ total (λ t. t.turned) os
    ∷ total (λ t. t.idle) os
    ∷ []

-- its line
abbrev pub report : ℕ → List ℕ → List ℕ
report q s = filled report_form (report_numbers q s)

-- a line for each id and count pair
unfoldable pub client_lines : List ℕ → List ℕ
client_lines [] = []
client_lines (i ∷ []) = []
client_lines (i ∷ n ∷ ps) = filled client_form (i ∷ n ∷ []) ++ client_lines ps

-- a line for each client after that run, heaviest first: q places hold no more than q clients
abbrev pub clients : ℕ → List ℕ → List ℕ
clients q s = client_lines (heaviest q (after (limits q) nobody (carried budget s)))

-- the report, and then the clients
abbrev pub session : ℕ → List ℕ → List ℕ
session q s = report q s ++ clients q s

-- what is printed: the report and the clients; or a refusal, of an over-long input, of one without Q, of a window that it does not take
unfoldable pub printed : List ℕ → List ℕ
printed s =
    cond (ltb most_bytes (length s)) (refused number.overlong)
    (cond (ltb (length s) 2) (refused number.cut)
    (cond (in_range (places_in s)) (session (places_in s) (commands_in s)) (refused number.out_of_range)))

-- bytes enough for it
abbrev pub longest : ℕ
longest = 4096
