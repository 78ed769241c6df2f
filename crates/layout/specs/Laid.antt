-- The regions that a lay-out draws, part by part.
use Rattle.std.specs.Prelude.{cond, ℕ, ◌+◌, eqb, ltb}
use Rattle.table.specs.Kind as kind
use Rattle.table.specs.Regions.{Regions, set_header}

-- header and rows 0, count rows and buckets none
abbrev pub blank : Regions
blank = record { header = λ f. 0; item = λ r f. 0; client = λ r f. 0; count = λ r f. kind.none; bucket = λ b. kind.none }

-- the row that a free row chains to
abbrev pub next_free : ℕ → ℕ → ℕ
next_free q r = cond (ltb (r + 1) q) (r + 1) kind.none

-- the first n rows of each kind chained
abbrev pub chained : ℕ → ℕ → Regions
chained q n =
    record {
      header = blank.header;
      item = λ r f. cond (eqb f kind.later) (cond (ltb r n) (next_free q r) 0) 0;
      client = λ r f. cond (eqb f kind.heavier) (cond (ltb r n) (next_free q r) 0) 0;
      count = blank.count;
      bucket = blank.bucket;
    }

-- the header's words that are not 0
abbrev pub headed : ℕ → Regions → Regions
headed q R =
    set_header kind.heaviest_at kind.none
    (set_header kind.lightest_at kind.none
    (set_header kind.back_at kind.none (set_header kind.front_at kind.none (set_header kind.places_at q (set_header kind.mark_at kind.mark R)))))
