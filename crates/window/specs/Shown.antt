-- What a join and a leave ask of a table: that its words show waiting items.
use Rattle.std.specs.Prelude.{List, ◌≡◌, ℕ, ◌≤◌, length}
use Rattle.table.specs.Kind as kind
use Rattle.table.specs.Regions.{Regions, words}
use Rattle.table.specs.Owners.{window_words}
use Rattle.rules.specs.Rows.{last_or, In}
use Rattle.rules.specs.Picture.{Item, own_rows, count_of}
use Rattle.rules.specs.Parts.{Queued}

-- the table is drawn from regions that hold these waiting items and free rows
pub record Shown (q : ℕ) (t : List ℕ) : Type 0 where
  pub regs : Regions
  pub window : List Item
  pub free : List ℕ
  pub drawn : t ≡ words q regs
  pub queued : Queued q (window_words regs) window free

-- an item row is free, and e is the newest item of client c, or none
pub record Room (q : ℕ) (t : List ℕ) (c e : ℕ) : Type 0 where
  pub shown : Shown q t
  pub some : 1 ≤ length shown.free
  pub newest : e ≡ last_or kind.none (own_rows c shown.window)

-- the item in row r waits and is client c's, of whose number of items F holds
pub record ItemOf (q : ℕ) (t : List ℕ) (c r : ℕ) (F : ℕ → Type 0) : Type 0 where
  pub shown : Shown q t
  pub its : In r (own_rows c shown.window)
  pub count : F (count_of shown.window c)
