-- Where a walk along a row or a column stands, and which numbers are left of it.
use Rattle.std.specs.Prelude.{◌≡◌, ℕ, ◌+◌, ◌-◌, ◌<◌, ◌≤◌, ◌==◌, Bool, true, if◌then◌else◌, nat_lt, List, [], length, map, filter, drop}
use Rattle.cross_links.specs.declared.entry.Entry.{Entry}
use Rattle.cross_links.specs.declared.line.Line.{Line}
use Rattle.cross_links.specs.declared.line.Line.TheVariants.{Row, Column}
use Rattle.cross_links.specs.Layout.{Layout, linked_among}
use Rattle.cross_links.specs.Rings.{Stays}
use Rattle.cross_links.specs.Linkage.{entry_at}

-- the grid has this row or column
abbrev pub HasLine : Layout → Line → Type 0
HasLine grid (Row row) = row < grid.rows
HasLine grid (Column column) = column < grid.columns

-- the place of the head of a row or a column
abbrev pub head_of : Layout → Line → ℕ
head_of grid (Row row) = row
head_of grid (Column column) = grid.rows + column

-- whether an entry is in a row or a column
abbrev pub is_on : Line → Entry → Bool
is_on (Row row) entry = entry.row == row
is_on (Column column) entry = entry.column == column

-- the number by which a walk names an entry: where it stands in the row or the column
abbrev pub number_on : Line → Entry → ℕ
number_on (Row row) entry = entry.column
number_on (Column column) entry = entry.row

-- the numbers that a walk gives for the live ones of these entries
abbrev pub numbers : Layout → Line → List Entry → List ℕ
numbers grid line entries = map (number_on line) (filter (is_on line) (linked_among grid.unlinked entries))

-- the first place that is no head
abbrev pub first_place : Layout → ℕ
first_place grid = grid.rows + grid.columns

-- the numbers from a place on: none, where the walk is back at the head
abbrev pub rest_from : Layout → Line → ℕ → List ℕ
rest_from grid line place = if nat_lt place (first_place grid) then [] else numbers grid line (drop (place - first_place grid) grid.entries)

-- the numbers behind a place: all of them, where the walk is at the head
abbrev pub rest_behind : Layout → Line → ℕ → List ℕ
rest_behind grid line place = numbers grid line (drop (place + 1 - first_place grid) grid.entries)

-- the place is the head of the row or the column, or that of a live entry in it
pub record IsOnLine (grid : Layout) (line : Line) (place : ℕ) : Type 0 where
  pub has_line : HasLine grid line
  pub at_head : place < first_place grid → place ≡ head_of grid line
  pub within : place < first_place grid + length grid.entries
  pub live : first_place grid ≤ place → Stays grid.unlinked (entry_at grid.entries (place - first_place grid)).row
  pub on : first_place grid ≤ place → is_on line (entry_at grid.entries (place - first_place grid)) ≡ true
