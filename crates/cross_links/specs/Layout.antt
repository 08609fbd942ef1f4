-- What a grid holds, and which of it is live.
use Rattle.std.specs.Prelude.{ℕ, ◌==◌, not, List, map, filter}
use Rattle.std.specs.List.{list_any}
use Rattle.cross_links.specs.declared.entry.Entry.{Entry}
use Rattle.cross_links.specs.Entries.{columns_in, rows_in}

-- a grid of so many rows and columns with all its entries, by row and column, and the rows that are
-- unlinked, of which the last comes first
pub record Layout : Type 0 where
  pub rows : ℕ
  pub columns : ℕ
  pub entries : List Entry
  pub unlinked : List ℕ

-- those of the entries whose row is none of the unlinked ones
abbrev pub linked_among : List ℕ → List Entry → List Entry
linked_among unlinked entries = filter (λ e. not (list_any (λ row. row == e.row) unlinked)) entries

-- the live entries
abbrev pub live : Layout → List Entry
live grid = linked_among grid.unlinked grid.entries

-- the live columns of a row
abbrev pub live_columns : Layout → ℕ → List ℕ
live_columns grid row = columns_in (live grid) row

-- the live rows of a column
abbrev pub live_rows : Layout → ℕ → List ℕ
live_rows grid column = rows_in (live grid) column

-- the unlinked rows, the last first, each with the columns of the entries that left with it
abbrev pub stack : Layout → List (ℕ × List ℕ)
stack grid = map (λ row. (row, columns_in grid.entries row)) grid.unlinked
