-- Entries by their places in a grid.
use Rattle.std.specs.Prelude.{◌≡◌, ◌⊎◌, ℕ, ◌<◌, ◌==◌, List, length, map, filter}
use Rattle.std.specs.List.{AllAdjacentBelow}
use Rattle.cross_links.specs.declared.entry.Entry.{Entry}

-- a is in an earlier row than b, or further left in the same row
abbrev pub IsBefore : Entry → Entry → Type 0
IsBefore a b = (a.row < b.row) ⊎ ((a.row ≡ b.row) × (a.column < b.column))

-- each entry is before the next, so that no two have one place
abbrev pub AreRising : List Entry → Type 0
AreRising entries = AllAdjacentBelow IsBefore entries (length entries)

-- the columns of the entries of a row
abbrev pub columns_in : List Entry → ℕ → List ℕ
columns_in entries row = map (λ e. e.column) (filter (λ e. e.row == row) entries)

-- the rows of the entries of a column
abbrev pub rows_in : List Entry → ℕ → List ℕ
rows_in entries column = map (λ e. e.row) (filter (λ e. e.column == column) entries)
