-- What reduction leaves of a program.
use Rattle.std.specs.Prelude.{◌≡◌, ◌≢◌, ◌↔◌, ℕ, ℤ, ◌<◌, ◌<ℤ◌, pos, Option, None, MatchOption, not, List, [], length, map, filter, flat_map, All, Contains}
use Rattle.std.specs.List.{range_with_len}
use Rattle.std.specs.List.Sorted.{IsStrictlyIncreasing}
use Rattle.cross_links.specs.declared.entry.Entry.{Entry}
use Rattle.cross_links.specs.Layout.{live}
use Rattle.ip_rows.specs.declared.Bounds.{Bounds}
use Rattle.ip_rows.specs.declared.rows.Coef.{Coef}
use Rattle.ip_rows.specs.declared.rows.IpRow.{IpRow}
use Rattle.ip_rows.specs.declared.program.Program.{Program}
use Rattle.ip_rows.specs.Programs.{sides_of, is_fixed, row_at, IsBetween, Holds}
use Rattle.ip_reduce.specs.declared.outcome.Reduced.{Reduced}
use Rattle.ip_reduce.specs.Rows.{put_in, least_sum}

-- the row of a number, with the fixed columns put in
abbrev pub row_in : List Bounds → List IpRow → ℕ → IpRow
row_in sides rows number = put_in sides (row_at rows number)

-- a row asks for something where it fails at some point within the sides
abbrev pub Asks : List Bounds → IpRow → Type 0
Asks sides row = least_sum sides row.terms <ℤ row.least

-- the row has no column left, and fails
pub record IsFalse (sides : List Bounds) (rows : List IpRow) (number : ℕ) : Type 0 where
  pub there : number < length rows
  pub none : (row_in sides rows number).terms ≡ []
  pub fails : pos 0 <ℤ (row_in sides rows number).least

-- the row asks for something, has a column left, and no earlier row equals it
pub record IsKept (sides : List Bounds) (rows : List IpRow) (number : ℕ) : Type 0 where
  pub there : number < length rows
  pub some : (row_in sides rows number).terms ≢ []
  pub asks : Asks sides (row_in sides rows number)
  pub first : (earlier : ℕ) → earlier < number → row_in sides rows earlier ≢ row_in sides rows number

-- the entries of a row's terms
abbrev pub entries_at : ℕ → List Coef → List Entry
entries_at number terms = map (λ (term : Coef). record { row = number; column = term.column }) terms

-- the entries of a row at columns that are not fixed
abbrev pub entries_of : List Bounds → List IpRow → ℕ → List Entry
entries_of sides rows number = entries_at number (row_in sides rows number).terms

-- the first false row, or that there is none
abbrev pub IsFirstFalse : List Bounds → List IpRow → Option ℕ → Type 0
IsFirstFalse sides rows found = MatchOption found ((number : ℕ) → ¬ IsFalse sides rows number) (λ first. IsFalse sides rows first × ((earlier : ℕ) → earlier < first → ¬ IsFalse sides rows earlier))

-- the unfixed columns, the kept rows with their numbers, the first false row, and the grid of the kept rows
pub record IsReduced (program : Program) (reduced : Reduced) : Type 0 where
  pub columns : reduced.columns ≡ filter (λ column. not (is_fixed (sides_of program.columns) column)) (range_with_len 0 (length program.columns))
  pub full_rises : IsStrictlyIncreasing reduced.full
  pub full : (number : ℕ) → Contains reduced.full number ↔ IsKept (sides_of program.columns) program.rows number
  pub rows : reduced.rows ≡ map (row_in (sides_of program.columns) program.rows) reduced.full
  pub false_row : IsFirstFalse (sides_of program.columns) program.rows reduced.false_row
  pub grid_rows : reduced.grid.rows ≡ length program.rows
  pub grid_columns : reduced.grid.columns ≡ length program.columns
  pub grid : live reduced.grid ≡ flat_map (entries_of (sides_of program.columns) program.rows) reduced.full

-- the points within the sides that meet all rows are those that meet the kept ones, where no row is false
abbrev pub KeepsPoints : Program → Reduced → Type 0
KeepsPoints program reduced = (point : List ℤ) → IsBetween (sides_of program.columns) point
    → All (Holds point) program.rows ↔ (All (Holds point) reduced.rows × (reduced.false_row ≡ None))
