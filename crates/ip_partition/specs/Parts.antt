-- The parts of a grid: the classes of linked columns.
use Rattle.std.specs.Prelude.{◌↔◌, ℕ, ◌<◌, List, [], length, Contains, slice_index, slice_index_or}
use Rattle.std.specs.List.Sorted.{IsStrictlyIncreasing}
use Rattle.cross_links.specs.Layout.{Layout}
use Rattle.ip_partition.specs.declared.part.PartCols.{PartCols}
use Rattle.ip_partition.specs.Linked.{IsLive, IsLinked}

-- a part's least column
abbrev pub least_of : PartCols → ℕ
least_of part = slice_index part.columns 0

-- a part has exactly those of the columns that are linked with its least one, and exactly the live rows that have one of its
-- columns; both rise
pub record IsPart (grid : Layout) (columns : List ℕ) (part : PartCols) : Type 0 where
  pub some : 0 < length part.columns
  pub columns_rise : IsStrictlyIncreasing part.columns
  pub linked : (column : ℕ) → Contains part.columns column ↔ (Contains columns column × IsLinked grid (least_of part) column)
  pub rows_rise : IsStrictlyIncreasing part.rows
  pub rows : (row : ℕ) → Contains part.rows row ↔ ((column : ℕ) × Contains part.columns column × IsLive grid row column)

-- the part of a number
abbrev pub part_at : List PartCols → ℕ → PartCols
part_at parts number = slice_index_or parts number (record { columns = []; rows = [] })

-- parts, in order of their least columns, of which some one has any of the columns
pub record AreParts (grid : Layout) (columns : List ℕ) (parts : List PartCols) : Type 0 where
  pub each : (number : ℕ) → number < length parts → IsPart grid columns (part_at parts number)
  pub all : (column : ℕ) → Contains columns column → (number : ℕ) × (number < length parts) × Contains (part_at parts number).columns column
  pub ordered : (one other : ℕ) → one < other → other < length parts → least_of (part_at parts one) < least_of (part_at parts other)
