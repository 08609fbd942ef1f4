-- How columns and rows come to their parts.
use Rattle.std.specs.Prelude.{◌≡◌, ℕ, ◌+◌, ◌<◌, ◌==◌, List, [], ◌++◌, length, filter}
use Rattle.std.specs.List.{range_with_len}
use Rattle.ip_partition.specs.declared.part.PartCols.{PartCols}
use Rattle.ip_partition.specs.Parts.{part_at}

-- a part without columns and rows
abbrev pub no_part : PartCols
no_part = record { columns = []; rows = [] }

-- each part has more columns: those of its label, in their order
pub record ColumnsAdded (label : ℕ → ℕ) (columns : List ℕ) (before after : List PartCols) : Type 0 where
  pub size : length after ≡ length before
  pub each : (k : ℕ) → k < length before → part_at after k ≡ record (part_at before k) { columns = (part_at before k).columns ++ filter (λ column. label column == k + 1) columns }

-- each part has more rows: those below an end of its label, in their order
pub record RowsAdded (label : ℕ → ℕ) (end : ℕ) (before after : List PartCols) : Type 0 where
  pub size : length after ≡ length before
  pub each : (k : ℕ) → k < length before → part_at after k ≡ record (part_at before k) { rows = (part_at before k).rows ++ filter (λ row. label row == k + 1) (range_with_len 0 end) }
