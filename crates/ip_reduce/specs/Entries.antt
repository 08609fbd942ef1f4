-- The entries of the rows of a program at unfixed columns.
use Rattle.std.specs.Prelude.{ℕ, List, length, flat_map, sum_by, All}
use Rattle.std.specs.List.{range_with_len}
use Rattle.cross_links.specs.declared.entry.Entry.{Entry}
use Rattle.ip_rows.specs.declared.Bounds.{Bounds}
use Rattle.ip_rows.specs.declared.rows.IpRow.{IpRow}
use Rattle.ip_rows.specs.Rows.{AreTerms}
use Rattle.ip_reduce.specs.Rows.{IsLight}
use Rattle.ip_reduce.specs.Reductions.{entries_of}

-- the entries of the first rows
abbrev pub entries_in : List Bounds → List IpRow → ℕ → List Entry
entries_in sides rows count = flat_map (entries_of sides rows) (range_with_len 0 count)

-- how many terms rows have
abbrev pub count_of : List IpRow → ℕ
count_of rows = sum_by (λ (row : IpRow). length row.terms) rows

-- the terms of each row rise and name columns that are there, and weigh little
pub record AreEntered (sides : List Bounds) (rows : List IpRow) : Type 0 where
  pub formed : All (λ (row : IpRow). AreTerms (length sides) row.terms) rows
  pub light : All (λ (row : IpRow). IsLight sides row.terms) rows
