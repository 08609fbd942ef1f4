-- What world columns are like whose numbers tell the worlds of a query apart.
use Rattle.std.specs.Prelude.{◌≡◌, ◌≤◌, ◌^◌, pos, unsigned_abs, ◌≤ℤ◌, is_none, Bool, true, false, if◌then◌else◌, List, [], ◌∷◌, length, All}
use Rattle.ip_rows.specs.declared.rows.IpRow.{IpRow}
use Rattle.ip_rows.specs.Rows.{AreTerms}
use Rattle.tiql_query.specs.declared.world_column.WorldColumn.{WorldColumn}
use Rattle.drop_rows.specs.Cells.{cell_rows, may_drop}

-- the bounds are at most 10^15 in size and hold a number; those of a presence lie within 0 .. 1
pub record IsRanged (column : WorldColumn) : Type 0 where
  pub small_lo : unsigned_abs column.lo ≤ 10 ^ 15
  pub small_hi : unsigned_abs column.hi ≤ 10 ^ 15
  pub order : column.lo ≤ℤ column.hi
  pub above : is_none column.cell ≡ true → pos 0 ≤ℤ column.lo
  pub below : is_none column.cell ≡ true → column.hi ≤ℤ pos 1

-- each cell that may be dropped has a presence before it; `some` is whether there was one
abbrev pub HavePresences : Bool → List WorldColumn → Type 0
HavePresences some [] = Unit {0}
HavePresences some (column ∷ columns) = (may_drop column ≡ true → some ≡ true) × HavePresences (if is_none column.cell then true else some) columns

-- so that the terms of its rows rise
pub record AreLed (columns : List WorldColumn) : Type 0 where
  pub presences : HavePresences false columns
  pub formed : All (λ (row : IpRow). AreTerms (length columns) row.terms) (cell_rows columns)
