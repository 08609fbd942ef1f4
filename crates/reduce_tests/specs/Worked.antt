-- A worked program, and tests that it is measured.
use Rattle.std.specs.Prelude.{ℕ, ℤ, pos, negsuc, List, [], ◌∷◌}
use Rattle.ip_rows.specs.declared.Bounds.{Bounds}
use Rattle.ip_rows.specs.declared.rows.Coef.{Coef}
use Rattle.ip_rows.specs.declared.rows.IpRow.{IpRow}
use Rattle.ip_rows.specs.declared.program.ColumnKind.TheVariants.{World}
use Rattle.ip_rows.specs.declared.program.IpColumn.{IpColumn}
use Rattle.ip_rows.specs.declared.program.Program.{Program}

-- a factor of a column
abbrev pub term : ℤ → ℕ → Coef
term factor column = record { factor = factor; column = column }

-- a row of terms
abbrev pub row : List Coef → ℤ → IpRow
row terms least = record { terms = terms; least = least }

-- a column with these sides
abbrev pub column : ℤ → ℤ → IpColumn
column lo hi = record { kind = World; sides = record { lo = lo; hi = hi } }

-- seven columns, of which two are fixed and one is in no row, and eight rows
abbrev pub worked : Program
worked = record {
  columns = column (pos 0) (pos 5) ∷ column (pos 3) (pos 3) ∷ column (pos 0) (pos 1) ∷ column (pos 0) (pos 10) ∷ column (pos 2) (pos 2) ∷ column (pos 0) (pos 4) ∷ column (pos 0) (pos 1) ∷ [];
  rows =
      row (term (pos 2) 0 ∷ term (pos 1) 1 ∷ []) (pos 6)
      ∷ row (term (pos 1) 1 ∷ term (pos 1) 4 ∷ []) (pos 6)
      ∷ row (term (pos 1) 2 ∷ term (pos 1) 3 ∷ term (negsuc 0) 4 ∷ []) (pos 0)
      ∷ row (term (pos 2) 0 ∷ []) (pos 3)
      ∷ row (term (pos 1) 0 ∷ term (pos 1) 1 ∷ []) (pos 3)
      ∷ row (term (pos 1) 4 ∷ []) (pos 2)
      ∷ row (term (pos 1) 1 ∷ []) (pos 4)
      ∷ row (term (pos 1) 3 ∷ term (pos 1) 6 ∷ []) (pos 1)
      ∷ [];
  aim = [];
  constant = pos 0;
}
