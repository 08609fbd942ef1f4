-- what the numbers and truths that are made mean: the plain value of the expression or condition on the combination of the rows
use Rattle.std.specs.Prelude.{◌≡◌, ℕ, ℤ, Bool, true, false, List, map, Some}
use Rattle.std.specs.List.{AllZip}
use Rattle.base_kit.specs.declared.value.Value.{Value}
use Rattle.base_kit.specs.declared.value.Value.TheVariants as values
use Rattle.tiql_query.specs.Kinds.{Scope, Kind, kind, is_fit}
use Rattle.tiql_query.specs.declared.relation.Column.{Column}
use Rattle.tiql_query.specs.declared.expression.Expr.{Expr}
use Rattle.tiql_query.specs.declared.condition.Cond.{Cond}
use Rattle.row_values.specs.Values.{Combination, number, value, truth}
use Rattle.prov_fold.specs.Values.{holds}
use Rattle.sym_rows.specs.declared.row.Cell.{Cell}
use Rattle.sym_rows.specs.declared.row.Cell.TheVariants as cells
use Rattle.sym_rows.specs.declared.row.SymRow.{SymRow}
use Rattle.sym_rows.specs.Cells.{row_in}

-- whether a value is a text
abbrev pub is_text : Value → Bool
is_text (values.Int n) = false
is_text (values.Text t) = true

-- a cell fits its column: the place of a number where the column is unknown, else a value of the column's kind
abbrev pub IsCellFit : Column → Cell → Type 0
IsCellFit column (cells.Fixed value) = (column.unknown ≡ false) × (column.text ≡ is_text value)
IsCellFit column (cells.Number id) = (column.unknown ≡ true) × (column.text ≡ false)

-- a possible row has a cell for each column, and each fits
abbrev pub IsRowFit : List Column → SymRow → Type 0
IsRowFit columns row = AllZip IsCellFit columns row.cells

-- a possible row of each source, and each fits
abbrev pub AreRowsFit : Scope → List SymRow → Type 0
AreRowsFit scope rows = AllZip IsRowFit scope rows

-- what the rows are, where the formulas have these values
abbrev pub combination_in : (ℕ → ℤ) → List SymRow → Combination
combination_in v rows = map (row_in v) rows

-- an expression has a kind: it reckons with numbers alone, and of a product at most one factor has an unknown column
abbrev pub HasKind : Scope → Expr → Type 0
HasKind scope part = (it : Kind) × (kind scope part ≡ Some it)

-- the number is what the expression is on the combination
abbrev pub IsNumberOf : Scope → List SymRow → Expr → ℕ → List ℤ → (ℕ → ℤ) → Type 0
IsNumberOf scope rows part id numbers v = AreRowsFit scope rows → HasKind scope part → v id ≡ number (value (combination_in v rows) part)

-- the truth holds exactly where the condition does on the combination
abbrev pub IsTruthOf : Scope → List SymRow → Cond → ℕ → List ℤ → (ℕ → ℤ) → Type 0
IsTruthOf scope rows test id numbers v = AreRowsFit scope rows → is_fit scope test ≡ true → holds v id ≡ truth (combination_in v rows) test
