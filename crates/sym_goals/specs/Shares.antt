-- what a single row brings to the objective, which private contracts cite
use Rattle.std.specs.Prelude.{◌≡◌, ℕ, ℤ, pos, if◌then◌else◌, List, [], ◌∷◌, map, All, Result}
use Rattle.std.specs.Global.{Vec}
use Rattle.tiql_query.specs.declared.relation.Column.{Column}
use Rattle.tiql_query.specs.declared.expression.Expr.{Expr}
use Rattle.row_values.specs.Values.{number, value}
use Rattle.prov_fold.specs.Graphs.{Graph}
use Rattle.prov_fold.specs.declared.span.Scaled.{Scaled}
use Rattle.sym_rows.specs.declared.fault.WalkFault.{WalkFault}
use Rattle.sym_rows.specs.declared.row.SymRow.{SymRow}
use Rattle.sym_rows.specs.Cells.{row_in, is_there}
use Rattle.sym_rows.specs.Walks.{Makes}
use Rattle.sym_values.specs.Meanings.{IsRowFit, HasKind}
use Rattle.sym_values.specs.Steps.{IsPart, scaled_in, items_of}
use Rattle.sym_goals.specs.Goals.{shares_of}

-- what a row brings, where it is there
abbrev pub share_in : (ℕ → ℤ) → Expr → SymRow → ℤ
share_in v part row = if is_there v row then number (value (row_in v row ∷ []) part) else pos 0

-- the part of the sum is what the row brings
abbrev pub IsShareOf : List Column → Expr → SymRow → Scaled → List ℤ → (ℕ → ℤ) → Type 0
IsShareOf columns part row made numbers v = IsRowFit columns row → HasKind (columns ∷ []) part → scaled_in v made ≡ share_in v part row

-- likewise of all rows
abbrev pub AreSharesOf : List Column → Expr → List SymRow → List Scaled → List ℤ → (ℕ → ℤ) → Type 0
AreSharesOf columns part rows made numbers v = All (IsRowFit columns) rows → HasKind (columns ∷ []) part → map (scaled_in v) made ≡ map (share_in v part) rows

-- the parts of the sum are made in turn
abbrev pub MakesShares : List Column → Expr → List SymRow → Graph → Result (Vec Scaled) WalkFault → Graph → Type 0
MakesShares columns part rows before result after = Makes (shares_of columns part rows before) (λ g made. All (IsPart g) made) (AreSharesOf columns part rows) before (items_of result) after
