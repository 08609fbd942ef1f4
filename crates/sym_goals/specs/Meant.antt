-- what the truths of a requirement and the number of the objective mean: the plain meaning, on the rows that are there
use Rattle.std.specs.Prelude.{◌≡◌, ℕ, ℤ, true, List, [], ◌∷◌, map, All}
use Rattle.std.specs.List.{list_all}
use Rattle.tiql_query.specs.Kinds.{is_fit}
use Rattle.tiql_query.specs.declared.relation.Column.{Column}
use Rattle.tiql_query.specs.declared.expression.Expr.{Expr}
use Rattle.tiql_query.specs.declared.aim.Require.{Require}
use Rattle.tiql_query.specs.declared.aim.Require.TheVariants as needs
use Rattle.row_values.specs.Values.{number, total, value}
use Rattle.world_def.specs.Meaning.{is_met}
use Rattle.prov_fold.specs.Values.{holds}
use Rattle.sym_rows.specs.declared.row.SymRow.{SymRow}
use Rattle.sym_rows.specs.Cells.{rows_in}
use Rattle.sym_values.specs.Meanings.{IsRowFit, HasKind}

-- the condition of a requirement compares what is alike
abbrev pub IsNeedFit : List Column → Require → Type 0
IsNeedFit columns (needs.All source test) = is_fit (columns ∷ []) test ≡ true
IsNeedFit columns (needs.Some source test) = is_fit (columns ∷ []) test ≡ true
IsNeedFit columns (needs.None source) = Unit {0}

-- all the truths hold exactly where the rows that are there meet the requirement
abbrev pub AreRootsOf : List Column → Require → List SymRow → List ℕ → List ℤ → (ℕ → ℤ) → Type 0
AreRootsOf columns need rows made numbers v = All (IsRowFit columns) rows → IsNeedFit columns need → list_all (holds v) made ≡ is_met need (rows_in v rows)

-- the number is the sum of the expression over the rows that are there
abbrev pub IsAimOf : List Column → Expr → List SymRow → ℕ → List ℤ → (ℕ → ℤ) → Type 0
IsAimOf columns part rows id numbers v = All (IsRowFit columns) rows → HasKind (columns ∷ []) part → v id ≡ total (map (λ row. number (value (row ∷ []) part)) (rows_in v rows))
