-- the rows that tables may have
use Rattle.std.specs.Prelude.{◌≡◌, ◌≤◌, ◌^◌, true, false, List, length, unsigned_abs, IsUtf8, All}
use Rattle.std.specs.List.{AllZip}
use Rattle.base_kit.specs.declared.value.Value.{Value}
use Rattle.base_kit.specs.declared.value.Value.TheVariants.{Int, Text}
use Rattle.tiql_query.specs.declared.query.Query.{Query}
use Rattle.tiql_query.specs.declared.relation.Column.{Column}
use Rattle.tiql_query.specs.declared.relation.QTable.{QTable}
use Rattle.tiql_query.specs.Keys.{HaveDistinctKeys}

-- the column may hold the value
abbrev pub IsOfColumn : Column → Value → Type 0
IsOfColumn column (Int number) = (column.text ≡ false) × (unsigned_abs number ≤ 10 ^ 15)
IsOfColumn column (Text text) = (column.text ≡ true) × IsUtf8 text × (length text ≤ 1000)

-- the table may have these rows
pub record AreRowsOf (table : QTable) (rows : List (List Value)) : Type 0 where
  pub each : All (λ row. AllZip IsOfColumn table.columns row) rows
  pub few : length rows ≤ 200000
  pub keys : HaveDistinctKeys table.key rows

-- there are rows for each table of the query, and the table may have them
abbrev pub AreTables : Query → List (List (List Value)) → Type 0
AreTables query tables = AllZip AreRowsOf query.tables tables
