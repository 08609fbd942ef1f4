-- how a table is written
use Rattle.std.specs.Prelude.{◌++◌, ℕ, List, map}
use Rattle.std.specs.Fmt.{signed_decimal}
use Rattle.std.specs.List.{flat_map}
use Rattle.csv.specs.Writing.{default_writer, row_text}
use Rattle.base_kit.specs.declared.value.Value.{Value}
use Rattle.base_kit.specs.declared.value.Value.TheVariants.{Int, Text}
use Rattle.tiql_query.specs.declared.relation.Column.{Column}
use Rattle.tables_csv.specs.WholeTables.{names_of}

-- a number as its decimal digits, after a minus where it is below 0; a text as it stands
abbrev pub value_text : Value → List ℕ
value_text (Int number) = signed_decimal number
value_text (Text text) = text

-- what `csv` writes of the names and then of each row
unfoldable pub records_text : List Column → List (List Value) → List ℕ
records_text columns rows = row_text default_writer (names_of columns) ++ flat_map (row_text default_writer) (map (map value_text) rows)
