-- the text of an evaluation: its lines, and the tables of views
use Rattle.std.specs.Prelude.{ℕ, ℤ, List, ◌++◌, length, codes, decimal, Option, Some, None}
use Rattle.std.specs.Fmt.{signed_decimal}
use Rattle.tiql_query.specs.declared.view.QView.{QView}
use Rattle.tables_csv.specs.WholeTexts.{records_text}
use Rattle.world_def.specs.declared.judge.Broken.{Broken}
use Rattle.world_def.specs.Columns.{Rows}

-- the world is not possible, and this name is the first that is not right
unfoldable pub possible_line : List ℕ → List ℕ
possible_line name = codes "possible no " ++ name ++ codes "\n"

-- a view: a line with its name, its number of rows and its table's number of bytes, and then these bytes
unfoldable pub view_bytes : List ℕ → ℕ → List ℕ → List ℕ
view_bytes name rows bytes = codes "view " ++ name ++ codes " " ++ decimal rows ++ codes " " ++ decimal (length bytes) ++ codes "\n" ++ bytes

-- a view that has these rows
unfoldable pub view_text : QView → Rows → List ℕ
view_text view rows = view_bytes view.name (length rows) (records_text view.columns rows)

-- a broken requirement, and the row at which it is broken
unfoldable pub broken_line : Broken → List ℕ
broken_line broken = codes "meets no " ++ decimal broken.requirement ++ codes " " ++ decimal broken.row ++ codes "\n"

-- the first broken requirement, if there is one
unfoldable pub meets_line : Option Broken → List ℕ
meets_line None = codes "meets yes\n"
meets_line (Some broken) = broken_line broken

-- the score
unfoldable pub score_line : ℤ → List ℕ
score_line score = codes "score " ++ signed_decimal score ++ codes "\n"
