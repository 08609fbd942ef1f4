-- the possible rows of a hypothetical table in possible worlds
use Rattle.std.specs.Prelude.{◌≡◌, ℕ, ℤ, List, map}
use Rattle.tiql_query.specs.declared.query.Query.{Query}
use Rattle.tiql_query.specs.declared.world_column.WorldColumn.{WorldColumn}
use Rattle.world_def.specs.declared.world.World.{World}
use Rattle.world_def.specs.Columns.{Tables, rows_of}
use Rattle.world_def.specs.Meaning.{IsPossible}
use Rattle.world_def.specs.Meaning as meaning
use Rattle.sym_rows.specs.declared.row.SymRow.{SymRow}
use Rattle.sym_rows.specs.Cells.{rows_in}

-- on each possible world those that are there are the rows of the hypothetical table
abbrev pub AreOfWorlds : Query → Tables → List WorldColumn → ℕ → List SymRow → List ℤ → (ℕ → ℤ) → Type 0
AreOfWorlds query tables columns hypo made numbers v =
    (world : World) → IsPossible query tables world → numbers ≡ meaning.numbers columns world → rows_in v made ≡ rows_of (map (λ table. table.rows) world.tables) hypo
