use Rattle.std.proofs.Common.{map, take, ◌++◌}
use Rattle.std.specs.List.{flat_map}
use Rattle.csv.specs.Writing.{default_writer, row_text}
use Rattle.tables_csv.specs.WholeTables.{names_of}
use Rattle.tables_csv.specs.WholeTexts.{value_text}
use Rattle.tables_csv.specs.Writers.{HasWritten}
use Rattle.tables_csv.proofs.write.table_text.Given as goal

abbrev pub invariant-loop-row : goal.invariant-loop-row
invariant-loop-row l =
    HasWritten l.writer (row_text default_writer (names_of l.fn.columns) ++ flat_map (row_text default_writer) (map (map value_text) (take l.row-index l.rows)))
