use Rattle.std.proofs.Common.{◌≡◌, take}
use Rattle.csv.specs.Records.{fields_of}
use Rattle.tables_csv.specs.WholeTables.{names_of}
use Rattle.tables_csv.proofs.table.is_header.Given as goal

abbrev pub invariant-loop-at : goal.invariant-loop-at
invariant-loop-at l = take l.at (fields_of l.header) ≡ take l.at (names_of l.columns)
