use Rattle.std.proofs.Common.{◌≡◌, take, [], IsTrue}
use Rattle.std.specs.List.{All}
use Rattle.base_kit.specs.Names.{is_name}
use Rattle.csv.specs.Records.{fields_of, partial_of}
use Rattle.tables_csv.specs.WholeTables.{names_of}
use Rattle.tables_csv.proofs.write.column_fields.Given as goal

abbrev pub invariant-loop-column : goal.invariant-loop-column
invariant-loop-column l = record {
  front : fields_of l.fields ≡ take l.column-index (names_of l.columns);
  partial : partial_of l.fields ≡ [];
  names : All (λ name. IsTrue (is_name name)) (take l.column-index (names_of l.columns));
}
