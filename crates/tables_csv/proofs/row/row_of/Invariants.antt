use Rattle.std.proofs.Common.{◌≡◌, take, length}
use Rattle.csv.specs.Records.{fields_of}
use Rattle.tables_csv.specs.Values.{AreValues}
use Rattle.tables_csv.proofs.row.row_of.Given as goal

abbrev pub invariant-loop-field : goal.invariant-loop-field
invariant-loop-field l = record {
  whole : l.field-iterator.row.now ≡ l.fields;
  size : length l.values ≡ l.field-iterator.at;
  front : AreValues (take l.field-iterator.at l.columns) (take l.field-iterator.at (fields_of l.fields)) l.values;
}
