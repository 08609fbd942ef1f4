use Rattle.std.proofs.Common.{◌-◌, length}
use Rattle.tables_csv.proofs.TableRows.{RowsPassed}
use Rattle.tables_csv.specs.Chains.{AreKeysOf}
use Rattle.tables_csv.specs.Records.{IsOpen}
use Rattle.tables_csv.proofs.table.rows_left.Given as goal

abbrev pub invariant-loop-fields : goal.invariant-loop-fields
invariant-loop-fields l = record {
  opened : IsOpen l.reader;
  passed : RowsPassed l.table l.fn.reader l.reader l.rows;
  keys : AreKeysOf l.table.key l.rows l.keys;
}

abbrev pub decreases-loop-fields : goal.decreases-loop-fields
decreases-loop-fields l = 200001 - length l.rows
