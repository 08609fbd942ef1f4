use Rattle.tables_csv.proofs.Outcomes.{table-widths}
use Rattle.table_tests.proofs.tables.writes.Goals as goal

pub table_text-requires : goal.table_text-requires
table_text-requires g c = table-widths _ _ _ c.in_ok-rows.ensures.table
