use Rattle.tables_csv.proofs.Outcomes.{table-rows}
use Rattle.tiql_query.proofs.Rows.{tables-few}
use Rattle.walk_tests.proofs.Tables.{one_table}
use Rattle.walk_tests.proofs.rows.tables_of.Goals as goal

pub returns-clause-rows : goal.returns-clause-rows
returns-clause-rows c =
    one_table c.args.query.now.tables c.as_slice.result.now c.table-item.result c.in_ok-read_table.field-0 c.new-tables.result c.push.new.self c.as_slice.ensures c.in-len1.len_at_least c.in-len1.len_below c.table-item.is
    (table-rows _ _ _ c.in_ok-read_table.ensures.table) c.new-tables.ensures c.in_ok-push.ensures.ok

pub returns-clause-few : goal.returns-clause-few
returns-clause-few c =
    tables-few c.args.query.now _
    (one_table c.args.query.now.tables c.as_slice.result.now c.table-item.result c.in_ok-read_table.field-0 c.new-tables.result c.push.new.self c.as_slice.ensures c.in-len1.len_at_least c.in-len1.len_below c.table-item.is
    (table-rows _ _ _ c.in_ok-read_table.ensures.table) c.new-tables.ensures c.in_ok-push.ensures.ok)
