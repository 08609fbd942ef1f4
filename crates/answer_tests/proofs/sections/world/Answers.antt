-- The table may have the rows that were read for it.
use Rattle.tables_csv.proofs.Outcomes.{table-rows}
use Rattle.answer_tests.proofs.sections.world.Goals as goal

pub world_of-requires-clause-tables : goal.world_of-requires-clause-tables
world_of-requires-clause-tables c =
    rw (c.in_ok-one.ensures, c.in_ok-tables.ensures) (table-rows _ _ _ c.in_ok-items.ensures.table, tt)
