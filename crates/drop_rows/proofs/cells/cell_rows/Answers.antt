use Rattle.std.proofs.Common.{pos, false, arith}
use Rattle.std.specs.Prelude.{None}
use Rattle.tiql_query.specs.declared.world_column.WorldColumn.{WorldColumn}
use Rattle.drop_rows.proofs.Formed.{are_formed}
use Rattle.drop_rows.proofs.Pushed.{rows_next, rows_end}
use Rattle.drop_rows.proofs.Telling.{rows_tell}
use Rattle.drop_rows.proofs.cells.cell_rows.Goals as goal

none : WorldColumn
none = record { hypo = 0; row = 0; cell = None; droppable = false; lo = pos 0; hi = pos 0 }

pub loop-at-preserved : goal.loop-at-preserved
unfolding none
loop-at-preserved c = rows_next c.args.columns.now c.loop-at.at c.loop-at.presence _ _ none _ _ (omega arith) c.in_ok-push_rows.ensures c.presence_at-presence.ensures c.loop-at.invariant

pub returns : goal.returns
returns c =
    let rows = rows_end c.args.columns.now c.loop-at.at c.loop-at.presence _ _ (omega arith) c.loop-at.invariant in
    record { rows = rows; formed = are_formed c.args.columns.now _ rows; tells = rows_tell c.args.columns.now _ rows }
