use Rattle.std.proofs.Common.{sym, ◌∙◌, arith}
use Rattle.world_def.proofs.Walks.{column_step, column_here, column_end}
use Rattle.world_def.proofs.worlds.column_at.Goals as goal

pub returns-then-is_cell : goal.returns-then-is_cell
returns-then-is_cell c = column_here c.args.columns.now c.args.place c.loop-column.column-index _ _ (omega arith) (sym c.is_cell.ensures ∙ c.if-is_cell.true) c.loop-column.invariant

pub loop-column-preserved : goal.loop-column-preserved
loop-column-preserved c = column_step c.args.columns.now c.args.place c.loop-column.column-index _ _ (omega arith) (sym c.is_cell.ensures ∙ c.if-is_cell.false) c.loop-column.invariant

pub returns : goal.returns
returns c = column_end c.args.columns.now c.args.place c.loop-column.column-index _ (omega arith) c.loop-column.invariant
