use Rattle.dual_simplex.proofs.Reach.{first_columns_more}
use Rattle.dual_simplex.proofs.closing.columns_of.Goals as goal

pub loop-column-preserved : goal.loop-column-preserved
loop-column-preserved c = first_columns_more c.loop-column.made.items _ c.loop-column.column c.loop-column.invariant c.in_ok-push.ensures.items
