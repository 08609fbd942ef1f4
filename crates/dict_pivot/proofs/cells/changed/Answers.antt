use Rattle.std.proofs.Common.{arith}
use Rattle.dict_pivot.proofs.RowLemmas.{number_is, new_at_here, new_at_there}
use Rattle.dict_pivot.proofs.cells.changed.Goals as goal

pub returns-then-j-column : goal.returns-then-j-column
returns-then-j-column c = new_at_here c.args.row.now c.args.shares.now c.args.column c.args.j _ _ _ c.if-j-column.true (number_is _ _ _ c.requires.column c.index-row-column.is) (number_is c.args.shares.now c.args.j _ (omega (arith, c.requires.same, c.requires.j)) c.index-shares-j.is) c.mul.ensures.gives

pub returns-else-j-column : goal.returns-else-j-column
returns-else-j-column c = new_at_there c.args.row.now c.args.shares.now c.args.column c.args.j _ _ _ _ c.if-j-column.false (number_is _ _ _ c.requires.j c.index-row-j.is) (number_is _ _ _ c.requires.column c.index-row-column-else-j-column.is) (number_is c.args.shares.now c.args.j _ (omega (arith, c.requires.same, c.requires.j)) c.index-shares-j-else-j-column.is) c.moved.ensures
