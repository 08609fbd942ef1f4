use Rattle.std.proofs.Common.{false, get_or, length}
use Rattle.dict_pivot.proofs.StartRows.{row_up, row_down}
use Rattle.dict_pivot.proofs.begin.first_row.Goals as goal
use Rattle.dict_pivot.proofs.begin.first_row.Goals.{then-up-j, else-up-j}

pub returns : goal.returns
returns c = elim c.if-up-j.branch [
  | then-up-j w ↦ row_up (length c.args.up.now) c.args.j c.if-up-j.below (get_or c.args.up.now c.args.j false) w.below-is w.if-up-j.true
  | else-up-j w ↦ row_down (length c.args.up.now) c.args.j c.if-up-j.below (get_or c.args.up.now c.args.j false) w.below-is w.if-up-j.false
]
