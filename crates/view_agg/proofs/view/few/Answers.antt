use Rattle.std.proofs.Common.{arith}
use Rattle.view_agg.proofs.Arms.{few_done}
use Rattle.view_agg.proofs.view.few.Goals as goal

pub returns : goal.returns
returns c = few_done c.args.rows c.args.fold.now (omega (arith, c.if-len-gt-MOST_ROWS.false, c.len.ensures))
