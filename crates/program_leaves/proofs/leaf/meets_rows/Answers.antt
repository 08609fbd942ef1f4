use Rattle.program_leaves.proofs.Meets.{meets_by}
use Rattle.program_leaves.proofs.leaf.meets_rows.Goals as goal

pub returns : goal.returns
returns c = meets_by c.args.program.now c.args.point.now c.meets.result c.is_none.result c.is_none.ensures c.meets.ensures
