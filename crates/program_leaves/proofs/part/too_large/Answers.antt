use Rattle.std.proofs.Common.{arith}
use Rattle.program_leaves.proofs.Rows.{part_few}
use Rattle.program_leaves.proofs.part.too_large.Goals as goal

pub overflow_cast-result : goal.overflow_cast-result
overflow_cast-result c = let few = part_few c.args.program.now c.requires.measured c.args.columns.now c.requires.shown in omega (arith, few)
