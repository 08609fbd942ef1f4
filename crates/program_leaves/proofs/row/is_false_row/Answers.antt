use Rattle.program_leaves.proofs.FalseRows.{false_by}
use Rattle.program_leaves.proofs.row.is_false_row.Goals as goal

pub returns-clause-false_row : goal.returns-clause-false_row
returns-clause-false_row c = false_by c.args.program.now c.args.row c.fails_at.result c.fails_at.ensures
