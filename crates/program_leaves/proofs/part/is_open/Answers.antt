use Rattle.std.proofs.Common.{◌∙◌}
use Rattle.program_leaves.proofs.Rows.{open_column}
use Rattle.program_leaves.proofs.part.is_open.Goals as goal

pub returns : goal.returns
returns c = c.has_two.ensures ∙ open_column c.args.program.now c.as_slice.result.now c.args.column c.as_slice.ensures c.requires
