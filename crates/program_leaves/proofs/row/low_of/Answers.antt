use Rattle.std.proofs.Common.{◌∙◌, to_z-of_z, w64}
use Rattle.program_leaves.proofs.Rows.{low_column}
use Rattle.program_leaves.proofs.row.low_of.Goals as goal

pub returns : goal.returns
returns c = to_z-of_z {w = w64} (record { sfits = c.lower.type_inv }) ∙ c.lower.ensures ∙ low_column c.args.program.now c.as_slice.result.now c.args.column c.as_slice.ensures c.requires
