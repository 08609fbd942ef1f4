use Rattle.std.proofs.Common.{arith}
use Rattle.program_leaves.proofs.Rows.{row_formed, row_bounded}
use Rattle.program_leaves.proofs.row.fails_at.Goals as goal

pub fails_fixed-requires-clause-formed : goal.fails_fixed-requires-clause-formed
fails_fixed-requires-clause-formed c =
    row_formed c.args.program.now c.requires.formed c.as_slice-rows.result.now c.as_slice-rows.ensures c.args.row (omega (arith, c.if-place-rows.true)) c.index-rows-place.result c.index-rows-place.is

pub fails_fixed-requires-clause-bounded : goal.fails_fixed-requires-clause-bounded
fails_fixed-requires-clause-bounded c =
    row_bounded c.args.program.now c.requires.formed c.as_slice-rows.result.now c.as_slice-rows.ensures c.args.row (omega (arith, c.if-place-rows.true)) c.index-rows-place.result c.index-rows-place.is c.requires.measured
