use Rattle.std.proofs.Common.{sym, subst}
use Rattle.ip_rows.specs.Sums.{IsBounded}
use Rattle.program_leaves.proofs.Rows.{aim_bounded}
use Rattle.program_leaves.proofs.part.part_value.Goals as goal

pub open_total-requires-clause-bounded : goal.open_total-requires-clause-bounded
open_total-requires-clause-bounded c = subst (IsBounded c.args.point.now) (sym c.as_slice.ensures) (aim_bounded c.args.program.now c.requires.formed c.requires.measured c.args.point.now c.requires.between)
