use Rattle.std.proofs.Common.{sym, subst}
use Rattle.ip_rows.specs.Programs.{IsBetween, sides_of}
use Rattle.program_leaves.proofs.Points.{sides_long}
use Rattle.program_leaves.proofs.leaf.leaf_value.Goals as goal

pub value_in-requires-clause-count : goal.value_in-requires-clause-count
value_in-requires-clause-count c = sides_long c.args.program.now c.args.fold.now c.args.map.now.stands c.args.sides.now c.requires.matched c.requires.inside

pub value_in-requires-clause-between : goal.value_in-requires-clause-between
value_in-requires-clause-between c = subst (IsBetween (sides_of c.args.program.now.columns)) (sym c.as_slice.ensures) c.in_ok-point.ensures.between
