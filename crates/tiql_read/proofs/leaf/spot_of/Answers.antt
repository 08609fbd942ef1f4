use Rattle.std.proofs.Common.{ap, sym, ◌∙◌}
use Rattle.base_kit.specs.Names.{is_name}
use Rattle.tiql_read.proofs.WordValues.{no_name, no_spot}
use Rattle.tiql_read.proofs.leaf.spot_of.Goals as goal

pub returns-in_default : goal.returns-in_default
returns-in_default c = no_spot c.args.seen.now (ap is_name (sym c.as_slice.ensures) ∙ no_name c.as_slice.result.now c.in_default.ensures.cases.0)
