use Rattle.std.proofs.Common.{◌∙◌, ap, to_z, of_z}
use Rattle.std.specs.Int.{w128}
use Rattle.std.proofs.lemmas.Int.{to_z-of_z}
use Rattle.rat128.specs.Rationals.{value}
use Rattle.dict_pivot.specs.Dictionaries.{table}
use Rattle.dual_simplex.proofs.Chosen.{positive_by}
use Rattle.dual_simplex.proofs.entering.has_positive.Goals as goal

pub returns : goal.returns
returns c = positive_by (to_z w128 (of_z w128 c.num.result)) c.cell.result ((table c.args.dict.now).cell c.args.row c.args.column) (to_z-of_z w128 c.num.result (record { sfits = c.num.type_inv }) ∙ c.num.ensures.value) (ap value c.cell.ensures.cell)
