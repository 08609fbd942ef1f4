use Rattle.std.proofs.Common.{ap, arith, to_z, of_z}
use Rattle.std.specs.Int.{w128}
use Rattle.std.proofs.lemmas.Int.{to_z-of_z}
use Rattle.rat128.specs.Rationals.{value}
use Rattle.dict_pivot.specs.Dictionaries.{table}
use Rattle.dual_simplex.proofs.Chosen.{past_by, small_best}
use Rattle.dual_simplex.proofs.next.is_past.Goals as goal

pub cell-requires-clause-row : goal.cell-requires-clause-row
cell-requires-clause-row c = omega (arith, c.requires.dictionary.tall)

pub cell-requires-clause-column : goal.cell-requires-clause-column
cell-requires-clause-column c = omega (arith, c.requires.dictionary.width)

pub returns-in-Some : goal.returns-in-Some
returns-in-Some c = past_by c.args.best c.in-Some.best (to_z w128 (of_z w128 c.in-Some.best)) c.cell.result (table c.args.dict.now) c.is_above.result c.in-Some.is (to_z-of_z w128 c.in-Some.best (small_best c.args.best c.in-Some.best c.in-Some.is c.requires.best)) (ap value c.cell.ensures.cell) c.is_above.ensures
