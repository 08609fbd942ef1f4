use Rattle.std.proofs.Common.{ap, arith}
use Rattle.rat128.specs.Rationals.{value}
use Rattle.dual_simplex.proofs.Chosen.{below_by_order, same_by_order, above_by_order}
use Rattle.dual_simplex.proofs.violated.is_violated.Goals as goal

pub cell-requires-clause-column : goal.cell-requires-clause-column
cell-requires-clause-column c = omega (arith, c.least-least.ensures.dictionary.width)

pub returns-in-Less : goal.returns-in-Less
returns-in-Less c = below_by_order c.cell.result c.least-least.result _ _ c.order.result (ap value c.cell.ensures.cell) (ap value c.least-least.ensures.least) c.order.ensures.value c.in-Less.is

pub returns-in-Equal : goal.returns-in-Equal
returns-in-Equal c = same_by_order c.cell.result c.least-least.result _ _ c.order.result (ap value c.cell.ensures.cell) (ap value c.least-least.ensures.least) c.order.ensures.value c.in-Equal.is

pub returns-in-Greater : goal.returns-in-Greater
returns-in-Greater c = above_by_order c.cell.result c.least-least.result _ _ c.order.result (ap value c.cell.ensures.cell) (ap value c.least-least.ensures.least) c.order.ensures.value c.in-Greater.is
