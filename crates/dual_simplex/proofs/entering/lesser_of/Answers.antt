use Rattle.std.proofs.Common.{subst, arith}
use Rattle.std.specs.declared.cmp.Ordering.{Ordering}
use Rattle.dict_pivot.specs.Dictionaries.{table}
use Rattle.dual_simplex.specs.Path.{divided}
use Rattle.dual_simplex.specs.Compared.{Compares}
use Rattle.dual_simplex.proofs.Chosen.{lesser_takes, greater_stays, equal_stays, some_before}
use Rattle.dual_simplex.proofs.entering.lesser_of.Goals as goal

pub order_columns-requires-clause-other : goal.order_columns-requires-clause-other
order_columns-requires-clause-other c = omega (arith, c.requires.least.below, c.requires.column)

pub order_columns-requires-clause-one_positive : goal.order_columns-requires-clause-one_positive
order_columns-requires-clause-one_positive c = c.requires.positive

pub order_columns-requires-clause-other_positive : goal.order_columns-requires-clause-other_positive
order_columns-requires-clause-other_positive c = c.requires.least.positive

pub returns-in-Less : goal.returns-in-Less
returns-in-Less c = lesser_takes (table c.args.dict.now) c.args.row c.args.column c.args.before (some_before c.args.column c.args.before c.requires.least.below) c.requires.positive (subst (λ (o : Ordering). Compares c.args.dict.now.height (divided (table c.args.dict.now) c.args.row c.args.column) (divided (table c.args.dict.now) c.args.row c.args.before) o) c.in-Less.is c.order_columns.ensures) c.requires.least

pub returns-in-Equal : goal.returns-in-Equal
returns-in-Equal c = equal_stays (table c.args.dict.now) c.args.row c.args.column c.args.before (subst (λ (o : Ordering). Compares c.args.dict.now.height (divided (table c.args.dict.now) c.args.row c.args.column) (divided (table c.args.dict.now) c.args.row c.args.before) o) c.in-Equal.is c.order_columns.ensures) c.requires.least

pub returns-in-Greater : goal.returns-in-Greater
returns-in-Greater c = greater_stays (table c.args.dict.now) c.args.row c.args.column c.args.before (subst (λ (o : Ordering). Compares c.args.dict.now.height (divided (table c.args.dict.now) c.args.row c.args.column) (divided (table c.args.dict.now) c.args.row c.args.before) o) c.in-Greater.is c.order_columns.ensures) c.requires.least
