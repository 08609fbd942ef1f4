use Rattle.std.proofs.Common.{subst, Option, ℕ}
use Rattle.dict_pivot.specs.Dictionaries.{table}
use Rattle.dual_simplex.specs.Compared.{IsLeastSoFar}
use Rattle.dual_simplex.proofs.Chosen.{true_part, false_part, kept_below, first_positive}
use Rattle.dual_simplex.proofs.entering.lesser.Goals as goal

pub lesser_of-requires-clause-positive : goal.lesser_of-requires-clause-positive
lesser_of-requires-clause-positive c = true_part _ _ c.has_positive.result c.if-has_positive.true c.has_positive.ensures

pub lesser_of-requires-clause-least : goal.lesser_of-requires-clause-least
lesser_of-requires-clause-least c = subst (λ (o : Option ℕ). IsLeastSoFar (table c.args.dict.now) c.args.row c.args.column o) c.in-Some.is c.requires.so_far

pub returns-in-None : goal.returns-in-None
returns-in-None c = first_positive (table c.args.dict.now) c.args.row c.args.column c.requires.some (true_part _ _ c.has_positive.result c.if-has_positive.true c.has_positive.ensures) (subst (λ (o : Option ℕ). IsLeastSoFar (table c.args.dict.now) c.args.row c.args.column o) c.in-None.is c.requires.so_far)

pub returns-in-Some : goal.returns-in-Some
returns-in-Some c = c.lesser_of.ensures

pub returns-else-has_positive : goal.returns-else-has_positive
returns-else-has_positive c = kept_below (table c.args.dict.now) c.args.row c.args.column c.args.least (false_part _ _ c.has_positive.result c.if-has_positive.false c.has_positive.ensures) c.requires.so_far
