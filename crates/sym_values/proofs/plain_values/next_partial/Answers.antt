use Rattle.std.proofs.Common.{arith}
use Rattle.std.proofs.lemmas.Int.{to_z-of_z, fits_signed_from_abs}
use Rattle.row_values.proofs.Evaluate.{product_size}
use Rattle.sym_values.specs.Steps.{next}
use Rattle.sym_values.proofs.plain_values.next_partial.Goals as goal

pub returns-else-unsigned_abs-gt-MOST_SIZE-clause-value : goal.returns-else-unsigned_abs-gt-MOST_SIZE-clause-value
unfolding next
returns-else-unsigned_abs-gt-MOST_SIZE-clause-value c = let k = product_size c.args.partial c.args.factor (grind (arith, c.unsigned_abs.ensures.value, c.if-unsigned_abs-gt-MOST_SIZE.false)) c.requires.factor in grind (arith, to_z-of_z, fits_signed_from_abs, k)

pub returns-else-unsigned_abs-gt-MOST_SIZE-clause-bound : goal.returns-else-unsigned_abs-gt-MOST_SIZE-clause-bound
returns-else-unsigned_abs-gt-MOST_SIZE-clause-bound c = let k = product_size c.args.partial c.args.factor (grind (arith, c.unsigned_abs.ensures.value, c.if-unsigned_abs-gt-MOST_SIZE.false)) c.requires.factor in grind (arith, to_z-of_z, fits_signed_from_abs, k)
