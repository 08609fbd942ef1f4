use Rattle.std.proofs.Common.{◌≡◌, ◌++◌, drop, map}
use Rattle.bool_encode.specs.Tables.{times}
use Rattle.program_rows.proofs.linear.sum_form.Given as goal

abbrev pub invariant-loop-kid : goal.invariant-loop-kid
invariant-loop-kid l = l.pieces ++ map (times l.sign) (drop l.kid-index l.kids) ≡ map (times l.sign) l.kids
