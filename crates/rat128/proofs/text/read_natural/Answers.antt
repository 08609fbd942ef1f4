use Rattle.std.proofs.Common.{arith}
use Rattle.rat128.proofs.Texts.{not_empty, single_zero, no_leading_zero}
use Rattle.rat128.proofs.text.read_natural.Goals as goal

pub returns-in-empty : goal.returns-in-empty
returns-in-empty c n h e = not_empty n c.args.digits.now h c.in-empty.len_below e

pub returns-in-48 : goal.returns-in-48
returns-in-48 c =
    (omega arith, single_zero c.args.digits.now (omega arith) (omega arith))

pub returns-in-48-2 : goal.returns-in-48-2
returns-in-48-2 c n h e =
    no_leading_zero n c.args.digits.now h (omega arith) (omega arith) e
