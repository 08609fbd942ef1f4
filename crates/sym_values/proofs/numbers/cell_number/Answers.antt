use Rattle.std.proofs.Common.{rules}
use Rattle.sym_values.proofs.Numbering.{cell_given}
use Rattle.sym_values.proofs.numbers.cell_number.Goals as goal

pub returns-in-Some-Number : goal.returns-in-Some-Number
returns-in-Some-Number c = cell_given _ c.args.fold.now c.in-Some-Number.id (search rules) c.requires
