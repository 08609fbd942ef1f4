use Rattle.std.proofs.Common.{◌∙◌, sym, ap}
use Rattle.ip_partition.specs.Spreading.{first_part}
use Rattle.ip_partition.proofs.RowLemmas.{first_is_live}
use Rattle.ip_partition.proofs.split.label_of_row.Goals as goal

pub bounds-labels-column : goal.bounds-labels-column
bounds-labels-column c = c.requires.room c.args.row c.in-Some.column (first_is_live c.args.grid.now c.args.row c.in-Some.column c.row-walk.result c.next.new.self c.row-walk.ensures.numbers c.in-Some.ensures.steps)

pub returns-in-Some : goal.returns-in-Some
returns-in-Some c = ap (first_part c.args.labels.now) (sym c.in-Some.ensures.steps ∙ c.row-walk.ensures.numbers)

pub returns-in-None : goal.returns-in-None
returns-in-None c = ap (first_part c.args.labels.now) (sym c.in-None.ensures.steps.0 ∙ c.row-walk.ensures.numbers)
