use Rattle.sym_rows.proofs.Hypos.{found_ok}
use Rattle.sym_rows.proofs.hypo.cell_by.Goals as goal

pub returns-in_ok-cell-in-Some : goal.returns-in_ok-cell-in-Some
returns-in_ok-cell-in-Some c =
    found_ok c.args.unknown c.args.value.now c.args.found c.in-Some.number c.in-Some.column c.sides.result c.args.fold.now c.cell.new.fold c.in-Some.is c.sides.ensures c.in_ok-cell-in-Some.field-0 c.in_ok-cell-in-Some.ensures
